use Rattle.std.proofs.Common.{◌≡◌, ◌+◌, ◌∷◌, ◌++◌, length, drop}
use Rattle.nas_script.specs.Addresses.{before_dot}
use Rattle.nas_script.specs.Names.{labelled}
use Rattle.nas_script.proofs.names.dnn_of.Given as goal

-- the octets so far and those that the rest of the text gives are those of the whole text
abbrev pub invariant-loop-at : goal.invariant-loop-at
invariant-loop-at l = record {
  count : length l.octets.items ≡ l.at + 1;
  told : l.octets.items ++ labelled (drop l.at l.text) ≡ before_dot l.text ∷ labelled l.text;
}
