use Rattle.std.proofs.Common.{◌≡◌, ◌++◌, List, ℕ, length, drop, option_map}
use Rattle.nas_script.specs.Fields.{digit_values}
use Rattle.nas_script.proofs.fields.digits_of.Given as goal

-- the values so far and those of the octets that are left are those of all
abbrev pub invariant-loop-octet : goal.invariant-loop-octet
invariant-loop-octet l = record {
  count : length l.digits.items ≡ l.octet-index;
  told : option_map (λ (ds : List ℕ). l.digits.items ++ ds) (digit_values (drop l.octet-index l.text)) ≡ digit_values l.text;
}
