use Rattle.std.proofs.Common.{◌≡◌, ◌++◌, true, length, drop}
use Rattle.nas_base.specs.Digits.{all_digits}
use Rattle.key_chain.specs.ServingNetwork.{ascii}
use Rattle.key_chain.proofs.keys.text_of.Given as goal

-- the text so far and that of the digits that are left are that of all
abbrev pub invariant-loop-digit : goal.invariant-loop-digit
invariant-loop-digit l = record {
  count : length l.text.items ≡ l.digit-index;
  digits : all_digits (drop l.digit-index l.digit-items) ≡ true;
  told : l.text.items ++ ascii (drop l.digit-index l.digit-items) ≡ ascii l.digit-items;
}
