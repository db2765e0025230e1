use Rattle.std.proofs.Common.{◌≡◌, ◌++◌, length, take, drop}
use Rattle.milenage.specs.Octets.{◌⊕◌}
use Rattle.milenage.proofs.octets.xor.Given as goal

-- the octets so far, and those that are left with theirs of the other string, are the whole exclusive or
abbrev pub invariant-loop-n : goal.invariant-loop-n
invariant-loop-n g l = record {
  count : length l.octet-items ≡ length l.y;
  told : take l.n l.octet-items ++ (drop l.n l.octet-items ⊕ drop l.n l.y) ≡ l.initial.octet-items ⊕ l.y;
}
