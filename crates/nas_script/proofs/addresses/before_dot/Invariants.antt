use Rattle.std.proofs.Common.{◌≡◌, ◌+◌, drop}
use Rattle.nas_script.specs.Addresses.{before_dot}
use Rattle.nas_script.proofs.addresses.before_dot.Given as goal

-- the octets so far, and those that are left
abbrev pub invariant-loop-octet : goal.invariant-loop-octet
invariant-loop-octet l = record {
  count : l.count ≡ l.octet-index;
  told : l.count + before_dot (drop l.octet-index l.text) ≡ before_dot l.text;
}
