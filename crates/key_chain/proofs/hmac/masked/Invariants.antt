use Rattle.std.proofs.Common.{◌≡◌, ◌++◌, take, drop}
use Rattle.key_chain.specs.Hmac.{masked}
use Rattle.key_chain.proofs.hmac.masked.Given as goal

-- the octets so far are masked
abbrev pub invariant-loop-octet : goal.invariant-loop-octet
invariant-loop-octet l =
    l.octet-items ≡ masked l.pad (take l.octet-index l.initial.octet-items) ++ drop l.octet-index l.initial.octet-items
