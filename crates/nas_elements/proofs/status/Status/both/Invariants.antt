use Rattle.std.proofs.Common.{◌≡◌, ◌++◌, length, take, drop}
use Rattle.nas_elements.specs.Status.{both}
use Rattle.nas_elements.proofs.status.Status.both.Given as goal

-- the places so far and what both sets hold of those left are what both hold
abbrev pub invariant-loop-index : goal.invariant-loop-index
invariant-loop-index l =
    (take l.index l.place-items ++ both (drop l.index l.self-inside.held) (drop l.index l.other-inside.held) ≡ both l.self-inside.held l.other-inside.held)
    × (length l.place-items ≡ 15)
