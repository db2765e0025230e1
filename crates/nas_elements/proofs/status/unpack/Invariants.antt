use Rattle.std.proofs.Common.{◌≡◌, ◌-◌, ◌++◌, length, take}
use Rattle.nas_elements.specs.Status.{bits}
use Rattle.nas_elements.proofs.status.unpack.Given as goal

-- the places so far and the bits of what is left are those of all
abbrev pub invariant-loop-place : goal.invariant-loop-place
invariant-loop-place l =
    take l.place-index l.places ++ bits (length l.places - l.place-index) l.left ≡ bits (length l.places) l.octet
