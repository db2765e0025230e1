use Rattle.std.proofs.Common.{◌≡◌, ◌++◌, take, drop}
use Rattle.aes_cmac.specs.Blocks.{xor_of}
use Rattle.aes_cmac.proofs.blocks.add_mask.Given as goal

-- the octets so far, and what the addition to those that are left gives, are the whole sum
abbrev pub invariant-loop-n : goal.invariant-loop-n
invariant-loop-n l = take l.n l.octets ++ xor_of (drop l.n l.octets) (drop l.n l.mask) ≡ xor_of l.initial.octets l.mask
