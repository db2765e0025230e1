use Rattle.std.proofs.Common.{◌≡◌, length}
use Rattle.aes_cmac.specs.Aes.{cipher}
use Rattle.aes_cmac.specs.Cmac.{cmac_from}
use Rattle.aes_cmac.proofs.mac.mac_from.Given as goal

-- what the octets that are left give behind the chaining value so far is the whole
abbrev pub invariant-loop-left : goal.invariant-loop-left
invariant-loop-left l = cmac_from (cipher l.keys) l.chain l.left ≡ cmac_from (cipher l.keys) l.before l.octets

abbrev pub decreases-loop-left : goal.decreases-loop-left
decreases-loop-left l = length l.left
