use Rattle.std.proofs.Common.{length}
use Rattle.nas_elements.proofs.NssaiReading.{SoFar}
use Rattle.nas_elements.proofs.nssai.Nssai.read.Given as goal

abbrev pub invariant-loop-rest : goal.invariant-loop-rest
invariant-loop-rest l = SoFar l.octets l.items.items l.rest

abbrev pub decreases-loop-rest : goal.decreases-loop-rest
decreases-loop-rest l = length l.rest
