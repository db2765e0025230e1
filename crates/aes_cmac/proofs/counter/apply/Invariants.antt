use Rattle.aes_cmac.specs.Aes.{cipher}
use Rattle.aes_cmac.proofs.CtrLemmas.{IsDoneTo}
use Rattle.aes_cmac.proofs.counter.apply.Given as goal

abbrev pub invariant-loop-n : goal.invariant-loop-n
invariant-loop-n l = IsDoneTo (cipher l.keys) l.first l.initial.octets l.n l.octets l.counter
