use Rattle.std.proofs.Common.{◌≡◌, ◌-◌}
use Rattle.aes_cmac.specs.Aes.{state_behind}
use Rattle.aes_cmac.proofs.cipher.enciphered.Given as goal

-- the state is that behind the rounds so far
abbrev pub invariant-loop-n : goal.invariant-loop-n
invariant-loop-n l = l.state ≡ state_behind l.keys l.block (l.n - 1)
