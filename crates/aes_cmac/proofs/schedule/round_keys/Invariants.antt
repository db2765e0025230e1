use Rattle.aes_cmac.proofs.RoundLemmas.{AreKeysTo}
use Rattle.aes_cmac.proofs.schedule.round_keys.Given as goal

-- the round keys up to here stand in their places
abbrev pub invariant-loop-n : goal.invariant-loop-n
invariant-loop-n l = AreKeysTo l.key l.n l.keys
