use Rattle.aes_cmac.proofs.RoundLemmas.{state_behind_none, state_behind_more}
use Rattle.aes_cmac.proofs.cipher.enciphered.Goals as goal

pub loop-n-init : goal.loop-n-init
loop-n-init c = cc (state_behind_none c.args.keys.now c.args.block.now)

pub loop-n-preserved : goal.loop-n-preserved
loop-n-preserved c = cc (state_behind_more c.args.keys.now c.args.block.now c.loop-n.n c.loop-n.auto.n)
