use Rattle.std.proofs.Common.{refl}
use Rattle.aes_cmac.proofs.RoundLemmas.{keys_at_start, keys_more, keys_all}
use Rattle.aes_cmac.proofs.schedule.round_keys.Goals as goal

pub loop-n-init : goal.loop-n-init
loop-n-init c = keys_at_start c.args.key.now _ refl c.state_of_block-keys.ensures

pub loop-n-preserved : goal.loop-n-preserved
loop-n-preserved c = keys_more c.args.key.now c.loop-n.keys c.loop-n.n c.next_key.result c.loop-n-test.true c.loop-n.invariant c.next_key.ensures

pub returns : goal.returns
returns c = keys_all c.args.key.now c.loop-n.keys c.loop-n.n c.loop-n-test.false c.loop-n.invariant
