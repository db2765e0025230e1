use Rattle.aes_cmac.specs.Aes.{cipher}
use Rattle.aes_cmac.proofs.CmacLemmas.{cmac_more, cmac_last}
use Rattle.aes_cmac.proofs.mac.mac_from.Goals as goal

pub loop-left-preserved : goal.loop-left-preserved
loop-left-preserved c = cc (cmac_more (cipher c.args.keys.now) c.loop-left.chain c.loop-left.left.now c.loop-left-test.true)

pub returns : goal.returns
returns c = cc (cmac_last (cipher c.args.keys.now) c.loop-left.chain c.loop-left.left.now c.loop-left-test.false)
