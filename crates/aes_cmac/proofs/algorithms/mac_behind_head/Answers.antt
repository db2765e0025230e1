use Rattle.std.proofs.Common.{◌-◌, ◌++◌, refl, length, take, replicate}
use Rattle.aes_cmac.specs.Aes.{cipher}
use Rattle.aes_cmac.proofs.HeadLemmas.{cmac_behind}
use Rattle.aes_cmac.proofs.algorithms.mac_behind_head.Goals as goal

pub returns : goal.returns
returns c = cc (cmac_behind (cipher c.args.keys.now) c.args.head.now c.args.octets.now (c.args.head.now ++ (take 8 c.args.octets.now ++ replicate (8 - length (take 8 c.args.octets.now)) 0)) c.told-head c.if-octets-le8.false refl)
