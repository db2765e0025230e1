use Rattle.std.proofs.Common.{arith}
use Rattle.aes_cmac.specs.Aes.{cipher}
use Rattle.aes_cmac.proofs.RoundLemmas.{length-cipher}
use Rattle.aes_cmac.proofs.CtrLemmas.{done_none, done_more, done_all}
use Rattle.aes_cmac.proofs.counter.apply.Goals as goal

pub loop-n-init : goal.loop-n-init
loop-n-init c =
    done_none (cipher c.args.keys.now) c.args.first.now c.args.octets.now c.from_be_bytes-counter.result c.from_be_bytes-counter.ensures
    c.from_be_bytes-counter.type_inv

pub loop-n-preserved : goal.loop-n-preserved
loop-n-preserved c =
    done_more (cipher c.args.keys.now) c.args.first.now c.args.octets.now c.loop-n.octets c.loop-n.n c.loop-n.counter _ c.to_be_bytes.result _
    (length-cipher c.args.keys.now) c.loop-n.invariant (omega arith) (omega arith) c.to_be_bytes.ensures (cc)

pub returns : goal.returns
returns c =
    done_all (cipher c.args.keys.now) c.args.first.now c.args.octets.now c.loop-n.octets c.loop-n.n c.loop-n.counter (omega arith)
    c.loop-n.invariant
