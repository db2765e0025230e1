use Rattle.std.proofs.Common.{◌+◌, ◌-◌, length, arith}
use Rattle.aes_cmac.proofs.HeadLemmas.{head_filled}
use Rattle.aes_cmac.proofs.algorithms.head_block.Goals as goal

pub returns : goal.returns
returns c =
    rw (c.copy_from_slice.ensures.after, c.copy_from_slice-2.ensures.after)
    (head_filled c.args.head.now c.args.front.now (8 + length c.args.front.now - 8) c.told-head (omega arith))
