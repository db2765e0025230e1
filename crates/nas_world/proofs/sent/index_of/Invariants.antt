use Rattle.std.proofs.Common.{take}
use Rattle.nas_world.specs.Index.{Says}
use Rattle.nas_world.specs.contracts.sent.SentKeyPartialEq.TheImpl as key
use Rattle.nas_world.proofs.sent.index_of.Given as goal

-- the messages so far are found
abbrev pub invariant-loop-send : goal.invariant-loop-send
invariant-loop-send l = Says key.ghosts.eq l.index (take l.send-index l.sends)
