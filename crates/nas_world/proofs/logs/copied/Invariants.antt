use Rattle.std.proofs.Common.{◌≡◌, ◌++◌, drop}
use Rattle.nas_world.proofs.logs.copied.Given as goal

-- the copies so far, and the messages that are left
abbrev pub invariant-loop-send : goal.invariant-loop-send
invariant-loop-send l = l.copies ++ drop l.send-index l.from ≡ l.from
