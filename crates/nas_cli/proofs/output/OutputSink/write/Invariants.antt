-- So many octets were taken, and nothing failed.
use Rattle.std.proofs.Common.{◌≡◌, ◌≤◌, ◌-◌, length, take}
use Rattle.std.specs.Io.KnownBytes.{Appends}
use Rattle.nas_cli.proofs.output.OutputSink.write.Given as goal

abbrev pub invariant-loop-taken : goal.invariant-loop-taken
invariant-loop-taken g l =
    (l.self.faults ≡ l.fn.self.faults) × (l.taken ≤ length l.octets)
    × Appends (g.W.Write.contents l.fn.self.writer) (g.W.Write.contents l.self.writer) (take l.taken l.octets)

abbrev pub decreases-loop-taken : goal.decreases-loop-taken
decreases-loop-taken g l = length l.octets - l.taken
