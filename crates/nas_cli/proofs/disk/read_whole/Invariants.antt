use Rattle.std.proofs.Common.{◌≤◌, length}
use Rattle.std.specs.Io.KnownBytes.{Consumes}
use Rattle.nas_cli.proofs.disk.read_whole.Given as goal

-- what was kept is what was taken, and no more than the limit
abbrev pub invariant-loop : goal.invariant-loop
invariant-loop g l =
    (length l.items.items ≤ l.limit) × Consumes (g.F.Read.remaining l.fn.file) (g.F.Read.remaining l.file) l.items.items
