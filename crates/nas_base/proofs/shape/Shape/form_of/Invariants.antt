use Rattle.std.proofs.Common.{◌≡◌, drop}
use Rattle.nas_base.specs.Walking.{form_of}
use Rattle.nas_base.proofs.shape.Shape.form_of.Given as goal

-- the rows that are left have the identifier's form, if any has
abbrev pub invariant-loop-row : goal.invariant-loop-row
invariant-loop-row l = form_of (drop l.row-index l.row-items) l.iei ≡ form_of l.row-items l.iei
