use Rattle.std.proofs.Common.{◌≡◌}
use Rattle.amf_core.specs.Framing.{by, framed_all}
use Rattle.amf_core.proofs.framing.Framing.all.Given as goal

-- what is left to be framed onto what there is gives the whole
abbrev pub invariant-loop-act : goal.invariant-loop-act
invariant-loop-act l = by (framed_all l.act-iterator.rest.items) l.self ≡ by (framed_all l.fn.acts) l.initial.self
