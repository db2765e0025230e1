use Rattle.std.proofs.Common.{◌≡◌, map}
use Rattle.smf_core.specs.Step.{out_of}
use Rattle.smf_core.proofs.draft.outs_of.Given as goal

abbrev pub invariant-loop-act : goal.invariant-loop-act
invariant-loop-act l = l.outs ≡ map out_of l.yielded
