use Rattle.std.proofs.Common.{subst}
use Rattle.nas_handset.specs.Owners.{HaveOwners}
use Rattle.nas_handset.specs.State.{HandsetState}
use Rattle.nas_handset.proofs.Owners.{first_owned}
use Rattle.nas_handset.proofs.handset.Handset.first_step.Goals as goal

pub returns-in-Ok-clause-owned : goal.returns-in-Ok-clause-owned
returns-in-Ok-clause-owned c =
    first_owned c.in-Ok.turn c.args.input c.args.self.now c.requires c.in-Ok.ensures
    (subst (λ (h : HandsetState). HaveOwners h) c.self.view_is c.self.invariant)
