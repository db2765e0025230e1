use Rattle.nas_world.proofs.Judged.{up_kept}
use Rattle.nas_world.proofs.honesty.Judged.send_up.Goals as goal

pub invariant_of-self-2 : goal.invariant_of-self-2
invariant_of-self-2 c = rw c.in_ok-add_up.ensures.ok (up_kept _ _ c.args.sends c.self.invariant)
