use Rattle.nas_world.proofs.Judged.{down_kept}
use Rattle.nas_world.proofs.honesty.Judged.send_down.Goals as goal

pub invariant_of-self-2 : goal.invariant_of-self-2
invariant_of-self-2 c = rw c.in_ok-add_down.ensures.ok (down_kept _ _ c.args.sends c.self.invariant)
