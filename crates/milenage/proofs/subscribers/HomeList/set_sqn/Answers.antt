use Rattle.milenage.proofs.HomeLemmas.{home_items}
use Rattle.milenage.proofs.subscribers.HomeList.set_sqn.Goals as goal

pub invariant_of-self : goal.invariant_of-self
invariant_of-self c =
    home_items c.self.inside.items c.args.supi.now c.args.sqn c.as_mut_slice.result.now c.set_first.new.subscribers
    c.requires c.self.invariant c.as_mut_slice.ensures.value c.set_first.ensures
