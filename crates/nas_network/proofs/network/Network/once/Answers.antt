use Rattle.std.proofs.Common.{subst}
use Rattle.nas_network.specs.Owners.{HaveOwners}
use Rattle.nas_network.specs.State.{NetworkState}
use Rattle.nas_network.proofs.Owners.{followed_once}
use Rattle.nas_network.proofs.network.Network.once.Goals as goal

pub returns-in-Ok-clause-owned : goal.returns-in-Ok-clause-owned
returns-in-Ok-clause-owned c =
    followed_once c.args.rand.now c.args.input.now c.args.self.now c.in-Ok.followed.0 c.in-Ok.followed.1 c.requires.no_expiry
    (subst (λ (n : NetworkState). HaveOwners n) c.self.view_is c.self.invariant) c.in-Ok.ensures
