-- One more table.
use Rattle.std.proofs.Common.{◌≡◌, List, [], ◌∷◌, ◌++◌, Ok, refl}
use Rattle.toml.specs.Data.{Data}
use Rattle.nas_base.specs.Plmn.{PlmnIdentity}
use Rattle.nas_network.specs.Config.{SubscriberValues}
use Rattle.nas_script.specs.Subscribers.{subscriber_in, subscribers_in}

-- the first of the tables was read
pub subscribers_in-more : (plmn : PlmnIdentity) (before : List SubscriberValues) (d : Data) (ds : List Data) (s : SubscriberValues) →
    subscriber_in plmn before d ≡ Ok s → subscribers_in plmn (before ++ s ∷ []) ds ≡ subscribers_in plmn before (d ∷ ds)
subscribers_in-more plmn before d ds s e = rw e refl
