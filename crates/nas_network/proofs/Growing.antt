-- One more subscriber.
use Rattle.std.proofs.Common.{◌≡◌, true, false, List, [], ◌∷◌, ◌++◌, refl, arith}
use Rattle.std.specs.List.{list_all}
use Rattle.std.proofs.lemmas.Grind.{common_steps}
use Rattle.std.proofs.lemmas.List.Folds.{list_all-append}
use Rattle.nas_base.specs.Plmn.{PlmnIdentity}
use Rattle.nas_base.specs.Supi.{is_of_plmn}
use Rattle.nas_network.specs.Config.{SubscriberValues, are_new, has_plmn, is_subscriber}

pub are_new-push : (before ss : List SubscriberValues) (s : SubscriberValues) → are_new before ss ≡ true → is_subscriber s.supi (before ++ ss) ≡ false →
    are_new before (ss ++ s ∷ []) ≡ true
are_new-push before [] s old new = grind (arith, common_steps)
are_new-push before (t ∷ ss) s old new = grind (arith, common_steps, are_new-push (before ++ t ∷ []) ss s)

pub network-push : (plmn : PlmnIdentity) (ss : List SubscriberValues) (s : SubscriberValues) → list_all (has_plmn plmn) ss ≡ true →
    is_of_plmn plmn s.supi ≡ true → list_all (has_plmn plmn) (ss ++ s ∷ []) ≡ true
network-push plmn ss s old new = rw (list_all-append (has_plmn plmn) ss (s ∷ []), old, new) refl
