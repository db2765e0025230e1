-- Two 5G-GUTIs at most are kept for each subscriber, said of a list and of each of it.
use Rattle.std.proofs.Common.{◌≡◌, refl, subst, inl, inr, true, List, [], ◌∷◌, map, arith}
use Rattle.std.proofs.lemmas.Bool.{and_parts}
use Rattle.std.proofs.lemmas.Bool.Decides.{nat_tests}
use Rattle.amf_core.specs.State.{unknown_yet}
use Rattle.amf_core.specs.declared.config.AmfSubscriber.{AmfSubscriber}
use Rattle.amf_core.specs.declared.subscriber.Record.{Record}
use Rattle.amf_laws.specs.Kept.{AreFew, KeepFew}
use Rattle.nas_network.specs.Owners.{all_keep_few, keeps_few}

is_few : (s : Record) → keeps_few s ≡ true → AreFew s.kept
is_few s few = grind (arith, nat_tests, few)

few_is : (s : Record) → AreFew s.kept → keeps_few s ≡ true
few_is s few = grind (arith, nat_tests, few)

pub each_keeps_few : (ss : List Record) → all_keep_few ss ≡ true → KeepFew ss
each_keeps_few [] all s among = absurd among
each_keeps_few (x ∷ ss) all s (inl is) =
    subst (λ (y : Record). AreFew y.kept) is (is_few x (and_parts (keeps_few x) (all_keep_few ss) all).0)
each_keeps_few (x ∷ ss) all s (inr among) = each_keeps_few ss (and_parts (keeps_few x) (all_keep_few ss) all).1 s among

pub all_keep : (ss : List Record) → KeepFew ss → all_keep_few ss ≡ true
all_keep [] each = refl
all_keep (x ∷ ss) each = rw (few_is x (each x (inl refl)), all_keep ss (λ s among. each s (inr among))) refl

pub first_keep : (ss : List AmfSubscriber) → all_keep_few (map unknown_yet ss) ≡ true
first_keep [] = refl
first_keep (s ∷ ss) = first_keep ss
