-- Before any event no timer runs, and no procedure is open.
use Rattle.std.proofs.Common.{◌≡◌, ap, refl, ℕ, Bool, true, false, not, List, [], ◌∷◌, map, None, Some, if◌then◌else◌}
use Rattle.std.specs.Str.{bytes_eq}
use Rattle.std.proofs.lemmas.Bool.{and_parts}
use Rattle.amf_core.specs.Config.{are_distinct, has_same_supi}
use Rattle.amf_core.specs.State.{subscriber_in, unknown_yet}
use Rattle.amf_core.specs.declared.config.AmfSubscriber.{AmfSubscriber}
use Rattle.amf_laws.specs.Timers.{AreDistinct}
use Rattle.amf_laws.specs.Timers as laws
use Rattle.nas_network.specs.Config.{IsNetwork, NetValues, SubscriberValues, amf_of, at_amf}
use Rattle.amf_laws.specs.Kept.{supis}
use Rattle.nas_network.specs.Owners.{HaveOwners, running_for, running_of, timed}
use Rattle.nas_network.specs.State.{first, no_timers, timers_of}
use Rattle.nas_network.proofs.Beginnings.{subscribed_once}
use Rattle.nas_network.proofs.Few.{first_keep}

none_has : (s : AmfSubscriber) (others : List AmfSubscriber) → not (has_same_supi s others) ≡ true
    → subscriber_in s.supi (map unknown_yet others) ≡ None
none_has s [] none = refl
none_has s (other ∷ others) none = by_test (bytes_eq other.supi s.supi) none (none_has s others) where
  by_test : (b : Bool) → not (if b then true else has_same_supi s others) ≡ true
      → (not (has_same_supi s others) ≡ true → subscriber_in s.supi (map unknown_yet others) ≡ None)
      → (if b then Some (unknown_yet other) else subscriber_in s.supi (map unknown_yet others)) ≡ None
  by_test true h rest = absurd (cc h)
  by_test false h rest = rest h

first_distinct : (ss : List AmfSubscriber) → are_distinct ss ≡ true → AreDistinct (map unknown_yet ss)
first_distinct [] distinct = tt
first_distinct (s ∷ others) distinct =
    let parts = and_parts (not (has_same_supi s others)) (are_distinct others) distinct in
    (none_has s others parts.0, first_distinct others parts.1)

first_same : (ss : List SubscriberValues) → timed (map no_timers ss) ≡ supis (map unknown_yet (at_amf ss))
first_same [] = refl
first_same (s ∷ ss) = ap (λ (ys : List (List ℕ)). s.supi ∷ ys) (first_same ss)

first_fit : (x : List ℕ) (ss : List SubscriberValues)
    → running_for (map no_timers ss) x ≡ laws.running_for (subscriber_in x (map unknown_yet (at_amf ss)))
first_fit x [] = refl
first_fit x (s ∷ ss) = by_test (bytes_eq s.supi x) (first_fit x ss) where
  by_test : (b : Bool) → running_for (map no_timers ss) x ≡ laws.running_for (subscriber_in x (map unknown_yet (at_amf ss)))
      → running_of (if b then [] else timers_of x (map no_timers ss))
      ≡ laws.running_for (if b then Some (unknown_yet (amf_of s)) else subscriber_in x (map unknown_yet (at_amf ss)))
  by_test true rest = refl
  by_test false rest = rest

pub first_owned : (config : NetValues) → IsNetwork config → HaveOwners (first config)
first_owned config h = record {
  fit = λ x. first_fit x config.subscribers;
  distinct = first_distinct (at_amf config.subscribers) (subscribed_once config.plmn config.subscribers h.known);
  same = first_same config.subscribers;
  few = first_keep (at_amf config.subscribers);
}
