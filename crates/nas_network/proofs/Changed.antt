-- The timers of one of the subscribers.
use Rattle.std.proofs.Common.{◌≡◌, ◌∙◌, sym, ap, ap₂, ℕ, ◌<◌, ◌+◌, true, List, ◌∷◌, ◌++◌, length, take, drop, set, get_or, refl}
use Rattle.std.specs.Str.{bytes_eq}
use Rattle.std.proofs.lemmas.List.{drop-set, drop_more, take-append-drop, take-set}
use Rattle.nas_timers.specs.Timers.{Running}
use Rattle.nas_network.specs.State.{SubscriberTimers, changed_for}

-- they are changed at the first place that has the SUPI
pub changed_here : (supi : List ℕ) (change : List Running → List Running) (i : ℕ) (ss : List SubscriberTimers) (s d : SubscriberTimers)
    → i < length ss → s ≡ get_or ss i d → bytes_eq s.supi supi ≡ true
    → take i ss ++ changed_for supi change (drop i ss) ≡ changed_for supi change ss
    → set ss i (record s { timers = change s.timers }) ≡ changed_for supi change ss
changed_here supi change i ss s d lt is same told =
    let new : SubscriberTimers = record s { timers = change s.timers } in
    let here : drop i ss ≡ s ∷ drop (i + 1) ss = drop_more ss i d lt ∙ ap (λ (x : SubscriberTimers). x ∷ drop (i + 1) ss) (sym is) in
    let tail : changed_for supi change (drop i ss) ≡ new ∷ drop (i + 1) ss = rw (here, same) refl in
    sym (take-append-drop i (set ss i new)) ∙ ap₂ (λ (xs ys : List SubscriberTimers). xs ++ ys) (take-set ss i new) (drop-set ss i new lt ∙ sym tail) ∙ told
