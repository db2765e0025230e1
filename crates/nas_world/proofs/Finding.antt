-- An index of the contexts that were taken into use finds what the list has.
use Rattle.std.proofs.Common.{◌≡◌, Bool, true, false, cond, ◌||◌, ◌&&◌, ◌==◌, List, [], ◌∷◌, ◌++◌, refl, sym, ◌∙◌}
use Rattle.std.specs.List.{list_any}
use Rattle.std.specs.Str.{bytes_eq}
use Rattle.std.proofs.lemmas.List.Folds.{list_any-append}
use Rattle.indexmap.specs.IndexSet.{IndexSet, IsEmpty, IsUnchanged, Updates}
use Rattle.nas_security.specs.Contexts.{SecurityContext}
use Rattle.nas_world.specs.Taken.{Finds, is_same, taken_key, was_taken}
use Rattle.nas_world.specs.declared.taken.TakenKey.{TakenKey}
use Rattle.nas_world.specs.contracts.taken.TakenKeyPartialEq.TheImpl as key

regrouped : (a b c d e f g h : Bool) →
    (a && (b && (c && (d && (e && (f && (g && h))))))) ≡ ((a && b) && (c && (d && ((e && f) && (g && h)))))
regrouped false b c d e f g h = refl
regrouped true b c d false f g h = refl
regrouped true b c d true f g h = refl

-- the test of keys is the test of contexts
by_key : (own net : SecurityContext) → key.ghosts.eq (taken_key own) (taken_key net) ≡ is_same own net
by_key own net =
    regrouped (own.challenge.sqn == net.challenge.sqn) (bytes_eq own.challenge.rand net.challenge.rand) (own.ksi == net.ksi)
    (bytes_eq own.kamf net.kamf) (own.algs.nea == net.algs.nea) (own.algs.nia == net.algs.nia) (bytes_eq own.keys.enc net.keys.enc)
    (bytes_eq own.keys.int net.keys.int)

-- an empty one; one that is as it was
pub nothing_found : {S : Type 0} (index : IndexSet TakenKey S) → IsEmpty index → Finds key.ghosts.eq index []
nothing_found index empty = record { finds = λ net. rw empty refl }

pub still_found : {S : Type 0} (old new : IndexSet TakenKey S) (taken : List SecurityContext) → IsUnchanged old new →
    Finds key.ghosts.eq old taken → Finds key.ghosts.eq new taken
still_found old new taken same found = record { finds = λ net. rw same (found.finds net) }

-- one context more
or_one : (b x : Bool) → cond b true x ≡ (x || (b || false))
or_one false false = refl
or_one false true = refl
or_one true false = refl
or_one true true = refl

pub one_more_found : {S : Type 0} (old kept new : IndexSet TakenKey S) (k : TakenKey) (own : SecurityContext) (taken : List SecurityContext) →
    IsUnchanged old kept → k ≡ taken_key own → Updates key.ghosts.eq kept new k true → Finds key.ghosts.eq old taken →
    Finds key.ghosts.eq new (taken ++ own ∷ [])
one_more_found old kept new k own taken same is updates found = record {
  finds = λ net.
      updates.0 (taken_key net)
      ∙ (λ i. cond (key.ghosts.eq (is i) (taken_key net)) true (list_any (key.ghosts.eq (taken_key net)) (same i)))
      ∙ (λ i. cond (by_key own net i) true (found.finds net i)) ∙ or_one (is_same own net) (was_taken net taken)
      ∙ sym (list_any-append (λ c. is_same c net) taken (own ∷ []));
}
