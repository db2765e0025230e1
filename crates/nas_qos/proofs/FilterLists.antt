-- Filters that are joined, and those that are left where some are deleted.
use Rattle.std.proofs.Common.{◌≡◌, ◌<◌, ◌≤◌, ◌+◌, ℕ, Bool, true, false, not, ◌&&◌, List, [], ◌∷◌, ◌++◌, length, take, get_or, nat_eq, cond, append_assoc, sym, ◌∙◌, ap, arith, refl}
use Rattle.std.specs.List.{filter, list_all, list_any}
use Rattle.std.proofs.lemmas.Bool.Decides.{nat_tests}
use Rattle.std.proofs.lemmas.Grind.{common_steps}
use Rattle.std.proofs.lemmas.List.{append-nil}
use Rattle.std.proofs.lemmas.List.Elements.{filter_more}
use Rattle.nas_qos.specs.Applying.{remaining}
use Rattle.nas_qos.specs.Filters.{PacketFilter, ids_differ, names}

none_names : (one : PacketFilter) (there more : List PacketFilter) → list_any (λ f. names f.id (one ∷ there)) more ≡ false
    → (names one.id more ≡ false) × (list_any (λ f. names f.id there) more ≡ false)
none_names one there [] h = (refl, refl)
none_names one there (f ∷ more) h =
    let rest = none_names one there more (grind (arith, h)) in
    let other : nat_eq f.id one.id ≡ false = grind (arith, nat_tests, h) in (grind (arith, other, rest.0), grind (arith, h, rest.1))

pub differ_joined : (there more : List PacketFilter) → ids_differ there ≡ true → ids_differ more ≡ true → list_any (λ f. names f.id there) more ≡ false
    → ids_differ (there ++ more) ≡ true
differ_joined [] more differ new none = new
differ_joined (f ∷ there) more differ new none =
    let parts = none_names f there more none in
    let rest = differ_joined there more (grind (arith, differ)) new parts.1 in grind (arith, common_steps, differ, parts.0, rest)

pub all_filtered : (P Q : PacketFilter → Bool) (filters : List PacketFilter) → list_all P filters ≡ true → list_all P (filter Q filters) ≡ true
all_filtered P Q [] h = refl
all_filtered P Q (f ∷ filters) h =
    let rest = all_filtered P Q filters (grind (arith, h)) in grind (arith, h, rest)

none_filtered : (P Q : PacketFilter → Bool) (filters : List PacketFilter) → list_any P filters ≡ false → list_any P (filter Q filters) ≡ false
none_filtered P Q [] h = refl
none_filtered P Q (f ∷ filters) h =
    let rest = none_filtered P Q filters (grind (arith, h)) in grind (arith, h, rest)

pub differ_filtered : (Q : PacketFilter → Bool) (filters : List PacketFilter) → ids_differ filters ≡ true → ids_differ (filter Q filters) ≡ true
differ_filtered Q [] differ = refl
differ_filtered Q (f ∷ filters) differ =
    let rest = differ_filtered Q filters (grind (arith, differ)) in
    let alone = none_filtered (λ g. nat_eq g.id f.id) Q filters (grind (arith, differ)) in grind (arith, differ, rest, alone)

pub length_filtered : (Q : PacketFilter → Bool) (filters : List PacketFilter) → length (filter Q filters) ≤ length filters
length_filtered Q [] = omega arith
length_filtered Q (f ∷ filters) = go (Q f) (length_filtered Q filters) where
  go : (b : Bool) → length (filter Q filters) ≤ length filters → length (cond b (f ∷ filter Q filters) (filter Q filters)) ≤ length (f ∷ filters)
  go true rest = omega (arith, rest)
  go false rest = omega (arith, rest)

-- no filter is left exactly where each is deleted
pub none_left : (gone filters : List PacketFilter) → nat_eq (length (remaining gone filters)) 0 ≡ list_all (λ f. names f.id gone) filters
none_left gone [] = refl
none_left gone (f ∷ filters) = go (names f.id gone) (none_left gone filters) where
  go : (b : Bool) → nat_eq (length (remaining gone filters)) 0 ≡ list_all (λ g. names g.id gone) filters
      → nat_eq (length (cond (not b) (f ∷ remaining gone filters) (remaining gone filters))) 0 ≡ (b && list_all (λ g. names g.id gone) filters)
  go true rest = rest
  go false rest = grind (arith, nat_tests)

-- one filter more is looked at

remaining_more : (gone filters : List PacketFilter) (i : ℕ) (one : PacketFilter) (named : Bool) → i < length filters → one ≡ get_or filters i one → names one.id gone ≡ named
    → remaining gone (take (i + 1) filters) ≡ remaining gone (take i filters) ++ cond (not named) (one ∷ []) []
remaining_more gone filters i one named there is told =
    filter_more (λ f. not (names f.id gone)) filters i one there
    ∙ ap (λ (f : PacketFilter). remaining gone (take i filters) ++ cond (not (names f.id gone)) (f ∷ []) []) (sym is)
    ∙ ap (λ (b : Bool). remaining gone (take i filters) ++ cond (not b) (one ∷ []) []) told

pub one_gone : (gone start filters before : List PacketFilter) (i : ℕ) (one : PacketFilter) → i < length filters → one ≡ get_or filters i one → names one.id gone ≡ true
    → before ≡ start ++ remaining gone (take i filters)
    → before ≡ start ++ remaining gone (take (i + 1) filters)
one_gone gone start filters before i one there is named told =
    told ∙ ap (λ fs. start ++ fs) (sym (remaining_more gone filters i one true there is named ∙ append-nil (remaining gone (take i filters))))

pub one_kept : (gone start filters before after : List PacketFilter) (i : ℕ) (one : PacketFilter) → i < length filters → one ≡ get_or filters i one → names one.id gone ≡ false
    → before ≡ start ++ remaining gone (take i filters)
    → after ≡ before ++ one ∷ []
    → after ≡ start ++ remaining gone (take (i + 1) filters)
one_kept gone start filters before after i one there is other told pushed =
    pushed
    ∙ ap (λ fs. fs ++ one ∷ []) told
    ∙ append_assoc start (remaining gone (take i filters)) (one ∷ [])
    ∙ ap (λ fs. start ++ fs) (sym (remaining_more gone filters i one false there is other))
