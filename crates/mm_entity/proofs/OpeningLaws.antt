-- What is opened is what passes.
use Rattle.std.proofs.Common.{◌≡◌, refl, ap, ℕ, ◌<◌, ◌⊎◌, inl, inr, List, get_or, Option, Some, None}
use Rattle.nas_base.specs.declared.count.Dir.{Dir}
use Rattle.nas_security.proofs.PassingLaws.{passed_where_passing}
use Rattle.nas_security.specs.Contexts.{SecurityContext}
use Rattle.nas_security.specs.Passing.{Passes, judged}
use Rattle.nas_security.specs.declared.verdicts.Verdict.{Verdict}
use Rattle.nas_security.specs.declared.verdicts.Verdict.TheVariants as verdicts
use Rattle.mm_entity.specs.Laws.{IsOpenedWherePassing, NothingPasses}
use Rattle.mm_entity.specs.Opening.{Opened, opened, opened_by}

-- a judgement that opens is `Passed`
opened_is_passed : (v : Verdict × List ℕ) (o : Opened) → opened_by v ≡ Some o
    → (header : ℕ) × (v ≡ (verdicts.Passed o.count header, o.message))
opened_is_passed (verdicts.Passed count header, message) o e =
    let same : record { count = count; message = message } ≡ o = cc in
    (header, ap (λ (p : Opened). (verdicts.Passed p.count header, p.message)) same)
opened_is_passed (verdicts.Plain, message) o e = absurd (cc)
opened_is_passed (verdicts.Malformed at, message) o e = absurd (cc)
opened_is_passed (verdicts.Spent next, message) o e = absurd (cc)
opened_is_passed (verdicts.Failed want got, message) o e = absurd (cc)

pub something_passes : (context : SecurityContext) (dir : Dir) (octets : List ℕ) (o : Opened) → get_or octets 6 0 < 256
    → opened context dir octets ≡ Some o → (header : ℕ) × Passes context dir octets o.count header o.message
unfolding opened
something_passes context dir octets o small e =
    let are = opened_is_passed (judged context dir octets) o e in
    (are.0, (passed_where_passing context dir octets small o.count are.0 o.message).1 are.1)

pub is_opened : (context : SecurityContext) (dir : Dir) (octets : List ℕ) (count header : ℕ) (message : List ℕ)
    → get_or octets 6 0 < 256 → Passes context dir octets count header message
    → opened context dir octets ≡ Some (record { count = count; message = message })
unfolding opened
is_opened context dir octets count header message small p =
    ap opened_by ((passed_where_passing context dir octets small count header message).0 p)

-- an option is nothing, or something
nothing_or : {A : Type 0} (o : Option A) → (o ≡ None) ⊎ ((x : A) × (o ≡ Some x))
nothing_or None = inl refl
nothing_or (Some x) = inr (x, refl)

-- what passes nothing isn't opened
pub not_opened : (context : SecurityContext) (dir : Dir) (octets : List ℕ) → get_or octets 6 0 < 256 → NothingPasses context dir octets
    → opened context dir octets ≡ None
not_opened context dir octets small nothing = among (nothing_or (opened context dir octets))
  where
    among : (opened context dir octets ≡ None) ⊎ ((o : Opened) × (opened context dir octets ≡ Some o)) → opened context dir octets ≡ None
    among (inl e) = e
    among (inr found) =
        let passing = something_passes context dir octets found.0 small found.1 in
        absurd (nothing found.0.count passing.0 found.0.message passing.1)

pub opened_where_passing : (context : SecurityContext) (dir : Dir) (octets : List ℕ) → get_or octets 6 0 < 256
    → IsOpenedWherePassing context dir octets
opened_where_passing context dir octets small = record {
  something = λ o. (something_passes context dir octets o small, λ p. is_opened context dir octets o.count p.0 o.message small p.1);
  nothing = (
    λ e count header message p.
        let other : opened context dir octets ≡ Some (record { count = count; message = message }) =
        is_opened context dir octets count header message small p in
        cc,
    not_opened context dir octets small,
  );
}
