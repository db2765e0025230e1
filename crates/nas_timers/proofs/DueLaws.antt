-- What is due.
use Rattle.std.proofs.Common.{zero, suc, length, get_or, ◌≡◌, ◌⊎◌, ◌∙◌, ◌<◌, ◌≤◌, ℕ, nat_le, Bool, true, false, List, [], ◌∷◌, Option, Some, None, arith, refl, ap, subst, inl, inr}
use Rattle.std.proofs.lemmas.Bool.{and_parts, leb-true, leb-false}
use Rattle.std.proofs.lemmas.Bool.Decides.{nat_tests}
use Rattle.std.specs.Prelude.{Contains, MatchOption, option_map}
use Rattle.nas_timers.specs.Names.{is_before, same_name}
use Rattle.nas_timers.specs.TimerLaws.{DeadlinesStand, DueIsLeast, IsDue, NoneIsDue}
use Rattle.nas_timers.specs.Timers.{Running, all_behind, are_timers, deadline_of, is_sooner, sooner_of, soonest_from}
use Rattle.nas_timers.specs.declared.timer_id.TimerId.{TimerId}
use Rattle.nas_timers.proofs.NameLemmas.{before_apart, same_apart, same_equal, same_self}
use Rattle.nas_timers.proofs.TimersLemmas.{parts}

-- a timer is one of these
abbrev pub Among : Running → List Running → Type 0
Among t [] = ⊥
Among t (u ∷ us) = (u ≡ t) ⊎ Among t us

-- sooner is a strict order
not_itself : (t : Running) → is_sooner t t ≡ false
not_itself t = grind (arith, nat_tests)

not_sooner_more : (t u r : Running) → is_sooner t u ≡ false → is_sooner u r ≡ false → is_sooner t r ≡ false
not_sooner_more t u r h k = grind (arith, nat_tests)

not_sooner_back : (t u r : Running) → is_sooner t u ≡ true → is_sooner t r ≡ false → is_sooner u r ≡ false
not_sooner_back t u r h k = grind (arith, nat_tests)

-- no timer has come
abbrev pub Missing : ℕ → Option Running → List Running → Type 0
Missing now found ts = (found ≡ None) × ((t : Running) → Among t ts → now < t.at)

-- of what was found and those timers that have come none is sooner
pub record Soonest (now : ℕ) (found : Option Running) (ts : List Running) (r : Running) : Type 0 where
  pub came : (found ≡ Some r) ⊎ (Among r ts × (r.at ≤ now))
  pub no_found : (u : Running) → found ≡ Some u → is_sooner u r ≡ false
  pub no_other : (t : Running) → Among t ts → t.at ≤ now → is_sooner t r ≡ false

abbrev pub Found : ℕ → Option Running → List Running → Option Running → Type 0
Found now found ts o = MatchOption o (Missing now found ts) (Soonest now found ts)

found_end : (now : ℕ) (found : Option Running) → Found now found [] found
found_end now None = (refl, λ t h. absurd h)
found_end now (Some r) = record {
  came = inl refl;
  no_found = λ u e. let same : r ≡ u = cc in subst (λ (x : Running). is_sooner x r ≡ false) same (not_itself r);
  no_other = λ t h came. absurd h;
}

found_map : (o : Option Running) (P R : Type 0) (Q S : Running → Type 0) → (P → R) → ((r : Running) → Q r → S r) → MatchOption o P Q → MatchOption o R S
found_map None P R Q S f g h = f h
found_map (Some r) P R Q S f g h = g r h

late_not : (now : ℕ) (t u r : Running) → now < t.at → t ≡ u → u.at ≤ now → is_sooner u r ≡ false
late_not now t u r after e came = let at : t.at ≡ u.at = ap (λ (x : Running). x.at) e in absurd (omega arith)

-- a timer that hasn't come
late : (now : ℕ) (found : Option Running) (t : Running) (ts : List Running) → now < t.at → (o : Option Running) → Found now found ts o → Found now found (t ∷ ts) o
late now found t ts after o h =
    found_map o (Missing now found ts) (Missing now found (t ∷ ts)) (Soonest now found ts) (Soonest now found (t ∷ ts))
    (λ m. (m.0, λ u among. elim among [ inl e ↦ subst (λ (x : Running). now < x.at) e after | inr later ↦ m.1 u later ]))
    (λ r s. record {
      came = elim s.came [ inl e ↦ inl e | inr p ↦ inr (inr p.0, p.1) ];
      no_found = s.no_found;
      no_other = λ u among came. elim among [ inl e ↦ late_not now t u r after e came | inr later ↦ s.no_other u later came ];
    }) h

first_among : (now : ℕ) (t r : Running) (ts : List Running) → t.at ≤ now → Some t ≡ Some r → Among r (t ∷ ts) × (r.at ≤ now)
first_among now t r ts came e = let same : t ≡ r = cc in (inl same, subst (λ (x : Running). x.at ≤ now) same came)

-- a timer that has come, and is the soonest so far
first : (now : ℕ) (found : Option Running) (t : Running) (ts : List Running) → t.at ≤ now → ((u : Running) → found ≡ Some u → is_sooner t u ≡ true) →
    (o : Option Running) → Found now (Some t) ts o → Found now found (t ∷ ts) o
first now found t ts came sooner o h =
    found_map o (Missing now (Some t) ts) (Missing now found (t ∷ ts)) (Soonest now (Some t) ts) (Soonest now found (t ∷ ts))
    (λ m. let none : Some t ≡ None = m.0 in absurd (cc))
    (λ r s. record {
      came = elim s.came [ inl e ↦ inr (first_among now t r ts came e) | inr p ↦ inr (inr p.0, p.1) ];
      no_found = λ u e. not_sooner_back t u r (sooner u e) (s.no_found t refl);
      no_other = λ u among c. elim among [ inl e ↦ subst (λ (x : Running). is_sooner x r ≡ false) e (s.no_found t refl) | inr later ↦ s.no_other u later c ];
    }) h

-- a timer that has come, and isn't the soonest so far
second : (now : ℕ) (u t : Running) (ts : List Running) → is_sooner t u ≡ false → (o : Option Running) → Found now (Some u) ts o → Found now (Some u) (t ∷ ts) o
second now u t ts later o h =
    found_map o (Missing now (Some u) ts) (Missing now (Some u) (t ∷ ts)) (Soonest now (Some u) ts) (Soonest now (Some u) (t ∷ ts))
    (λ m. let none : Some u ≡ None = m.0 in absurd (cc))
    (λ r s. record {
      came = elim s.came [ inl e ↦ inl e | inr p ↦ inr (inr p.0, p.1) ];
      no_found = s.no_found;
      no_other = λ v among c. elim among [ inl e ↦ subst (λ (x : Running). is_sooner x r ≡ false) e (not_sooner_more t u r later (s.no_found u refl)) | inr rest ↦ s.no_other v rest c ];
    }) h

sooner_by : (now : ℕ) (u t : Running) (ts : List Running) (b : Bool) → is_sooner t u ≡ b → t.at ≤ now →
    ((found : Option Running) → Found now found ts (soonest_from now found ts)) → Found now (Some u) (t ∷ ts) (soonest_from now (sooner_of t (Some u)) ts)
sooner_by now u t ts true is came later =
    rw is (first now (Some u) t ts came (λ v e. let same : u ≡ v = cc in subst (λ (x : Running). is_sooner t x ≡ true) same is) (soonest_from now (Some t) ts) (later (Some t)))
sooner_by now u t ts false is came later = rw is (second now u t ts is (soonest_from now (Some u) ts) (later (Some u)))

came_by : (now : ℕ) (found : Option Running) (t : Running) (ts : List Running) → t.at ≤ now →
    ((found : Option Running) → Found now found ts (soonest_from now found ts)) → Found now found (t ∷ ts) (soonest_from now (sooner_of t found) ts)
came_by now None t ts came later =
    first now None t ts came (λ u e. let none : None ≡ Some u = e in absurd (cc)) (soonest_from now (Some t) ts) (later (Some t))
came_by now (Some u) t ts came later = sooner_by now u t ts (is_sooner t u) refl came later

step_by : (now : ℕ) (found : Option Running) (t : Running) (ts : List Running) (b : Bool) → nat_le t.at now ≡ b →
    ((found : Option Running) → Found now found ts (soonest_from now found ts)) → Found now found (t ∷ ts) (soonest_from now found (t ∷ ts))
step_by now found t ts true is later = rw is (came_by now found t ts (leb-true t.at now is) later)
step_by now found t ts false is later = rw is (late now found t ts (leb-false t.at now is) (soonest_from now found ts) (later found))

soonest : (now : ℕ) (ts : List Running) (found : Option Running) → Found now found ts (soonest_from now found ts)
soonest now [] found = found_end now found
soonest now (t ∷ ts) found = step_by now found t ts (nat_le t.at now) refl (λ o. soonest now ts o)

timer_is : (t : Running) (id : TimerId) (at : ℕ) → t.id ≡ id → t.at ≡ at → t ≡ record { id = id; at = at }
timer_is t id at name deadline =
    ap (λ (x : TimerId). record { id = x; at = t.at }) name ∙ ap (λ (n : ℕ). record { id = id; at = n }) deadline

-- a deadline stands beside its name among the timers
among_by : (id : TimerId) (at : ℕ) (t : Running) (ts : List Running) (b : Bool) → same_name t.id id ≡ b → deadline_of id (t ∷ ts) ≡ Some at →
    (deadline_of id ts ≡ Some at → Among (record { id = id; at = at }) ts) → Among (record { id = id; at = at }) (t ∷ ts)
among_by id at t ts true is h later =
    let own : Some t.at ≡ Some at = rw is at h in
    let deadline : t.at ≡ at = cc in let name : t.id ≡ id = same_equal t.id id is in inl (timer_is t id at name deadline)
among_by id at t ts false is h later = let rest : deadline_of id ts ≡ Some at = rw is at h in inr (later rest)

among : (id : TimerId) (at : ℕ) (ts : List Running) → deadline_of id ts ≡ Some at → Among (record { id = id; at = at }) ts
among id at [] h = let none : None ≡ Some at = h in absurd (cc)
among id at (t ∷ ts) h = among_by id at t ts (same_name t.id id) refl h (among id at ts)

-- the deadline of a timer is that of its name
all_apart : (id : TimerId) (t : Running) (ts : List Running) → all_behind id ts ≡ true → Among t ts → same_name id t.id ≡ false
all_apart id t [] behind h = absurd h
all_apart id t (u ∷ us) behind h =
    let p = and_parts (is_before id u.id) (all_behind id us) behind in
    elim h [ inl e ↦ subst (λ (x : Running). same_name id x.id ≡ false) e (before_apart id u.id p.0) | inr rest ↦ all_apart id t us p.1 rest ]

deadline : (t : Running) (ts : List Running) → are_timers ts ≡ true → Among t ts → deadline_of t.id ts ≡ Some t.at
deadline t [] h there = absurd there
deadline t (u ∷ us) h there =
    let p = parts u us h in
    elim there [
      | inl e ↦ subst (λ (x : Running). deadline_of x.id (u ∷ us) ≡ Some x.at) e (rw (same_self u.id) refl)
      | inr rest ↦ rw (all_apart u.id t us p.1 rest) (deadline t us p.2 rest)
    ]

-- a timer is one of these exactly where they contain it
contains : (t : Running) (ts : List Running) → Among t ts → Contains ts t
contains t [] h = absurd h
contains t (u ∷ us) h =
    elim h [ inl e ↦ (0, omega arith, e) | inr later ↦ (let rest = contains t us later in (suc rest.0, omega (arith, rest.1), rest.2)) ]

among_at : (t : Running) (ts : List Running) (k : ℕ) → k < length ts → get_or ts k t ≡ t → Among t ts
among_at t [] k below e = absurd (omega arith)
among_at t (u ∷ us) zero below e = inl e
among_at t (u ∷ us) (suc k) below e = inr (among_at t us k (omega arith) e)

pub deadlines_stand : DeadlinesStand
deadlines_stand = record {
  found = λ id at ts h. contains (record { id = id; at = at }) ts (among id at ts h);
  only = λ t ts h there. deadline t ts h (among_at t ts there.0 there.1 there.2);
}

-- what isn't sooner has a later deadline, or the same one and a later name
least_by : (r t : Running) → is_sooner t r ≡ false → same_name t.id r.id ≡ false → (r.at < t.at) ⊎ ((r.at ≡ t.at) × (is_before r.id t.id ≡ true))
least_by r t h apart = grind (arith, nat_tests)

due_from : (now : ℕ) (ts : List Running) → are_timers ts ≡ true → (o : Option Running) → Found now None ts o →
    MatchOption (option_map (λ (t : Running). t.id) o) (NoneIsDue now ts) (IsDue now ts)
due_from now ts h None missing = λ id at running. missing.1 (record { id = id; at = at }) (among id at ts running)
due_from now ts h (Some r) soonest =
    let there : Among r ts × (r.at ≤ now) = elim soonest.came [ inl e ↦ absurd (let none : None ≡ Some r = e in cc) | inr p ↦ p ] in
    record {
      at = r.at;
      running = deadline r ts h there.0;
      due = there.1;
      least = λ other later running came apart.
          least_by r (record { id = other; at = later })
          (soonest.no_other (record { id = other; at = later }) (among other later ts running) came) (same_apart other r.id apart);
    }

pub due_is_least : DueIsLeast
due_is_least = λ now ts h. due_from now ts h (soonest_from now None ts) (soonest now ts None)
