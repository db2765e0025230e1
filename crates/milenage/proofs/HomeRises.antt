-- SQN_HE only rises.
use Rattle.std.proofs.Common.{◌≡◌, refl, ap, ◌∙◌, sym, subst, ℕ, ◌<◌, ◌≤◌, ◌+◌, ◌-◌, ◌^◌, max, Bool, true, false, nat_lt, List, [], ◌∷◌, Option, Some, None, MatchOption, Result, Ok, Err, if◌then◌else◌, arith}
use Rattle.std.specs.Str.{bytes_eq}
use Rattle.std.specs.List.{list_all}
use Rattle.std.proofs.lemmas.Bool.{and_parts, ltb-true, ltb-false}
use Rattle.std.proofs.lemmas.Option.{same_Some}
use Rattle.nas_base.specs.Branches.{chosen, per, when◌then◌else◌}
use Rattle.milenage.specs.Autn.{vector}
use Rattle.milenage.specs.Checking.{opened}
use Rattle.milenage.specs.Home.{HomeRecord, challenge_of, challenged, home_record, is_home, is_sqn, last_sqn, resync_of, resynced, with_sqn}
use Rattle.milenage.specs.HomeLaws.{AutsIsRight, CallsOnlyRaise, ChallengesRise, HomeCall, IsFresh, IsGiven, OnlyRises, after, challenge, resync}
use Rattle.milenage.specs.declared.home.HomeRefusal.{HomeRefusal}
use Rattle.milenage.specs.declared.home.HomeRefusal.TheVariants as refusals
use Rattle.milenage.specs.declared.vector.Vector.{Vector}
use Rattle.milenage.proofs.ChallengeLemmas.{auts_opens}
use Rattle.milenage.proofs.HomeLemmas.{home_parts}

-- the record of a SUPI is found with the SQN_HE that was set
record-with_sqn : (supi : List ℕ) (n : ℕ) (home : List HomeRecord) (r : HomeRecord) → home_record supi home ≡ Some r
    → home_record supi (with_sqn supi n home) ≡ Some (record r { sqn = n })
record-with_sqn supi n [] r h = cc
record-with_sqn supi n (s ∷ home) r h = by_test (bytes_eq s.supi supi) refl h (λ (rest : home_record supi home ≡ Some r). record-with_sqn supi n home r rest) where
  by_test : (b : Bool) → bytes_eq s.supi supi ≡ b → (if b then Some s else home_record supi home) ≡ Some r
      → (home_record supi home ≡ Some r → home_record supi (with_sqn supi n home) ≡ Some (record r { sqn = n }))
      → home_record supi (if b then record s { sqn = n } ∷ home else s ∷ with_sqn supi n home) ≡ Some (record r { sqn = n })
  by_test true is found rest = rw is (ap (λ (t : HomeRecord). Some (record t { sqn = n })) (same_Some s r found))
  by_test false is found rest = rw is (rest found)

-- all stay
all_stay : (supi : List ℕ) (home : List HomeRecord) → OnlyRises supi home home
all_stay supi [] = tt
all_stay supi (r ∷ home) = ((refl, omega arith, λ (other : bytes_eq r.supi supi ≡ false). refl), all_stay supi home)

-- a greater SQN_HE is set
set_rises : (supi : List ℕ) (n : ℕ) (home : List HomeRecord) (r : HomeRecord) → home_record supi home ≡ Some r → r.sqn ≤ n
    → OnlyRises supi home (with_sqn supi n home)
set_rises supi n [] r h up = cc
set_rises supi n (s ∷ home) r h up =
    by_test (bytes_eq s.supi supi) refl h (λ (rest : home_record supi home ≡ Some r). set_rises supi n home r rest up) where
      by_test : (b : Bool) → bytes_eq s.supi supi ≡ b → (if b then Some s else home_record supi home) ≡ Some r
          → (home_record supi home ≡ Some r → OnlyRises supi home (with_sqn supi n home))
          → OnlyRises supi (s ∷ home) (if b then record s { sqn = n } ∷ home else s ∷ with_sqn supi n home)
      by_test true is found rest =
          ((refl, subst (λ (t : HomeRecord). t.sqn ≤ n) (sym (same_Some s r found)) up, λ (other : bytes_eq s.supi supi ≡ false). cc), all_stay supi home)
      by_test false is found rest = ((refl, omega arith, λ (other : bytes_eq s.supi supi ≡ false). refl), rest found)

challenges_raise : (supi rand : List ℕ) (home : List HomeRecord) → OnlyRises supi home (challenged supi rand home)
unfolding challenged chosen per
challenges_raise supi rand home = by_record (home_record supi home) refl where
  by_record : (o : Option HomeRecord) → home_record supi home ≡ o
      → OnlyRises supi home (per o home (λ (r : HomeRecord). when nat_lt r.sqn last_sqn then with_sqn supi (r.sqn + 1) home else home))
  by_record None is = all_stay supi home
  by_record (Some r) is = by_test (nat_lt r.sqn last_sqn) where
    by_test : (b : Bool) → OnlyRises supi home (when b then with_sqn supi (r.sqn + 1) home else home)
    by_test true = set_rises supi (r.sqn + 1) home r is (omega arith)
    by_test false = all_stay supi home

resyncs_raise : (supi rand auts : List ℕ) (home : List HomeRecord) → OnlyRises supi home (resynced supi rand auts home)
unfolding resynced per
resyncs_raise supi rand auts home = by_record (home_record supi home) refl where
  by_record : (o : Option HomeRecord) → home_record supi home ≡ o
      → OnlyRises supi home (per o home (λ (r : HomeRecord). per (opened r.k r.opc rand auts) home (λ (sqn_ms : ℕ). with_sqn supi (max r.sqn sqn_ms) home)))
  by_record None is = all_stay supi home
  by_record (Some r) is = by_answer (opened r.k r.opc rand auts) where
    by_answer : (o : Option ℕ) → OnlyRises supi home (per o home (λ (sqn_ms : ℕ). with_sqn supi (max r.sqn sqn_ms) home))
    by_answer None = all_stay supi home
    by_answer (Some sqn_ms) = set_rises supi (max r.sqn sqn_ms) home r is (omega arith)

pub calls_only_raise : CallsOnlyRaise
calls_only_raise = record { challenges = challenges_raise; resyncs = resyncs_raise }

-- a challenge is given exactly by a record that has a number left
abbrev Gives : List ℕ → Vector → HomeRecord → Type 0
Gives rand v r = (nat_lt r.sqn last_sqn ≡ true) × (vector r.k r.opc rand (r.sqn + 1) r.field ≡ v)

abbrev answer_by : List ℕ → HomeRecord → Bool → Result Vector HomeRefusal
answer_by rand r b = when b then Ok (vector r.k r.opc rand (r.sqn + 1) r.field) else Err (refusals.SqnSpent r.sqn)

answer_of : List ℕ → Option HomeRecord → Result Vector HomeRefusal
answer_of rand o = per o (Err refusals.Unknown) (λ (r : HomeRecord). answer_by rand r (nat_lt r.sqn last_sqn))

gives_at : (rand : List ℕ) (o : Option HomeRecord) (v : Vector) → answer_of rand o ≡ Ok v → MatchOption o ⊥ (Gives rand v)
unfolding answer_of chosen per
gives_at rand None v e = cc
gives_at rand (Some r) v e = by_test (nat_lt r.sqn last_sqn) refl e where
  by_test : (b : Bool) → nat_lt r.sqn last_sqn ≡ b → answer_by rand r b ≡ Ok v → Gives rand v r
  by_test true is found = (is, cc)
  by_test false is found = cc

spent_at : (rand : List ℕ) (o : Option HomeRecord) (n : ℕ) → answer_of rand o ≡ Err (refusals.SqnSpent n)
    → MatchOption o ⊥ (λ (r : HomeRecord). (nat_lt r.sqn last_sqn ≡ false) × (r.sqn ≡ n))
unfolding answer_of chosen per
spent_at rand None n e = cc
spent_at rand (Some r) n e = by_test (nat_lt r.sqn last_sqn) refl e where
  by_test : (b : Bool) → nat_lt r.sqn last_sqn ≡ b → answer_by rand r b ≡ Err (refusals.SqnSpent n)
      → (nat_lt r.sqn last_sqn ≡ false) × (r.sqn ≡ n)
  by_test true is found = cc
  by_test false is found = (is, cc)

answers : (supi rand : List ℕ) (home : List HomeRecord) → challenge_of supi rand home ≡ answer_of rand (home_record supi home)
unfolding challenge_of answer_of
answers supi rand home = refl

-- the home after it
given_leaves : (supi rand : List ℕ) (home : List HomeRecord) (r : HomeRecord) → home_record supi home ≡ Some r → nat_lt r.sqn last_sqn ≡ true
    → challenged supi rand home ≡ with_sqn supi (r.sqn + 1) home
unfolding challenged chosen per
given_leaves supi rand home r is left = rw (is, left) refl

number_given : (rand : List ℕ) (v : Vector) (r : HomeRecord) → Gives rand v r → v.sqn ≡ r.sqn + 1
unfolding vector
number_given rand v r g = ap (λ (w : Vector). w.sqn) (sym g.1)

given : (supi rand : List ℕ) (home : List HomeRecord) (v : Vector) → challenge_of supi rand home ≡ Ok v
    → MatchOption (home_record supi home) ⊥ (λ r. IsGiven supi v r (challenged supi rand home))
given supi rand home v e =
    by_record (home_record supi home) refl (gives_at rand (home_record supi home) v (sym (answers supi rand home) ∙ e)) where
      by_record : (o : Option HomeRecord) → home_record supi home ≡ o → MatchOption o ⊥ (Gives rand v)
          → MatchOption o ⊥ (λ r. IsGiven supi v r (challenged supi rand home))
      by_record None is g = g
      by_record (Some r) is g =
          let number = number_given rand v r g in
          let left = ltb-true r.sqn last_sqn g.0 in (
            omega (arith, number),
            omega (arith, number, left),
            rw (given_leaves supi rand home r is g.0, number) (record-with_sqn supi (r.sqn + 1) home r is),
          )

-- SQN_HE is at least a number
abbrev AtLeast : ℕ → Option HomeRecord → Type 0
AtLeast n o = MatchOption o ⊥ (λ (r : HomeRecord). n ≤ r.sqn)

stays_at_least : (supi other : List ℕ) (n : ℕ) (old new : List HomeRecord) → OnlyRises other old new → AtLeast n (home_record supi old)
    → AtLeast n (home_record supi new)
stays_at_least supi other n [] [] p a = a
stays_at_least supi other n [] (s ∷ new) p a = absurd p
stays_at_least supi other n (r ∷ old) [] p a = absurd p
stays_at_least supi other n (r ∷ old) (s ∷ new) p a =
    by_test (bytes_eq r.supi supi) refl a (λ (rest : AtLeast n (home_record supi old)). stays_at_least supi other n old new p.1 rest) where
      same : (b : Bool) → bytes_eq r.supi supi ≡ b → bytes_eq s.supi supi ≡ b
      same b is = ap (λ (t : HomeRecord). bytes_eq t.supi supi) p.0.0 ∙ is

      by_test : (b : Bool) → bytes_eq r.supi supi ≡ b → AtLeast n (if b then Some r else home_record supi old)
          → (AtLeast n (home_record supi old) → AtLeast n (home_record supi new)) → AtLeast n (home_record supi (s ∷ new))
      by_test true is at rest = rw (same true is) (omega (arith, at, p.0.1))
      by_test false is at rest = rw (same false is) (rest at)

at_least_after : (supi : List ℕ) (n : ℕ) (calls : List HomeCall) (home : List HomeRecord) → AtLeast n (home_record supi home)
    → AtLeast n (home_record supi (after calls home))
at_least_after supi n [] home a = a
at_least_after supi n (challenge other rand ∷ calls) home a =
    at_least_after supi n calls (challenged other rand home)
    (stays_at_least supi other n home (challenged other rand home) (challenges_raise other rand home) a)
at_least_after supi n (resync other rand auts ∷ calls) home a =
    at_least_after supi n calls (resynced other rand auts home)
    (stays_at_least supi other n home (resynced other rand auts home) (resyncs_raise other rand auts home) a)

reached : (supi : List ℕ) (v : Vector) (o : Option HomeRecord) (new : List HomeRecord) → MatchOption o ⊥ (λ r. IsGiven supi v r new)
    → AtLeast v.sqn (home_record supi new)
reached supi v None new g = absurd g
reached supi v (Some r) new g = rw (g.2) (omega arith)

greater : (next : List ℕ) (n : ℕ) (o : Option HomeRecord) (w : Vector) → AtLeast n o → MatchOption o ⊥ (Gives next w) → n < w.sqn
greater next n None w a g = absurd g
greater next n (Some r) w a g = omega (arith, a, number_given next w r g)

later : (supi rand next : List ℕ) (home : List HomeRecord) (calls : List HomeCall) (v w : Vector) → challenge_of supi rand home ≡ Ok v
    → challenge_of supi next (after calls (challenged supi rand home)) ≡ Ok w → v.sqn < w.sqn
later supi rand next home calls v w first second =
    let new = challenged supi rand home in
    let end = after calls new in
    greater next v.sqn (home_record supi end) w
    (at_least_after supi v.sqn calls new (reached supi v (home_record supi home) new (given supi rand home v first)))
    (gives_at next (home_record supi end) w (sym (answers supi next end) ∙ second))

-- the numbers of a home have 48 bits
sqn_within : (supi : List ℕ) (home : List HomeRecord) → list_all (λ (r : HomeRecord). is_sqn r.sqn) home ≡ true
    → MatchOption (home_record supi home) (Unit {0}) (λ (r : HomeRecord). r.sqn < 2 ^ 48)
sqn_within supi [] h = tt
sqn_within supi (s ∷ home) h =
    by_test (bytes_eq s.supi supi) (ltb-true s.sqn (2 ^ 48) (and_parts _ _ h).0) (sqn_within supi home (and_parts _ _ h).1) where
      by_test : (b : Bool) → s.sqn < 2 ^ 48 → MatchOption (home_record supi home) (Unit {0}) (λ (r : HomeRecord). r.sqn < 2 ^ 48)
          → MatchOption (if b then Some s else home_record supi home) (Unit {0}) (λ (r : HomeRecord). r.sqn < 2 ^ 48)
      by_test true small rest = small
      by_test false small rest = rest

last_spent : (o : Option HomeRecord) (n : ℕ) → MatchOption o (Unit {0}) (λ (r : HomeRecord). r.sqn < 2 ^ 48)
    → MatchOption o ⊥ (λ (r : HomeRecord). (nat_lt r.sqn last_sqn ≡ false) × (r.sqn ≡ n)) → n ≡ 2 ^ 48 - 1
last_spent None n small s = absurd s
last_spent (Some r) n small s = omega (arith, small, ltb-false r.sqn last_sqn s.0, s.1)

spent : (supi rand : List ℕ) (home : List HomeRecord) (n : ℕ) → is_home home ≡ true → challenge_of supi rand home ≡ Err (refusals.SqnSpent n)
    → n ≡ 2 ^ 48 - 1
spent supi rand home n h e =
    last_spent (home_record supi home) n (sqn_within supi home (home_parts home h).2)
    (spent_at rand (home_record supi home) n (sym (answers supi rand home) ∙ e))

pub challenges_rise : ChallengesRise
challenges_rise = record { given = given; later = later; spent = spent }

-- an AUTS that opens is right
opens_right : (supi rand answer : List ℕ) (r : HomeRecord) (sqn_ms : ℕ) (home : List HomeRecord) → home_record supi home ≡ Some r
    → opened r.k r.opc rand answer ≡ Some sqn_ms → resync_of supi rand answer home ≡ Ok tt
unfolding resync_of per
opens_right supi rand answer r sqn_ms home is opens = rw (is, opens) refl

opens_told : (supi rand answer : List ℕ) (r : HomeRecord) (sqn_ms : ℕ) (home : List HomeRecord) → home_record supi home ≡ Some r
    → opened r.k r.opc rand answer ≡ Some sqn_ms → resynced supi rand answer home ≡ with_sqn supi (max r.sqn sqn_ms) home
unfolding resynced per
opens_told supi rand answer r sqn_ms home is opens = rw (is, opens) refl

-- the next challenge
fresh : (next : List ℕ) (n : ℕ) (r : HomeRecord) → n ≤ r.sqn → IsFresh n (answer_of next (Some r))
unfolding answer_of chosen per vector
fresh next n r up = by_test (nat_lt r.sqn last_sqn) refl where
  by_test : (b : Bool) → nat_lt r.sqn last_sqn ≡ b → IsFresh n (answer_by next r b)
  by_test true is = omega arith
  by_test false is = ltb-false r.sqn last_sqn is

pub auts_is_right : AutsIsRight
auts_is_right supi rand autn answer r sqn_ms home is opc_16 small e =
    let opens = auts_opens r.k r.opc rand autn sqn_ms opc_16 small answer e in
    let told : home_record supi (resynced supi rand answer home) ≡ Some (record r { sqn = max r.sqn sqn_ms }) =
    rw (opens_told supi rand answer r sqn_ms home is opens) (record-with_sqn supi (max r.sqn sqn_ms) home r is) in
    record {
      right = opens_right supi rand answer r sqn_ms home is opens;
      told = told;
      next = λ (next : List ℕ). rw (answers supi next (resynced supi rand answer home), told)
          (fresh next sqn_ms (record r { sqn = max r.sqn sqn_ms }) (omega arith));
    }
