-- What a home network's calls change, and what its challenges are to those before.
use Rattle.std.specs.Prelude.{◌≡◌, ◌<◌, ◌≤◌, ◌^◌, ◌-◌, ℕ, true, false, List, [], ◌∷◌, length, max, Some, MatchOption, Result, Ok, Err}
use Rattle.std.specs.Str.{bytes_eq}
use Rattle.milenage.specs.Checking.{checked}
use Rattle.milenage.specs.Home.{HomeRecord, challenge_of, challenged, home_record, is_home, resync_of, resynced}
use Rattle.milenage.specs.declared.autn.AutnAnswer.TheVariants.{SynchFailure}
use Rattle.milenage.specs.declared.home.HomeRefusal.{HomeRefusal}
use Rattle.milenage.specs.declared.home.HomeRefusal.TheVariants.{Unknown, SqnSpent}
use Rattle.milenage.specs.declared.vector.Vector.{Vector}

-- a record is as it was but for its SQN_HE, which isn't lower; and it is as it was where it isn't that of this SUPI
abbrev pub Rises : List ℕ → HomeRecord → HomeRecord → Type 0
Rises supi r s = (s ≡ record r { sqn = s.sqn }) × (r.sqn ≤ s.sqn) × (bytes_eq r.supi supi ≡ false → s ≡ r)

-- so are all records, one by one
abbrev pub OnlyRises : List ℕ → List HomeRecord → List HomeRecord → Type 0
OnlyRises supi [] [] = Unit {0}
OnlyRises supi (r ∷ old) (s ∷ new) = Rises supi r s × OnlyRises supi old new
OnlyRises supi old new = ⊥

-- No call lowers an SQN_HE, and none changes anything else, or another subscriber's record.
pub record CallsOnlyRaise : Type 0 where
  pub challenges : (supi rand : List ℕ) (home : List HomeRecord) → OnlyRises supi home (challenged supi rand home)
  pub resyncs : (supi rand auts : List ℕ) (home : List HomeRecord) → OnlyRises supi home (resynced supi rand auts home)

-- a call, and what calls one after the other leave
pub data HomeCall : Type 0 where
  challenge : List ℕ → List ℕ → HomeCall
  resync : List ℕ → List ℕ → List ℕ → HomeCall

abbrev pub called : HomeCall → List HomeRecord → List HomeRecord
called (challenge supi rand) home = challenged supi rand home
called (resync supi rand auts) home = resynced supi rand auts home

abbrev pub after : List HomeCall → List HomeRecord → List HomeRecord
after [] home = home
after (call ∷ calls) home = after calls (called call home)

-- a challenge that is given has a greater number than SQN_HE, which then is that number; nothing else of the record changes
abbrev pub IsGiven : List ℕ → Vector → HomeRecord → List HomeRecord → Type 0
IsGiven supi v r new = (r.sqn < v.sqn) × (v.sqn < 2 ^ 48) × (home_record supi new ≡ Some (record r { sqn = v.sqn }))

-- Each challenge that is given for a subscriber has a greater number than each that was given before, whatever was called meanwhile.
pub record ChallengesRise : Type 0 where
  pub given : (supi rand : List ℕ) (home : List HomeRecord) (v : Vector) → challenge_of supi rand home ≡ Ok v
      → MatchOption (home_record supi home) ⊥ (λ r. IsGiven supi v r (challenged supi rand home))
  pub later : (supi rand next : List ℕ) (home : List HomeRecord) (calls : List HomeCall) (v w : Vector) → challenge_of supi rand home ≡ Ok v
      → challenge_of supi next (after calls (challenged supi rand home)) ≡ Ok w → v.sqn < w.sqn
  pub spent : (supi rand : List ℕ) (home : List HomeRecord) (n : ℕ) → is_home home ≡ true → challenge_of supi rand home ≡ Err (SqnSpent n)
      → n ≡ 2 ^ 48 - 1

-- a challenge is one that a handset takes whose SQN_MS is this, unless no number is left
abbrev pub IsFresh : ℕ → Result Vector HomeRefusal → Type 0
IsFresh sqn_ms (Ok v) = sqn_ms < v.sqn
IsFresh sqn_ms (Err Unknown) = ⊥
IsFresh sqn_ms (Err (SqnSpent n)) = 2 ^ 48 - 1 ≤ n

-- what an AUTS does that is the answer of a handset with this SQN_MS: it is right, SQN_HE is no longer below SQN_MS, and the next
-- challenge is a fresh one for the handset
pub record IsRight (supi rand answer : List ℕ) (r : HomeRecord) (sqn_ms : ℕ) (home : List HomeRecord) : Type 0 where
  pub right : resync_of supi rand answer home ≡ Ok tt
  pub told : home_record supi (resynced supi rand answer home) ≡ Some (record r { sqn = max r.sqn sqn_ms })
  pub next : (next : List ℕ) → IsFresh sqn_ms (challenge_of supi next (resynced supi rand answer home))

-- An AUTS that a handset of the subscriber's K and OPc answers to this RAND is right.
abbrev pub AutsIsRight : Type 0
AutsIsRight =
    (supi rand autn answer : List ℕ) (r : HomeRecord) (sqn_ms : ℕ) (home : List HomeRecord) → home_record supi home ≡ Some r → length r.opc ≡ 16
    → sqn_ms < 2 ^ 48 → checked r.k r.opc rand autn sqn_ms ≡ SynchFailure answer → IsRight supi rand answer r sqn_ms home
