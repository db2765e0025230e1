-- What a home network keeps of its subscribers, and what it answers (TS 33.102 clauses 6.3.2 and 6.3.5).
use Rattle.std.specs.Prelude.{ℕ, ◌+◌, ◌-◌, ◌^◌, Bool, false, true, not, nat_lt, nat_le, max, ◌&&◌, ◌||◌, List, [], ◌∷◌, length, Option, Some, None, Result, Ok, Err, if◌then◌else◌}
use Rattle.std.specs.List.{list_all}
use Rattle.std.specs.Str.{bytes_eq}
use Rattle.nas_base.specs.Branches.{per, when◌then◌else◌}
use Rattle.milenage.specs.Octets.{◌⊕◌, part}
use Rattle.milenage.specs.Milenage.{f1_star, f5_star}
use Rattle.milenage.specs.Autn.{vector}
use Rattle.milenage.specs.Checking.{opened, zero_field}
use Rattle.milenage.specs.declared.home.HomeRefusal.{HomeRefusal}
use Rattle.milenage.specs.declared.home.HomeRefusal.TheVariants as refusals
use Rattle.milenage.specs.declared.home.ResyncRefusal.{ResyncRefusal}
use Rattle.milenage.specs.declared.home.ResyncRefusal.TheVariants as resync_refusals
use Rattle.milenage.specs.declared.vector.Vector.{Vector}

-- a subscriber: SUPI, K, OPc, the AMF field of its vectors, and SQN_HE, the sequence number of its last challenge
pub record HomeRecord : Type 0 where
  pub supi : List ℕ
  pub k : List ℕ
  pub opc : List ℕ
  pub field : List ℕ
  pub sqn : ℕ

-- the greatest sequence number of 48 bits
abbrev pub last_sqn : ℕ
last_sqn = 2 ^ 48 - 1

-- the record of a SUPI: the first that has it
abbrev pub home_record : List ℕ → List HomeRecord → Option HomeRecord
home_record supi [] = None
home_record supi (r ∷ home) = if bytes_eq r.supi supi then Some r else home_record supi home

-- the same records, where that of this SUPI has this SQN_HE
abbrev pub with_sqn : List ℕ → ℕ → List HomeRecord → List HomeRecord
with_sqn supi n [] = []
with_sqn supi n (r ∷ home) = if bytes_eq r.supi supi then record r { sqn = n } ∷ home else r ∷ with_sqn supi n home

-- a challenge for a SUPI with this RAND: the vector of the number behind SQN_HE, where there is one, and SQN_HE is it afterwards
unfoldable pub challenge_of : List ℕ → List ℕ → List HomeRecord → Result Vector HomeRefusal
challenge_of supi rand home =
    per (home_record supi home) (Err refusals.Unknown)
    (λ (r : HomeRecord). when nat_lt r.sqn last_sqn then Ok (vector r.k r.opc rand (r.sqn + 1) r.field) else Err (refusals.SqnSpent r.sqn))

unfoldable pub challenged : List ℕ → List ℕ → List HomeRecord → List HomeRecord
challenged supi rand home =
    per (home_record supi home) home
    (λ (r : HomeRecord). when nat_lt r.sqn last_sqn then with_sqn supi (r.sqn + 1) home else home)

-- the MAC-S that AUTS must have, and the one that it has
abbrev pub wanted_mac_s : List ℕ → List ℕ → List ℕ → List ℕ → List ℕ
wanted_mac_s k opc rand auts = f1_star k opc rand (part 0 6 auts ⊕ f5_star k opc rand) zero_field

abbrev pub mac_s_in : List ℕ → List ℕ
mac_s_in auts = part 6 8 auts

-- an AUTS for a SUPI with the RAND of the challenge that it answers: where MAC-S is the right one, SQN_HE is afterwards the
-- greater of SQN_HE and SQN_MS
unfoldable pub resync_of : List ℕ → List ℕ → List ℕ → List HomeRecord → Result (Unit {0}) ResyncRefusal
resync_of supi rand auts home =
    per (home_record supi home) (Err resync_refusals.Unknown)
    (λ (r : HomeRecord). per (opened r.k r.opc rand auts)
    (Err (resync_refusals.AutsWrong (wanted_mac_s r.k r.opc rand auts) (mac_s_in auts)))
    (λ (sqn_ms : ℕ). Ok tt))

unfoldable pub resynced : List ℕ → List ℕ → List ℕ → List HomeRecord → List HomeRecord
resynced supi rand auts home =
    per (home_record supi home) home
    (λ (r : HomeRecord). per (opened r.k r.opc rand auts) home
    (λ (sqn_ms : ℕ). with_sqn supi (max r.sqn sqn_ms) home))

-- one of the records has this SUPI
abbrev pub is_kept : List ℕ → List HomeRecord → Bool
is_kept supi [] = false
is_kept supi (r ∷ home) = bytes_eq r.supi supi || is_kept supi home

-- no two have one SUPI
abbrev pub are_distinct : List HomeRecord → Bool
are_distinct [] = true
are_distinct (r ∷ home) = not (is_kept r.supi home) && are_distinct home

-- a sequence number has 48 bits
abbrev pub is_sqn : ℕ → Bool
is_sqn n = nat_lt n (2 ^ 48)

-- what a home network keeps: at most 64 records, no two with one SUPI, each with a sequence number of 48 bits
abbrev pub is_home : List HomeRecord → Bool
is_home home = nat_le (length home) 64 && are_distinct home && list_all (λ (r : HomeRecord). is_sqn r.sqn) home
