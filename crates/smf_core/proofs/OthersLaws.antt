-- A step leaves other subscribers, and identities that its input doesn't concern.
use Rattle.std.proofs.Common.{◌≡◌, sym, true, false, ℕ, ◌-◌, ◌==◌, List, Result, Ok, Err, IfOk, arith}
use Rattle.std.specs.Str.{bytes_eq}
use Rattle.std.proofs.lemmas.Bool.Decides.{nat_tests}
use Rattle.nas_base.specs.Values.{is_psi}
use Rattle.nas_timers.specs.declared.timer_id.TimerId.{TimerId}
use Rattle.nas_timers.specs.declared.timer_id.TimerId.TheVariants.{T3510, T3516, T3517, T3521, T3522, T3550, T3555, T3560, T3580, T3581, T3582, T3591, T3592}
use Rattle.smf_core.proofs.InputRows.{Goes, may_change, worked_goes}
use Rattle.smf_core.proofs.Moves.{moved_cells, moved_others}
use Rattle.smf_core.proofs.Shifts.{shifted_moved}
use Rattle.smf_core.specs.Laws.{OthersStay, concerns, names_one}
use Rattle.smf_core.specs.State.{cell_of}
use Rattle.smf_core.specs.Step.{Stepped, finished, started, worked}
use Rattle.smf_core.specs.Work.{Working, status}
use Rattle.smf_core.specs.declared.inputs.SmfInput.{SmfInput}
use Rattle.smf_core.specs.declared.inputs.SmfInput.TheVariants.{Frame, Switched, ReleaseAll, KeepOnly, Expired, Modify, Release}
use Rattle.smf_core.specs.declared.inputs.SmfRefusal.{SmfRefusal}

-- an identity that isn't concerned has another place than those that are
apart_from : (psi q p : ℕ) → is_psi psi ≡ true → is_psi q ≡ true → (psi == q) ≡ false → (psi == p) ≡ true → q - 1 ≡ p - 1 → ⊥
apart_from psi q p one other differ same place = grind (arith, nat_tests, one, other, differ, same, place)

nothing_apart : {A : Type 0} → true ≡ false → A
nothing_apart no_way = absurd (cc)

expired_apart : (id : TimerId) (q p : ℕ) → names_one (Expired id) ≡ true → is_psi q ≡ true → concerns (Expired id) q ≡ false
    → may_change (Expired id) p ≡ true → q - 1 ≡ p - 1 → ⊥
expired_apart (T3591 psi) q p one other differ same place = apart_from psi q p one other differ same place
expired_apart (T3592 psi) q p one other differ same place = apart_from psi q p one other differ same place
expired_apart T3510 q p one other differ same place = nothing_apart (sym same)
expired_apart T3516 q p one other differ same place = nothing_apart (sym same)
expired_apart T3517 q p one other differ same place = nothing_apart (sym same)
expired_apart T3521 q p one other differ same place = nothing_apart (sym same)
expired_apart T3522 q p one other differ same place = nothing_apart (sym same)
expired_apart T3550 q p one other differ same place = nothing_apart (sym same)
expired_apart T3555 q p one other differ same place = nothing_apart (sym same)
expired_apart T3560 q p one other differ same place = nothing_apart (sym same)
expired_apart (T3580 psi) q p one other differ same place = nothing_apart (sym same)
expired_apart (T3581 psi) q p one other differ same place = nothing_apart (sym same)
expired_apart (T3582 psi) q p one other differ same place = nothing_apart (sym same)

input_apart : (input : SmfInput) (q p : ℕ) → names_one input ≡ true → is_psi q ≡ true → concerns input q ≡ false → may_change input p ≡ true
    → q - 1 ≡ p - 1 → ⊥
input_apart (Frame psi challenge dnn slice octets) q p one other differ same place = apart_from psi q p one other differ same place
input_apart Switched q p one other differ same place = nothing_apart differ
input_apart ReleaseAll q p one other differ same place = nothing_apart differ
input_apart (KeepOnly status) q p one other differ same place = nothing_apart differ
input_apart (Expired id) q p one other differ same place = expired_apart id q p one other differ same place
input_apart (Modify psi ops ambr) q p one other differ same place = apart_from psi q p one other differ same place
input_apart (Release psi) q p one other differ same place = apart_from psi q p one other differ same place

pub others_stay : OthersStay
others_stay smf now supi input one = go (worked input (started smf now supi)) (worked_goes (started smf now supi) input) where
  go : (r : Result Working SmfRefusal) → Goes (may_change input) (started smf now supi) r → IfOk (finished r) (λ (s : Stepped).
      ((other : List ℕ) (q : ℕ) → bytes_eq supi other ≡ false → cell_of other q s.smf ≡ cell_of other q smf)
      × ((q : ℕ) → is_psi q ≡ true → concerns input q ≡ false → cell_of supi q s.smf ≡ cell_of supi q smf))
  go (Ok v) moved = (
    (λ other q apart. moved_others (may_change input) (started smf now supi) v other q apart
        (shifted_moved (may_change input) (started smf now supi) v moved)),
    (λ q right differ. moved_cells (may_change input) (started smf now supi) v q (λ p same place. input_apart input q p one right differ same place)
        (shifted_moved (may_change input) (started smf now supi) v moved)),
  )
  go (Err e) moved = tt
