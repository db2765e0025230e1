-- That timers are stopped changes nothing of what is kept.
use Rattle.std.proofs.Common.{◌≡◌, ◌∙◌, ℕ, zero, suc, Bool, true, false, Option, Some, None, refl}
use Rattle.nas_base.specs.Branches.{chosen, per, when◌then◌else◌}
use Rattle.nas_timers.specs.declared.timer_id.TimerId.{TimerId}
use Rattle.ue_sm.specs.Cells.{timer_of}
use Rattle.ue_sm.specs.Mobility.{all_stopped, concerns, stop_one}
use Rattle.ue_sm.specs.State.{each, every}
use Rattle.ue_sm.specs.Work.{cell, stop, stopped}
use Rattle.ue_sm.specs.declared.mobility.Ending.{Ending}
use Rattle.ue_sm.specs.declared.work.Work.{Work}

stop_keeps : (id : Option TimerId) (w : Work) → (per id w (λ (i : TimerId). stop i w)).state ≡ w.state
unfolding per
stop_keeps None w = refl
stop_keeps (Some id) w = refl

pub stopped_keeps : (psi : ℕ) (w : Work) → (stopped psi w).state ≡ w.state
stopped_keeps psi w = stop_keeps (timer_of psi (cell psi w)) w

chosen_keeps : (test : Bool) (one w : Work) → one.state ≡ w.state → (when test then one else w).state ≡ w.state
unfolding chosen
chosen_keeps true one w same = same
chosen_keeps false one w same = refl

pub stop_one_keeps : (ending : Ending) (psi : ℕ) (w : Work) → (stop_one ending psi w).state ≡ w.state
stop_one_keeps ending psi w = chosen_keeps (concerns ending psi (cell psi w)) (stopped psi w) w (stopped_keeps psi w)

each_keeps : (ending : Ending) (n : ℕ) (w : Work) → (each (stop_one ending) n w).state ≡ w.state
unfolding each
each_keeps ending zero w = refl
each_keeps ending (suc n) w = stop_one_keeps ending (suc n) (each (stop_one ending) n w) ∙ each_keeps ending n w

pub all_stopped_keeps : (ending : Ending) (w : Work) → (all_stopped ending w).state ≡ w.state
unfolding every
all_stopped_keeps ending w = each_keeps ending 15 w
