-- What a step starts, stops and sends.
use Rattle.std.proofs.Common.{refl, ℕ, Bool, List, [], Result, Ok, Err}
use Rattle.ue_mm.specs.Laws.{Running, SendsOneAtMost, TimersHaveOwners, running_at, running_in}
use Rattle.ue_mm.specs.State.{MmState}
use Rattle.ue_mm.specs.Step.{ended, finished, started, step_of, worked}
use Rattle.ue_mm.specs.declared.inputs.StepRefusal.{StepRefusal}
use Rattle.ue_mm.specs.declared.inputs.UeInput.{UeInput}
use Rattle.ue_mm.specs.declared.work.Work.{Work}
use Rattle.ue_mm.proofs.FramedSummary.{framed_is_sound}
use Rattle.ue_mm.proofs.EventRows.{IsWorked}
use Rattle.ue_mm.proofs.RowLaws.{input_is_worked}
use Rattle.ue_mm.proofs.RowTools.{IsDone}
use Rattle.ue_mm.proofs.StopLaws.{left_is_stopped}
use Rattle.ue_mm.proofs.Summary.{IsSound, sound_runs, sound_sends, summed_from, summed_outs}

-- what a row said is sound, and so is what goes out
goes_out : (running : Running) (connected : Bool) (w : Work) → IsDone (summed_from running) connected w
    → IsSound connected (ended w).state.phase (summed_outs (ended w).outs (summed_from running))
unfolding ended
goes_out running connected w h =
    framed_is_sound w.common.config.supi w.acts (summed_from running) (record { current = w.common.current; outs = [] }) connected w.phase refl h.sound

runs : (s : MmState) (input : UeInput) (worked : Result Work StepRefusal)
    → IsWorked (summed_from (running_at input (running_in s.phase))) s.common.connected worked
    → TimersHaveOwners s input (finished worked)
unfolding ended
runs s input (Ok w) h =
    let are = sound_runs (running_at input (running_in s.phase)) s.common.connected w.phase (ended w).outs
    (goes_out (running_at input (running_in s.phase)) s.common.connected w h) in
    record { running = are.0; starts = are.1; stops = left_is_stopped s.phase w.phase input (ended w).outs are.0 }
runs s input (Err refusal) h = tt

pub timers_have_owners : (s : MmState) (now : ℕ) (held : List Bool) (input : UeInput) → TimersHaveOwners s input (step_of s now held input)
timers_have_owners s now held input = runs s input (worked input (started s now held)) (input_is_worked s now held input)

sends : (s : MmState) (input : UeInput) (worked : Result Work StepRefusal)
    → IsWorked (summed_from (running_at input (running_in s.phase))) s.common.connected worked
    → SendsOneAtMost s (finished worked)
unfolding ended
sends s input (Ok w) h =
    sound_sends (running_at input (running_in s.phase)) s.common.connected w.phase (ended w).outs
    (goes_out (running_at input (running_in s.phase)) s.common.connected w h)
sends s input (Err refusal) h = tt

pub one_message_at_most : (s : MmState) (now : ℕ) (held : List Bool) (input : UeInput) → SendsOneAtMost s (step_of s now held input)
one_message_at_most s now held input = sends s input (worked input (started s now held)) (input_is_worked s now held input)
