-- Every message that goes out of a turn has 4,096 octets at most, since each of a step has.
use Rattle.std.proofs.Common.{ℕ, List, [], ◌∷◌, max, Result, Ok, Err}
use Rattle.nas_base.proofs.Branching.{when_holds}
use Rattle.nas_elements.specs.Status.{no_session}
use Rattle.nas_timers.specs.declared.timer_id.TimerId.{TimerId}
use Rattle.ue_mm.proofs.LengthLaws.{messages_fit}
use Rattle.ue_mm.specs.Laws.{AllFit, MessagesFit}
use Rattle.ue_mm.specs.Step.{Stepped}
use Rattle.ue_mm.specs.declared.inputs.StepRefusal.{StepRefusal}
use Rattle.ue_mm.specs.declared.inputs.StepRefusal.TheVariants as refusals
use Rattle.ue_mm.specs.declared.inputs.UeInput.{UeInput}
use Rattle.ue_mm.specs.declared.inputs.UeInput.TheVariants.{Command, Delivered, Expired}
use Rattle.ue_mm.specs.declared.outs.UeOut.{UeOut}
use Rattle.ue_mm.specs.declared.outs.UeOut.TheVariants as outs
use Rattle.nas_handset.specs.Handset.{commanded, delivered, mm_command, outcome}
use Rattle.mm_entity.proofs.FramingLaws.{one_more_short}
use Rattle.mm_entity.specs.Lengths.{AreShort}
use Rattle.nas_handset.specs.Lengths.{CommandsShort}
use Rattle.nas_handset.specs.State.{HandsetState}
use Rattle.nas_handset.specs.Ticks.{all_fired, at_moment, due_list, fired, is_due, ticked, without}
use Rattle.nas_handset.specs.Turns.{Turn, all_taken, begun, onto, stepped, taken, turned}
use Rattle.nas_handset.specs.declared.command.UeCommand.{UeCommand}

all_taken_short : (list : List UeOut) (t : Turn) → AllFit list → AreShort t.sends → AreShort (all_taken list t).sends
all_taken_short [] t fit begin = begin
all_taken_short (outs.Send fresh octets pass ∷ list) t fit begin =
    all_taken_short list (taken (outs.Send fresh octets pass) t) fit.1 (one_more_short t.sends _ begin fit.0)
all_taken_short (outs.Passed pass ∷ list) t fit begin = all_taken_short list (taken (outs.Passed pass) t) fit.1 begin
all_taken_short (outs.Took context ∷ list) t fit begin = all_taken_short list (taken (outs.Took context) t) fit.1 begin
all_taken_short (outs.Start id at ∷ list) t fit begin = all_taken_short list (taken (outs.Start id at) t) fit.1 begin
all_taken_short (outs.Stop id ∷ list) t fit begin = all_taken_short list (taken (outs.Stop id) t) fit.1 begin
all_taken_short (outs.ToSession octets ∷ list) t fit begin = all_taken_short list t fit.1 begin
all_taken_short (outs.NotForwarded octets ∷ list) t fit begin = all_taken_short list t fit.1 begin
all_taken_short (outs.Abandon ∷ list) t fit begin = all_taken_short list t fit.1 begin
all_taken_short (outs.Clear ∷ list) t fit begin = all_taken_short list t fit.1 begin
all_taken_short (outs.Keep sessions ∷ list) t fit begin = all_taken_short list t fit.1 begin

onto_short : (step : Result Stepped StepRefusal) (t : Turn) → MessagesFit step → AreShort t.sends → AreShort (onto step t).sends
onto_short (Ok s) t fit begin = all_taken_short s.outs (record t { handset = record t.handset { mm = s.state } }) fit begin
onto_short (Err refusal) t fit begin = begin

step_fits : (input : UeInput) (t : Turn) → MessagesFit (stepped input t)
step_fits input t = messages_fit t.handset.mm t.handset.moment no_session input

turned_short : (input : UeInput) (t : Turn) → AreShort t.sends → AreShort (turned input t).sends
unfolding turned
turned_short input t begin = onto_short (stepped input t) t (step_fits input t) begin

pub delivered_short : (octets : List ℕ) (h : HandsetState) → AreShort (delivered octets h).sends
delivered_short octets h = turned_short (Delivered octets) (begun h) tt

fired_short : (id : TimerId) (t : Turn) → AreShort t.sends → AreShort (fired id t).sends
unfolding fired
fired_short id t begin =
    when_holds (λ (x : Turn). AreShort x.sends) (is_due id t.handset)
    (turned (Expired id) (record t { handset = without id t.handset })) t
    (λ _. turned_short (Expired id) (record t { handset = without id t.handset }) begin) (λ _. begin)

all_fired_short : (ids : List TimerId) (t : Turn) → AreShort t.sends → AreShort (all_fired ids t).sends
all_fired_short [] t begin = begin
all_fired_short (id ∷ ids) t begin = all_fired_short ids (fired id t) (fired_short id t begin)

pub ticked_short : (now : ℕ) (h : HandsetState) → AreShort (ticked now h).sends
unfolding ticked
ticked_short now h = all_fired_short (due_list (max h.moment now) h.timers) (begun (at_moment now h)) tt

outcome_short : (step : Result Stepped StepRefusal) (h : HandsetState) → MessagesFit step → CommandsShort (outcome step h)
outcome_short (Ok s) h fit = onto_short (Ok s) (begun h) fit tt
outcome_short (Err (refusals.WrongState word)) h fit = tt
outcome_short (Err (refusals.Spent next)) h fit = tt
outcome_short (Err refusals.Memory) h fit = tt

pub commanded_short : (command : UeCommand) (h : HandsetState) → CommandsShort (commanded command h)
unfolding commanded
commanded_short command h =
    outcome_short (stepped (Command (mm_command command)) (begun h)) h (step_fits (Command (mm_command command)) (begun h))
