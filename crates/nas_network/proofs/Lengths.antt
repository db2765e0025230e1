-- Every message that goes out of a turn has 4,096 octets at most, since each of a step has.
use Rattle.std.proofs.Common.{ℕ, List, [], ◌∷◌, take, max, Bool, Result, Ok, Err}
use Rattle.nas_base.proofs.Branching.{when_holds}
use Rattle.amf_core.specs.Step.{Stepped}
use Rattle.amf_core.specs.declared.inputs.AmfInput.{AmfInput}
use Rattle.amf_core.specs.declared.inputs.AmfInput.TheVariants.{Uplink, Expired}
use Rattle.amf_core.specs.declared.inputs.AmfRefusal.{AmfRefusal}
use Rattle.amf_core.specs.declared.outs.AmfOut.{AmfOut}
use Rattle.amf_core.specs.declared.outs.AmfOut.TheVariants as outs
use Rattle.amf_laws.proofs.LengthLaws.{messages_fit}
use Rattle.amf_laws.specs.Lengths.{AllFit, MessagesFit}
use Rattle.mm_entity.proofs.FramingLaws.{one_more_short}
use Rattle.mm_entity.specs.Lengths.{AreShort}
use Rattle.nas_network.specs.Lengths.{CommandsShort}
use Rattle.nas_network.specs.Network.{amf_command, commanded, delivered, most_taken, outcome}
use Rattle.nas_network.specs.State.{NetworkState}
use Rattle.nas_network.specs.Ticks.{DueTimer, all_fired, due_list, expired, fired, is_due, ticked, told, without}
use Rattle.nas_network.specs.Turns.{Turn, all_taken, begun, onto, reached, stepped, taken, turned}
use Rattle.nas_network.specs.declared.command.NetCommand.{NetCommand}

all_taken_short : (list : List AmfOut) (t : Turn) → AllFit list → AreShort t.sends → AreShort (all_taken list t).sends
all_taken_short [] t fit begin = begin
all_taken_short (outs.Send send ∷ list) t fit begin =
    all_taken_short list (taken (outs.Send send) t) fit.1 (one_more_short t.sends send begin fit.0)
all_taken_short (outs.Passed pass ∷ list) t fit begin = all_taken_short list (taken (outs.Passed pass) t) fit.1 begin
all_taken_short (outs.Smf call ∷ list) t fit begin = all_taken_short list t fit.1 begin
all_taken_short (outs.Start supi id at ∷ list) t fit begin = all_taken_short list (taken (outs.Start supi id at) t) fit.1 begin
all_taken_short (outs.Stop supi id ∷ list) t fit begin = all_taken_short list (taken (outs.Stop supi id) t) fit.1 begin

onto_short : (step : Result Stepped AmfRefusal) (t : Turn) → MessagesFit step → AreShort t.sends → AreShort (onto step t).sends
onto_short (Ok s) t fit begin = all_taken_short s.outs (reached s t) fit begin
onto_short (Err refusal) t fit begin = begin

step_fits : (rand : List ℕ) (input : AmfInput) (t : Turn) → MessagesFit (stepped rand input t)
step_fits rand input t = messages_fit t.network.amf t.network.home t.network.moment rand input

turned_short : (rand : List ℕ) (input : AmfInput) (t : Turn) → AreShort t.sends → AreShort (turned rand input t).sends
unfolding turned
turned_short rand input t begin = onto_short (stepped rand input t) t (step_fits rand input t) begin

pub delivered_short : (rand : List ℕ) (link : ℕ) (fresh : Bool) (octets : List ℕ) (n : NetworkState)
    → AreShort (delivered rand link fresh octets n).sends
delivered_short rand link fresh octets n = turned_short rand (Uplink link fresh (take most_taken octets)) (begun n) tt

fired_short : (rand : List ℕ) (d : DueTimer) (t : Turn) → AreShort t.sends → AreShort (fired rand d t).sends
unfolding fired
fired_short rand d t begin =
    when_holds (λ (x : Turn). AreShort x.sends) (is_due d t.network) (expired rand d t) t
    (λ _. turned_short rand (Expired d.supi d.id) (record t { network = without d t.network }) begin) (λ _. begin)

all_fired_short : (rand : List ℕ) (ds : List DueTimer) (t : Turn) → AreShort t.sends → AreShort (all_fired rand ds t).sends
all_fired_short rand [] t begin = begin
all_fired_short rand (d ∷ ds) t begin = all_fired_short rand ds (fired rand d t) (fired_short rand d t begin)

pub ticked_short : (rand : List ℕ) (now : ℕ) (n : NetworkState) → AreShort (ticked rand now n).sends
unfolding ticked
ticked_short rand now n =
    all_fired_short rand (due_list (max n.moment now) n.timers) (begun (told (max n.moment now) n)) tt

outcome_short : (step : Result Stepped AmfRefusal) (n : NetworkState) → MessagesFit step → CommandsShort (outcome step n)
outcome_short (Ok s) n fit = onto_short (Ok s) (begun n) fit tt
outcome_short (Err refusal) n fit = tt

pub commanded_short : (rand : List ℕ) (command : NetCommand) (n : NetworkState) → CommandsShort (commanded rand command n)
unfolding commanded
commanded_short rand command n = outcome_short (stepped rand (amf_command command) (begun n)) n (step_fits rand (amf_command command) (begun n))
