-- No event changes the SUPI that was configured, and what was sent stays.
use Rattle.std.proofs.Common.{◌≡◌, ◌≤◌, ◌++◌, ℕ, Bool, List, length, Option, Some, None, Result, Ok, Err, refl, arith}
use Rattle.std.proofs.lemmas.List.{length-append}
use Rattle.nas_base.specs.Branches.{per}
use Rattle.nas_security.specs.declared.sends.Send.{Send}
use Rattle.nas_handset.specs.Handset as handset
use Rattle.nas_handset.specs.Ticks as handset_ticks
use Rattle.nas_handset.specs.Turns as handset_turns
use Rattle.nas_handset.specs.declared.command.CommandRefusal.{CommandRefusal}
use Rattle.nas_network.specs.Network as network
use Rattle.nas_network.specs.Ticks as network_ticks
use Rattle.nas_network.specs.Turns as network_turns
use Rattle.nas_network.specs.declared.command.NetRefusal.{NetRefusal}
use Rattle.nas_world.specs.Events.{brought_to_net, brought_to_ue, delivered_to_net, delivered_to_ue, net_dropped, net_outcome, net_ticked, order_for, ordered, restarted, step_of, ue_commanded, ue_dropped, ue_outcome, ue_ticked, unsent}
use Rattle.nas_world.specs.Logs.{sent_at}
use Rattle.nas_world.specs.State.{WorldState}
use Rattle.nas_world.specs.declared.event.Event.{Event}
use Rattle.nas_world.specs.declared.event.Event.TheVariants as events

-- a world behind another
pub record IsBehind (old new : WorldState) : Type 0 where
  pub supi : new.supi ≡ old.supi
  pub ups : length old.up ≤ length new.up
  pub downs : length old.down ≤ length new.down

same : (ss : List Send) → length ss ≤ length ss
same ss = omega arith

longer : (ss more : List Send) → length ss ≤ length (ss ++ more)
longer ss more = grind (arith, length-append ss more)

-- nothing was sent; messages were sent up; messages were sent down
stays : (old new : WorldState) → new.supi ≡ old.supi → new.up ≡ old.up → new.down ≡ old.down → IsBehind old new
stays old new supi up down = record { supi = supi; ups = rw up (same old.up); downs = rw down (same old.down) }

sent_up : (old new : WorldState) (more : List Send) → new.supi ≡ old.supi → new.up ≡ old.up ++ more → new.down ≡ old.down → IsBehind old new
sent_up old new more supi up down = record { supi = supi; ups = rw up (longer old.up more); downs = rw down (same old.down) }

sent_down : (old new : WorldState) (more : List Send) → new.supi ≡ old.supi → new.up ≡ old.up → new.down ≡ old.down ++ more → IsBehind old new
sent_down old new more supi up down = record { supi = supi; ups = rw up (same old.up); downs = rw down (longer old.down more) }

of_command : (r : Result handset_turns.Turn CommandRefusal) (w : WorldState) → IsBehind w (ue_outcome r w).0
of_command (Ok t) w = sent_up w _ t.sends refl refl refl
of_command (Err refusal) w = stays w w refl refl refl

of_order : (r : Result network_turns.Turn NetRefusal) (w : WorldState) → IsBehind w (net_outcome r w).0
of_order (Ok t) w = sent_down w _ t.sends refl refl refl
of_order (Err refusal) w = stays w w refl refl refl

to_net : (fresh : Bool) (octets : List ℕ) (w : WorldState) → IsBehind w (brought_to_net fresh octets w).0
unfolding brought_to_net
to_net fresh octets w = sent_down w _ (network.delivered w.random 1 fresh octets w.network).sends refl refl refl

to_ue : (octets : List ℕ) (w : WorldState) → IsBehind w (brought_to_ue octets w).0
unfolding brought_to_ue
to_ue octets w = sent_up w _ (handset.delivered octets w.handset).sends refl refl refl

delivery_to_net : (sent : Option Send) (w : WorldState) → IsBehind w (per sent (w, unsent) (λ (s : Send). brought_to_net s.fresh s.octets w)).0
unfolding per
delivery_to_net None w = stays w w refl refl refl
delivery_to_net (Some s) w = to_net s.fresh s.octets w

delivery_to_ue : (sent : Option Send) (w : WorldState) → IsBehind w (per sent (w, unsent) (λ (s : Send). brought_to_ue s.octets w)).0
unfolding per
delivery_to_ue None w = stays w w refl refl refl
delivery_to_ue (Some s) w = to_ue s.octets w

is_behind : (w : WorldState) (event : Event) → IsBehind w (step_of w event).0
unfolding ue_commanded ordered delivered_to_net delivered_to_ue ue_ticked net_ticked ue_dropped net_dropped restarted
is_behind w (events.Command command) = of_command (handset.commanded command w.handset) w
is_behind w (events.NetCommand order) = of_order (network.commanded w.random (order_for order w.supi) w.network) w
is_behind w (events.ToNet number) = delivery_to_net (sent_at number w.up) w
is_behind w (events.ToUe number) = delivery_to_ue (sent_at number w.down) w
is_behind w (events.InjectNet fresh octets) = to_net fresh octets w
is_behind w (events.InjectUe octets) = to_ue octets w
is_behind w (events.UeAt now) = sent_up w _ (handset_ticks.ticked now w.handset).sends refl refl refl
is_behind w (events.NetAt now) = sent_down w _ (network_ticks.ticked w.random now w.network).sends refl refl refl
is_behind w events.DropUe = stays w _ refl refl refl
is_behind w events.DropNet = stays w _ refl refl refl
is_behind w events.Restart = stays w _ refl refl refl
is_behind w (events.Random words) = stays w _ refl refl refl

pub keeps_supi : (w : WorldState) (event : Event) → (step_of w event).0.supi ≡ w.supi
keeps_supi w event = (is_behind w event).supi

pub keeps_ups : (w : WorldState) (event : Event) → length w.up ≤ length (step_of w event).0.up
keeps_ups w event = (is_behind w event).ups

pub keeps_downs : (w : WorldState) (event : Event) → length w.down ≤ length (step_of w event).0.down
keeps_downs w event = (is_behind w event).downs
