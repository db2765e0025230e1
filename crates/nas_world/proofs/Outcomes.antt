-- A command that the handset carried out.
use Rattle.std.proofs.Common.{◌≡◌, List, Result, Ok, Err, refl}
use Rattle.nas_security.specs.declared.sends.Send.{Send}
use Rattle.nas_handset.specs.Handset.{FollowsCommand}
use Rattle.nas_handset.specs.State.{HandsetState}
use Rattle.nas_handset.specs.Turns.{Turn}
use Rattle.nas_handset.specs.declared.command.CommandRefusal.{CommandRefusal}
use Rattle.nas_world.specs.Events.{sent_by_handset, ue_outcome}
use Rattle.nas_world.specs.State.{WorldState}

pub carried_out : (new : HandsetState) (sends : List Send) (row : Result Turn CommandRefusal) (w : WorldState) →
    FollowsCommand (Ok (new, sends)) row → ue_outcome row w ≡ sent_by_handset new sends w
carried_out new sends (Ok t) w done = rw (done.0, done.1) refl
carried_out new sends (Err refusal) w done = absurd done
