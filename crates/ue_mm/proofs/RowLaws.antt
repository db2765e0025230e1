-- What the row of each input starts, stops and says.
use Rattle.std.proofs.Common.{refl, ℕ, Bool, List, Option}
use Rattle.ue_mm.specs.Laws.{running_at, running_in}
use Rattle.ue_mm.specs.State.{MmState}
use Rattle.ue_mm.specs.Step.{started, worked}
use Rattle.ue_mm.specs.Transport.{carried, ul_transport}
use Rattle.ue_mm.specs.declared.inputs.UeInput.{UeInput}
use Rattle.ue_mm.specs.declared.inputs.UeInput.TheVariants.{Command, Delivered, Expired, Dropped, Restart, Carry}
use Rattle.ue_mm.specs.declared.work.Work.{Work}
use Rattle.nas_base.proofs.Branching.{when_holds}
use Rattle.ue_mm.proofs.DeliveryRows.{delivery_is_done}
use Rattle.ue_mm.proofs.EventRows.{IsWorked, command_is_worked, expiry_is_done, loss_is_done, restart_is_done}
use Rattle.ue_mm.proofs.RowTools.{IsBegun, IsDone, answer_is_done, begun_is_done}
use Rattle.ue_mm.proofs.Summary.{Summary, summed_from}

carrying_is_done : (s : Summary) (link : Bool) (psi : ℕ) (dnn : Option (List ℕ)) (frame : List ℕ) (w : Work)
    → IsBegun s link (running_in w.phase) w → IsDone s link (carried psi dnn frame w)
unfolding carried
carrying_is_done s link psi dnn frame w h =
    when_holds (λ (x : Work). IsDone s link x) w.common.secure _ w
    (λ _. answer_is_done s link w (ul_transport psi dnn frame) h) (λ _. begun_is_done s link w h)

pub input_is_worked : (s : MmState) (now : ℕ) (held : List Bool) (input : UeInput)
    → IsWorked (summed_from (running_at input (running_in s.phase))) s.common.connected (worked input (started s now held))
unfolding worked
input_is_worked s now held (Command command) =
    command_is_worked (summed_from (running_in s.phase)) s.common.connected command (started s now held) (record { said = refl; linked = refl })
input_is_worked s now held (Delivered octets) =
    delivery_is_done (summed_from (running_in s.phase)) s.common.connected octets (started s now held) (record { said = refl; linked = refl })
input_is_worked s now held (Expired id) =
    expiry_is_done (summed_from (running_at (Expired id) (running_in s.phase))) s.common.connected id (started s now held)
    (record { said = refl; linked = refl })
input_is_worked s now held Dropped =
    loss_is_done (summed_from (running_in s.phase)) s.common.connected (started s now held) (record { said = refl; linked = refl })
input_is_worked s now held Restart =
    restart_is_done (summed_from (running_in s.phase)) s.common.connected (started s now held) (record { said = refl; linked = refl })
input_is_worked s now held (Carry psi dnn frame) =
    carrying_is_done (summed_from (running_in s.phase)) s.common.connected psi dnn frame (started s now held)
    (record { said = refl; linked = refl })
