-- What octets that reach a handset start, stop and say.
use Rattle.std.proofs.Common.{◌≡◌, refl, ℕ, ◌==◌, ◌||◌, Bool, false, not, List, drop, length, nat_lt, Option, None, Result, Ok, Err, slice_index_or}
use Rattle.nas_base.specs.declared.count.Dir.TheVariants.{Down}
use Rattle.nas_base.specs.Branches.{per, when◌then◌else◌}
use Rattle.nas_base.specs.declared.mm_cause.TheConstants as cause
use Rattle.nas_elements.specs.declared.asi.Asi.{Asi}
use Rattle.nas_security.specs.Contexts.{SecurityContext}
use Rattle.collision_rules.specs.declared.action.Action.{Action}
use Rattle.collision_rules.specs.declared.action.Action.TheVariants.{Take, Discard, Status98, Status43, Status47}
use Rattle.mm_messages.specs.Messages.{mm_in}
use Rattle.mm_messages.specs.declared.message.Mm.{Mm}
use Rattle.mm_messages.specs.declared.message.MmRefusal.{MmRefusal}
use Rattle.mm_messages.specs.declared.message.MmRefusal.TheVariants as refusals
use Rattle.mm_messages.specs.declared.security_mode.SecurityModeCommand.{SecurityModeCommand}
use Rattle.mm_entity.specs.Opening.{Opened, opened, with_count}
use Rattle.ue_mm.specs.Checks.{counted, noted}
use Rattle.mm_entity.specs.Heads.{five_gmm_status, header_of}
use Rattle.ue_mm.specs.Delivery.{action, by_table, command_of, delivered, is_permitted_type, is_plain_allowed, new_context, passed, passed_read, plain, plain_by_table, plain_read, protected}
use Rattle.ue_mm.specs.Laws.{running_in}
use Rattle.ue_mm.specs.SecurityMode.{are_supported, command_completed, command_passed, command_picked, command_repeated, command_under_current, command_under_pending, is_acceptable, made, picked_current, picked_pending, security_mode_commanded, taken_into_use}
use Rattle.ue_mm.specs.State.{is_deregistering}
use Rattle.ue_mm.specs.Work.{status}
use Rattle.ue_mm.specs.declared.common.Pending.{Pending}
use Rattle.ue_mm.specs.declared.work.Work.{Work}
use Rattle.nas_base.proofs.Branching.{per_holds, when_holds}
use Rattle.ue_mm.proofs.MessageRows.{taken_is_done}
use Rattle.ue_mm.proofs.RowTools.{IsBegun, IsDone, answer_is_done, begun_is_done, not_fresh, quiet_is_done, say_is_quiet}
use Rattle.ue_mm.proofs.Summary.{Summary, onto}

-- that a message passed is no row yet
noted_is_begun : (s : Summary) (link : Bool) (context : SecurityContext) (n : ℕ) (w : Work) → IsBegun s link (running_in w.phase) w
    → IsBegun s link (running_in w.phase) (noted context n w)
noted_is_begun s link context n w h = record { said = simp (onto, h.said); linked = h.linked }

counted_is_begun : (s : Summary) (link : Bool) (context : SecurityContext) (n : ℕ) (w : Work) → IsBegun s link (running_in w.phase) w
    → IsBegun s link (running_in w.phase) (counted context n w)
counted_is_begun s link context n w h = record { said = simp (onto, h.said); linked = h.linked }

-- a message that passed
by_table_is_done : (s : Summary) (link : Bool) (a : Action) (m : Mm) (w : Work) → action m w ≡ a → IsBegun s link (running_in w.phase) w
    → IsDone s link (by_table a m w)
by_table_is_done s link Take m w e h = taken_is_done s link m w e h
by_table_is_done s link Status98 m w e h = answer_is_done s link w _ h
by_table_is_done s link Discard m w e h = begun_is_done s link w h
by_table_is_done s link Status43 m w e h = begun_is_done s link w h
by_table_is_done s link Status47 m w e h = begun_is_done s link w h

read_is_done : (s : Summary) (link : Bool) (read : Result Mm MmRefusal) (octets : List ℕ) (w : Work) → IsBegun s link (running_in w.phase) w
    → IsDone s link (passed_read read octets w)
read_is_done s link (Ok m) octets w h = by_table_is_done s link (action m w) m w refl h
read_is_done s link (Err (refusals.Ignored at)) octets w h = begun_is_done s link w h
read_is_done s link (Err (refusals.UnknownType n)) octets w h = answer_is_done s link w _ h
read_is_done s link (Err (refusals.Mandatory n at)) octets w h =
    when_holds (λ (x : Work). IsDone s link x) (slice_index_or octets 2 0 == five_gmm_status) w (status cause.INVALID_MANDATORY_INFORMATION w)
    (λ _. begun_is_done s link w h) (λ _. answer_is_done s link w _ h)
read_is_done s link (Err refusals.Memory) octets w h = begun_is_done s link w h

passed_is_done : (s : Summary) (link : Bool) (octets : List ℕ) (w : Work) → IsBegun s link (running_in w.phase) w
    → IsDone s link (passed octets w)
unfolding passed
passed_is_done s link octets w h = read_is_done s link (mm_in octets) octets w h

-- a plain message
plain_table_is_done : (s : Summary) (link : Bool) (a : Action) (m : Mm) (w : Work) → action m w ≡ a → IsBegun s link (running_in w.phase) w
    → IsDone s link (plain_by_table a m w)
plain_table_is_done s link Take m w e h = taken_is_done s link m w e h
plain_table_is_done s link Status98 m w e h = begun_is_done s link w h
plain_table_is_done s link Discard m w e h = begun_is_done s link w h
plain_table_is_done s link Status43 m w e h = begun_is_done s link w h
plain_table_is_done s link Status47 m w e h = begun_is_done s link w h

plain_read_is_done : (s : Summary) (link : Bool) (read : Result Mm MmRefusal) (octets : List ℕ) (w : Work)
    → IsBegun s link (running_in w.phase) w → IsDone s link (plain_read read octets w)
plain_read_is_done s link (Ok m) octets w h =
    when_holds (λ (x : Work). IsDone s link x) (is_plain_allowed m) (plain_by_table (action m w) m w) w
    (λ _. plain_table_is_done s link (action m w) m w refl h) (λ _. begun_is_done s link w h)
plain_read_is_done s link (Err (refusals.Ignored at)) octets w h = begun_is_done s link w h
plain_read_is_done s link (Err (refusals.UnknownType n)) octets w h = answer_is_done s link w _ h
plain_read_is_done s link (Err (refusals.Mandatory n at)) octets w h =
    when_holds (λ (x : Work). IsDone s link x) (is_permitted_type (slice_index_or octets 2 0)) (status cause.INVALID_MANDATORY_INFORMATION w) w
    (λ _. answer_is_done s link w _ h) (λ _. begun_is_done s link w h)
plain_read_is_done s link (Err refusals.Memory) octets w h = begun_is_done s link w h

plain_is_done : (s : Summary) (link : Bool) (octets : List ℕ) (w : Work) → IsBegun s link (running_in w.phase) w
    → IsDone s link (plain octets w)
unfolding plain
plain_is_done s link octets w h =
    when_holds (λ (x : Work). IsDone s link x) w.common.secure w (plain_read (mm_in octets) octets w)
    (λ _. begun_is_done s link w h) (λ _. plain_read_is_done s link (mm_in octets) octets w h)

-- SECURITY MODE COMMAND
completed_is_done : (s : Summary) (link : Bool) (asi : Option Asi) (w : Work) → IsBegun s link (running_in w.phase) w
    → IsDone s link (command_completed asi w)
unfolding command_completed
completed_is_done s link asi w h =
    quiet_is_done s link _ (say_is_quiet s link (running_in w.phase) w false _ _ (not_fresh link) h)

into_use_is_done : (s : Summary) (link : Bool) (command : SecurityModeCommand) (context : SecurityContext) (w : Work) → IsBegun s link (running_in w.phase) w
    → IsDone s link (taken_into_use command context w)
into_use_is_done s link command context w h =
    completed_is_done s link command.asi _ (record { said = simp (onto, h.said); linked = h.linked })

command_passed_is_done : (s : Summary) (link : Bool) (command : SecurityModeCommand) (context : SecurityContext) (w : Work)
    → IsBegun s link (running_in w.phase) w → IsDone s link (command_passed command context w)
unfolding command_passed
command_passed_is_done s link command context w h =
    when_holds (λ (x : Work). IsDone s link x) (is_acceptable command w.common.config) (taken_into_use command context w) _
    (λ _. into_use_is_done s link command context w h)
    (λ _. answer_is_done s link (record w { common = record w.common { pending = None } }) _
    (record { said = h.said; linked = h.linked }))

repeated_is_done : (s : Summary) (link : Bool) (command : SecurityModeCommand) (w : Work) → IsBegun s link (running_in w.phase) w
    → IsDone s link (command_repeated command w)
repeated_is_done s link command w h =
    when_holds (λ (x : Work). IsDone s link x) (is_deregistering w.phase) w (command_completed command.asi w)
    (λ _. begun_is_done s link w h) (λ _. completed_is_done s link command.asi w h)

picked_is_done : (s : Summary) (link : Bool) (command : SecurityModeCommand) (octets : List ℕ) (w : Work) → IsBegun s link (running_in w.phase) w
    → IsDone s link (command_picked command octets w)
picked_is_done s link command octets w h =
    per_holds (λ (x : Work). IsDone s link x) (picked_pending command.ksi w)
    (per (picked_current command.ksi w) w (λ (context : SecurityContext). command_under_current command context octets w))
    (λ (p : Pending). command_under_pending command (made p command.algs) octets w)
    (λ _. per_holds (λ (x : Work). IsDone s link x) (picked_current command.ksi w) w
    (λ (context : SecurityContext). command_under_current command context octets w)
    (λ _. begun_is_done s link w h)
    (λ context _. per_holds (λ (x : Work). IsDone s link x) (opened context Down octets) w
    (λ (o : Opened). command_repeated command (counted context o.count w))
    (λ _. begun_is_done s link w h)
    (λ o _. repeated_is_done s link command (counted context o.count w) (counted_is_begun s link context o.count w h))))
    (λ p _. per_holds (λ (x : Work). IsDone s link x) (opened (made p command.algs) Down octets) w
    (λ (o : Opened). command_passed command (with_count (made p command.algs) Down o.count) (noted (made p command.algs) o.count w))
    (λ _. begun_is_done s link w h)
    (λ o _. command_passed_is_done s link command (with_count (made p command.algs) Down o.count) (noted (made p command.algs) o.count w)
    (noted_is_begun s link (made p command.algs) o.count w h)))

new_context_is_done : (s : Summary) (link : Bool) (octets : List ℕ) (w : Work) → IsBegun s link (running_in w.phase) w
    → IsDone s link (new_context octets w)
unfolding new_context security_mode_commanded
new_context_is_done s link octets w h =
    per_holds (λ (x : Work). IsDone s link x) (command_of (mm_in (drop 7 octets))) w _
    (λ _. begun_is_done s link w h)
    (λ command _. when_holds (λ (x : Work). IsDone s link x) (are_supported command.algs) (command_picked command octets w) w
    (λ _. picked_is_done s link command octets w h) (λ _. begun_is_done s link w h))

protected_is_done : (s : Summary) (link : Bool) (octets : List ℕ) (w : Work) → IsBegun s link (running_in w.phase) w
    → IsDone s link (protected octets w)
unfolding protected
protected_is_done s link octets w h =
    per_holds (λ (x : Work). IsDone s link x) w.common.current w _
    (λ _. begun_is_done s link w h)
    (λ context _. per_holds (λ (x : Work). IsDone s link x) (opened context Down octets) w
    (λ (o : Opened). passed o.message (counted context o.count w))
    (λ _. begun_is_done s link w h)
    (λ o _. passed_is_done s link o.message (counted context o.count w) (counted_is_begun s link context o.count w h)))

pub delivery_is_done : (s : Summary) (link : Bool) (octets : List ℕ) (w : Work) → IsBegun s link (running_in w.phase) w
    → IsDone s link (delivered octets w)
unfolding delivered
delivery_is_done s link octets w h =
    when_holds (λ (x : Work). IsDone s link x) (not w.common.connected || nat_lt 4096 (length octets)) w
    (when header_of octets == 0 then plain octets w
    else (when header_of octets == 3 then new_context octets w else protected octets w))
    (λ _. begun_is_done s link w h)
    (λ _. when_holds (λ (x : Work). IsDone s link x) (header_of octets == 0) (plain octets w)
    (when header_of octets == 3 then new_context octets w else protected octets w)
    (λ _. plain_is_done s link octets w h)
    (λ _. when_holds (λ (x : Work). IsDone s link x) (header_of octets == 3) (new_context octets w) (protected octets w)
    (λ _. new_context_is_done s link octets w h)
    (λ _. protected_is_done s link octets w h)))
