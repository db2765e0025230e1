-- What the SMF makes of a 5GSM message that came (TS 24.501 clauses 7.2 to 7.5).
use Rattle.std.specs.Prelude.{ℕ, ◌==◌, List, slice_index_or, Result, Ok, Err}
use Rattle.nas_base.specs.Branches.{when◌then◌else◌}
use Rattle.nas_base.specs.declared.sm_cause.TheConstants as cause
use Rattle.sm_messages.specs.Messages.{sm_in}
use Rattle.sm_messages.specs.declared.message.Sm.{Sm}
use Rattle.sm_messages.specs.declared.message.Sm.TheVariants as sm
use Rattle.sm_messages.specs.declared.message.SmFrame.{SmFrame}
use Rattle.sm_messages.specs.declared.message.SmRefusal.{SmRefusal}
use Rattle.sm_messages.specs.declared.message.SmRefusal.TheVariants as unread
use Rattle.smf_core.specs.Answers.{command_rejected, modification_completed, release_completed, status_told}
use Rattle.smf_core.specs.Establishment.{establishment_requested}
use Rattle.smf_core.specs.Modification.{modification_requested}
use Rattle.smf_core.specs.Release.{release_requested}
use Rattle.smf_core.specs.Work.{Working, status}
use Rattle.smf_core.specs.declared.delivery.Carried.{Carried}

-- a message of a kind that only a network sends (clause 7.4)
abbrev pub misdirected : ℕ → ℕ → Working → Working
misdirected psi pti w = status psi pti cause.MESSAGE_TYPE_NOT_COMPATIBLE_WITH_THE_PROTOCOL_STATE w

-- the row of each message
unfoldable pub taken : Carried → ℕ → Sm → Working → Working
taken c pti (sm.PduSessionEstablishmentRequest m) w =
    establishment_requested (record { psi = c.psi; pti = pti; challenge = c.challenge }) m.session_type c.dnn c.slice w
taken c pti (sm.PduSessionModificationRequest m) w = modification_requested m.rules c.psi pti w
taken c pti sm.PduSessionModificationComplete w = modification_completed c.psi pti w
taken c pti (sm.PduSessionModificationCommandReject m) w = command_rejected m.cause c.psi pti w
taken c pti (sm.PduSessionReleaseRequest m) w = release_requested c.psi pti w
taken c pti (sm.PduSessionReleaseComplete m) w = release_completed c.psi pti w
taken c pti (sm.FiveGsmStatus m) w = status_told m.cause c.psi pti w
taken c pti (sm.PduSessionEstablishmentAccept m) w = misdirected c.psi pti w
taken c pti (sm.PduSessionEstablishmentReject m) w = misdirected c.psi pti w
taken c pti (sm.PduSessionModificationReject m) w = misdirected c.psi pti w
taken c pti (sm.PduSessionModificationCommand m) w = misdirected c.psi pti w
taken c pti (sm.PduSessionReleaseReject m) w = misdirected c.psi pti w
taken c pti (sm.PduSessionReleaseCommand m) w = misdirected c.psi pti w

-- STATUS 97 and 96 answer a type that isn't known, and a mandatory part that is cut; 5GSM STATUS
-- is never answered (clauses 7.4 and 7.5.1)
abbrev pub five_gsm_status : ℕ
five_gsm_status = 0xd6

abbrev pub faulty : ℕ → List ℕ → Working → Working
faulty psi octets w =
    when slice_index_or octets 3 0 == five_gsm_status then w
    else status psi (slice_index_or octets 2 0) cause.INVALID_MANDATORY_INFORMATION w

abbrev pub read : Carried → Result SmFrame SmRefusal → List ℕ → Working → Working
read c (Ok message) octets w = taken c message.pti message.body w
read c (Err (unread.Ignored at)) octets w = w
read c (Err (unread.UnknownType n)) octets w =
    status c.psi (slice_index_or octets 2 0) cause.MESSAGE_TYPE_NON_EXISTENT_OR_NOT_IMPLEMENTED w
read c (Err (unread.Mandatory n at)) octets w = faulty c.psi octets w
read c (Err unread.Memory) octets w = w

-- A message that names another session than the one that it was carried for is ignored.
unfoldable pub delivered : Carried → List ℕ → Working → Working
delivered c octets w = when slice_index_or octets 1 0 == c.psi then read c (sm_in octets) octets w else w
