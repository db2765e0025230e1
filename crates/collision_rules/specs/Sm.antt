-- What is done with a 5GSM message in each state of its session.
use Rattle.nas_base.specs.declared.sm_kind.SmKind.{SmKind}
use Rattle.nas_base.specs.declared.sm_kind.SmKind.TheVariants.{PduSessionEstablishmentRequest, PduSessionEstablishmentAccept, PduSessionEstablishmentReject, PduSessionModificationRequest, PduSessionModificationReject, PduSessionModificationCommand, PduSessionModificationComplete, PduSessionModificationCommandReject, PduSessionReleaseRequest, PduSessionReleaseReject, PduSessionReleaseCommand, PduSessionReleaseComplete, FiveGsmStatus}
use Rattle.nas_base.specs.declared.state_words.SmWord.{SmWord}
use Rattle.nas_base.specs.declared.state_words.SmWord.TheVariants.{Inactive, ActivePending, Active, ModificationPending, InactivePending}
use Rattle.collision_rules.specs.declared.action.Action.{Action}
use Rattle.collision_rules.specs.declared.action.Action.TheVariants.{Take, Discard, Status98, Status43, Status47}
use Rattle.collision_rules.specs.declared.action.PtiCase.{PtiCase}
use Rattle.collision_rules.specs.declared.action.PtiCase.TheVariants as pti

-- the cells: taken, discarded, answered with STATUS 98 (clause 7.4), 43 or 47 (clause 7.3)
abbrev pub T : Action
T = Take

abbrev pub D : Action
D = Discard

abbrev pub S98 : Action
S98 = Status98

abbrev pub S43 : Action
S43 = Status43

abbrev pub S47 : Action
S47 = Status47

-- a row: its cells are those of Inactive, ActivePending, Active, ModificationPending and InactivePending
abbrev pub row : Action → Action → Action → Action → Action → SmWord → Action
row inactive active_pending active modification_pending inactive_pending Inactive = inactive
row inactive active_pending active modification_pending inactive_pending ActivePending = active_pending
row inactive active_pending active modification_pending inactive_pending Active = active
row inactive active_pending active modification_pending inactive_pending ModificationPending = modification_pending
row inactive active_pending active modification_pending inactive_pending InactivePending = inactive_pending

-- at a handset (TS 24.501 clauses 6.3.2, 6.3.3, 6.4.1 to 6.4.3, 7.3 and 7.4)
abbrev pub session_row : SmKind → PtiCase → SmWord → Action
session_row PduSessionEstablishmentAccept pti.Mine = row D T D D D
session_row PduSessionEstablishmentAccept _ = row D D D D D
session_row PduSessionEstablishmentReject pti.Mine = row D T D D D
session_row PduSessionEstablishmentReject _ = row D D D D D
session_row PduSessionModificationCommand pti.None = row S43 S43 T T D
session_row PduSessionModificationCommand pti.Mine = row S43 S43 S47 T D
session_row PduSessionModificationCommand pti.Foreign = row S43 S43 S47 S47 D
session_row PduSessionModificationReject pti.Mine = row D D D T D
session_row PduSessionModificationReject _ = row D D D D D
session_row PduSessionReleaseCommand _ = row S43 S43 T T T
session_row PduSessionReleaseReject pti.Mine = row D D D D T
session_row PduSessionReleaseReject _ = row D D D D D
session_row PduSessionEstablishmentRequest _ = row S98 S98 S98 S98 S98
session_row PduSessionModificationRequest _ = row S98 S98 S98 S98 S98
session_row PduSessionModificationComplete _ = row S98 S98 S98 S98 S98
session_row PduSessionModificationCommandReject _ = row S98 S98 S98 S98 S98
session_row PduSessionReleaseRequest _ = row S98 S98 S98 S98 S98
session_row PduSessionReleaseComplete _ = row S98 S98 S98 S98 S98
session_row FiveGsmStatus _ = row D D D D D

abbrev pub collide_sm : SmWord → SmKind → PtiCase → Action
collide_sm state kind case = session_row kind case state
