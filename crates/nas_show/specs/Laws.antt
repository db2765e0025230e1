-- The text of a message has the pieces of its spelling, in their order.
use Rattle.std.specs.Prelude.{◌≡◌, ◌++◌}
use Rattle.nas_base.specs.Kinds.{mm_type, sm_type}
use Rattle.nas_layout.specs.Pieces.{joined, piece_octets}
use Rattle.mm_messages.specs.KindOf.{kind_of}
use Rattle.mm_messages.specs.Messages.{pieces_of, spelling}
use Rattle.mm_messages.specs.Parts.{head}
use Rattle.mm_messages.specs.declared.message.Mm.{Mm}
use Rattle.sm_messages.specs.KindOf as sm
use Rattle.sm_messages.specs.Messages as sessions
use Rattle.sm_messages.specs.Parts as session_parts
use Rattle.sm_messages.specs.declared.message.SmFrame.{SmFrame}
use Rattle.nas_show.specs.Lines.{piece_text}
use Rattle.nas_show.specs.Shown.{message_head, message_text, session_head, session_text}

-- a message is written as its pieces behind its head, and shown as their lines behind its type
pub record PiecesAreShown (m : Mm) : Type 0 where
  pub spelled : spelling m ≡ head (mm_type (kind_of m)) ++ joined piece_octets (pieces_of m)
  pub shown : message_text m ≡ message_head (mm_type (kind_of m)) ++ joined piece_text (pieces_of m)

-- the same of a 5GSM message
pub record SessionPiecesAreShown (frame : SmFrame) : Type 0 where
  pub spelled : sessions.spelling frame ≡ session_parts.head frame.psi frame.pti (sm_type (sm.kind_of frame.body)) ++ joined piece_octets (sessions.pieces_of frame.body)
  pub shown : session_text frame ≡ session_head (sm_type (sm.kind_of frame.body)) frame.psi frame.pti ++ joined piece_text (sessions.pieces_of frame.body)
