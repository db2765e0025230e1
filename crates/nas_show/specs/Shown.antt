-- What octets are shown as: the text of a message or of a frame, or the place where they are neither.
use Rattle.std.specs.Prelude.{◌≡◌, ℕ, ◌%◌, not, List, [], ◌∷◌, ◌++◌, length, take, drop, slice_index, nat_lt, ◌==◌, codes, Result, Ok, Err, if◌then◌else◌}
use Rattle.std.specs.Fmt.{decimal}
use Rattle.hex.specs.Hex.{encode_lower}
use Rattle.nas_base.specs.Kinds.{mm_type, sm_type}
use Rattle.mm_messages.specs.KindOf.{kind_of}
use Rattle.mm_messages.specs.Messages.{mm_in, pieces_of}
use Rattle.mm_messages.specs.declared.message.Mm.{Mm}
use Rattle.mm_messages.specs.declared.message.MmRefusal.{MmRefusal}
use Rattle.mm_messages.specs.declared.message.MmRefusal.TheVariants.{Ignored, UnknownType, Mandatory, Memory}
use Rattle.sm_messages.specs.KindOf as sm
use Rattle.sm_messages.specs.Messages.{sm_in}
use Rattle.sm_messages.specs.Messages as sessions
use Rattle.sm_messages.specs.declared.message.SmFrame.{SmFrame}
use Rattle.sm_messages.specs.declared.message.SmRefusal.{SmRefusal}
use Rattle.sm_messages.specs.declared.message.SmRefusal.TheVariants as refused
use Rattle.nas_show.specs.Lines.{lines}
use Rattle.nas_show.specs.declared.showing.ShowRefusal.{ShowRefusal}
use Rattle.nas_show.specs.declared.showing.ShowRefusal.TheVariants as refusals

-- a plain message: its type, and its lines
unfoldable pub message_head : ℕ → List ℕ
message_head kind = codes "5gmm " ++ (encode_lower (kind ∷ []) ++ codes "\n")

unfoldable pub message_text : Mm → List ℕ
message_text message = message_head (mm_type (kind_of message)) ++ lines (pieces_of message)

-- a protected frame: its header type, the MAC of four octets, and the sequence number (TS 24.501 clause 9.1.1)
unfoldable pub frame_text : List ℕ → List ℕ
frame_text octets =
    codes "protected "
    ++ (decimal (slice_index octets 1 % 16) ++ (codes " mac " ++ (encode_lower (take 4 (drop 2 octets))
    ++ (codes " sn " ++ (decimal (slice_index octets 6) ++ codes "\n")))))

-- a 5GSM message: its type, its two identities, and its lines
unfoldable pub session_head : ℕ → ℕ → ℕ → List ℕ
session_head kind psi pti =
    codes "5gsm " ++ (encode_lower (kind ∷ []) ++ (codes " psi " ++ (decimal psi ++ (codes " pti " ++ (decimal pti ++ codes "\n")))))

unfoldable pub session_text : SmFrame → List ℕ
session_text frame = session_head (sm_type (sm.kind_of frame.body)) frame.psi frame.pti ++ lines (sessions.pieces_of frame.body)

-- the place where octets are no plain message: that of the type where the type is unknown
abbrev pub plain : Result Mm MmRefusal → Result (List ℕ) ℕ
plain (Ok message) = Ok (message_text message)
plain (Err (Ignored at)) = Err at
plain (Err (UnknownType n)) = Err 2
plain (Err (Mandatory n at)) = Err at
plain (Err Memory) = Err 0  -- no octets give this

-- the same of 5GSM messages, whose type is the fourth octet
abbrev pub session : Result SmFrame SmRefusal → Result (List ℕ) ℕ
session (Ok frame) = Ok (session_text frame)
session (Err (refused.Ignored at)) = Err at
session (Err (refused.UnknownType n)) = Err 3
session (Err (refused.Mandatory n at)) = Err at
session (Err refused.Memory) = Err 0  -- no octets give this

-- By the protocol discriminator in the first octet, 2E or 7E. Of the latter, by the header type in the low half of the second:
-- 0 is a plain message, 1 to 4 are frames, which have at least 8 octets.
unfoldable pub shown : List ℕ → Result (List ℕ) ℕ
shown octets =
    if slice_index octets 0 == 0x2e then session (sm_in octets)
    else (if not (slice_index octets 0 == 0x7e) then Err 0
    else (if nat_lt 4 (slice_index octets 1 % 16) then Err 1
    else (if slice_index octets 1 % 16 == 0 then plain (mm_in octets)
    else (if nat_lt (length octets) 8 then Err (length octets) else Ok (frame_text octets)))))

-- what a shower answered, its text seen by a view
abbrev pub Shows : {X : Type 0} → (X → List ℕ) → Result X ShowRefusal → Result (List ℕ) ℕ → Type 0
Shows view (Ok text) wanted = wanted ≡ Ok (view text)
Shows view (Err (refusals.Octets place)) wanted = wanted ≡ Err place
Shows view (Err refusals.Memory) wanted = Unit {0}
