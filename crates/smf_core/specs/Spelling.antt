-- A message that is kept as the octets that it is written as.
use Rattle.std.specs.Prelude.{◌≡◌, ◌≤◌, ℕ, Bool, List, length, Result, Ok, Err}
use Rattle.std.specs.Str.{bytes_eq}
use Rattle.sm_messages.specs.Messages.{sm_in, spelling}
use Rattle.sm_messages.specs.declared.message.Sm.TheVariants as sm
use Rattle.sm_messages.specs.declared.message.SmFrame.{SmFrame}
use Rattle.sm_messages.specs.declared.message.SmRefusal.{SmRefusal}

-- the message that was read; what is kept as a message is one
abbrev pub read_frame : Result SmFrame SmRefusal → SmFrame
read_frame (Ok frame) = frame
read_frame (Err refusal) = record { psi = 0; pti = 0; body = sm.PduSessionModificationComplete }

abbrev pub frame_in : List ℕ → SmFrame
frame_in octets = read_frame (sm_in octets)

-- what is always so of kept octets: they are the message's, and 4,096 at most
pub record AreKept (octets : List ℕ) : Type 0 where
  pub spelled : spelling (frame_in octets) ≡ octets
  pub short : length octets ≤ 4096

-- Two messages are the same exactly where they are written the same, since a message has one spelling, and octets are
-- read as one message at most.
abbrev pub is_same_frame : SmFrame → SmFrame → Bool
is_same_frame one other = bytes_eq (spelling one) (spelling other)
