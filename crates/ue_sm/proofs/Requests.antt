-- The request that kept octets are.
use Rattle.std.proofs.Common.{◌≡◌, List, ℕ, Ok, ap, ◌∙◌}
use Rattle.sm_messages.specs.Messages.{sm_in, spelling}
use Rattle.sm_messages.specs.declared.message.SmFrame.{SmFrame}
use Rattle.ue_sm.specs.Transactions.{frame_read, request_in}

-- a message that was spelled is the request of its octets
pub request_spelled : (frame : SmFrame) (octets : List ℕ) → octets ≡ spelling frame → sm_in (spelling frame) ≡ Ok frame
    → request_in octets ≡ frame
unfolding request_in
request_spelled frame octets same back = ap (λ (o : List ℕ). frame_read (sm_in o)) same ∙ ap frame_read back
