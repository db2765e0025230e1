-- 5GMM STATUS (TS 24.501 clause 8.2.29).
use Rattle.mm_messages.specs.declared.status_message.FiveGmmStatus.{FiveGmmStatus}
use Rattle.nas_layout.specs.Codings.{octet}
use Rattle.nas_layout.specs.Table.{Table, elements, message, part}
use Rattle.nas_layout.specs.declared.frame.Frame.TheVariants.{V}

-- 5GMM cause
unfoldable pub five_gmm_status : Table FiveGmmStatus
five_gmm_status = part (V 1) octet (λ m. m.cause) (λ cause. elements (message (record { cause = cause })))
