-- 5GSM STATUS (TS 24.501 clause 8.3.16).
use Rattle.nas_layout.specs.Codings.{octet}
use Rattle.nas_layout.specs.Table.{Table, elements, message, part}
use Rattle.nas_layout.specs.declared.frame.Frame.TheVariants.{V}
use Rattle.sm_messages.specs.declared.status_message.FiveGsmStatus.{FiveGsmStatus}

-- 5GSM cause
unfoldable pub five_gsm_status : Table FiveGsmStatus
five_gsm_status = part (V 1) octet (λ m. m.cause) (λ cause. elements (message (record { cause = cause })))
