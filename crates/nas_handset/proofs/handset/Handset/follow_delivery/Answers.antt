use Rattle.nas_handset.proofs.Long.{too_many}
use Rattle.nas_handset.proofs.handset.Handset.follow_delivery.Goals as goal

pub returns-in-Err-TooMany : goal.returns-in-Err-TooMany
returns-in-Err-TooMany c =
    rw c.in_ok-copy-in-Err-TooMany.ensures
    (too_many c.args.octets.now c.args.self.now c.in-Err-TooMany.field-0 c.in-Err-TooMany.field-0-0 c.nothing.result
    c.in-Err-TooMany.ensures c.in-Err-TooMany.field-0-is c.nothing.ensures)
