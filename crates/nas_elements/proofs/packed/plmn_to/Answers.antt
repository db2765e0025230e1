use Rattle.nas_elements.proofs.PackedLaws.{digits_fit}
use Rattle.nas_elements.proofs.packed.plmn_to.Goals as goal

pub two_halves-requires : goal.two_halves-requires
two_halves-requires c = digits_fit c.as_slice-mcc.result.now 0 1 c.as_slice-mcc.ensures.digits

pub two_halves-requires-3 : goal.two_halves-requires-3
two_halves-requires-3 c = digits_fit c.as_slice-mnc.result.now 0 1 c.as_slice-mnc.ensures.digits
