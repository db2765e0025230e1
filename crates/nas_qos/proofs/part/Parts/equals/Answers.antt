use Rattle.std.proofs.Common.{◌≡◌, true, ap}
use Rattle.nas_qos.proofs.PartsBack.{same_parts}
use Rattle.nas_qos.specs.Parts.{is_parts, parts_octets}
use Rattle.nas_qos.proofs.part.Parts.equals.Goals as goal

pub returns : goal.returns
returns c =
    let told = rw (c.as_slice.ensures.value, c.as_slice-2.ensures.value, c.parts_octets.ensures, c.parts_octets-2.ensures) at c.same_octets.ensures in
    let whole : is_parts c.args.self.now ≡ true = rw (← c.self.view_is) c.self.invariant in
    let right : is_parts c.args.other.now ≡ true = rw (← c.other.view_is) c.other.invariant in
    (λ same. same_parts c.args.self.now c.args.other.now whole right (told.0 same), λ equal. told.1 (ap parts_octets equal))
