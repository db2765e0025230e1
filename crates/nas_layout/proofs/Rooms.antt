-- Where there is room for some octets there is room for fewer.
use Rattle.std.proofs.Common.{◌≡◌, ◌≤◌, ℕ, true, arith}
use Rattle.std.proofs.lemmas.Bool.Decides.{nat_tests}
use Rattle.nas_base.specs.declared.shape.Form.{Form}
use Rattle.nas_base.specs.declared.shape.Form.TheVariants.{Half, Fixed, Tlv, Tlve}
use Rattle.nas_layout.specs.Pieces.{is_room_in, is_room_under}
use Rattle.nas_layout.specs.declared.frame.Frame.{Frame}
use Rattle.nas_layout.specs.declared.frame.Frame.TheVariants.{V, Lv, Lve}

pub room_in_less : (frame : Frame) (size most : ℕ) → is_room_in frame most ≡ true → size ≤ most → is_room_in frame size ≡ true
room_in_less (V n) size most room less = grind (arith, nat_tests)
room_in_less Lv size most room less = grind (arith, nat_tests)
room_in_less Lve size most room less = grind (arith, nat_tests)

pub room_under_less : (iei : ℕ) (form : Form) (size most : ℕ) → is_room_under iei form most ≡ true → size ≤ most → is_room_under iei form size ≡ true
room_under_less iei Half size most room less = room
room_under_less iei (Fixed n) size most room less = grind (arith, nat_tests)
room_under_less iei Tlv size most room less = grind (arith, nat_tests)
room_under_less iei Tlve size most room less = grind (arith, nat_tests)
