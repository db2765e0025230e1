-- How long what is framed is.
use Rattle.std.proofs.Common.{◌≡◌, refl, ℕ, ◌^◌, ◌≤◌, ◌==◌, ◌||◌, List, [], ◌∷◌, ◌++◌, length, Bool, true, false, arith}
use Rattle.std.proofs.lemmas.Bool.Decides.{nat_tests}
use Rattle.nas_base.specs.declared.count.Dir.{Dir}
use Rattle.nas_security.proofs.FrameLemmas.{length-frame}
use Rattle.nas_security.specs.Contexts.{SecurityContext}
use Rattle.nas_security.specs.Counts.{next_count}
use Rattle.nas_security.specs.Frame.{frame}
use Rattle.nas_security.specs.declared.sends.Send.{Send}
use Rattle.mm_entity.specs.Framing.{is_too_long, is_unsent, next_frame}
use Rattle.mm_entity.specs.Lengths.{AreShort}

pub message_fits : (message : List ℕ) → is_too_long message ≡ false → length message ≤ 4096
message_fits message short = grind (arith, nat_tests, short)

frame_fits : (context : SecurityContext) (dir : Dir) (count header : ℕ) (message : List ℕ) → is_too_long message ≡ false
    → length (frame context dir count header message) ≤ 4096
frame_fits context dir count header message short = grind (arith, nat_tests, short, length-frame context dir count header message)

either_short : (long spent : Bool) → (long || spent) ≡ false → long ≡ false
either_short true spent e = e
either_short false spent e = refl

pub next_frame_fits : (context : SecurityContext) (dir : Dir) (header : ℕ) (message : List ℕ) → is_unsent message context dir ≡ false
    → length (next_frame context dir header message) ≤ 4096
next_frame_fits context dir header message sent =
    frame_fits context dir (next_count context dir) header message
    (either_short (is_too_long message) (next_count context dir == 2 ^ 24) sent)

-- one more at the end
pub one_more_short : (sends : List Send) (send : Send) → AreShort sends → length send.octets ≤ 4096 → AreShort (sends ++ send ∷ [])
one_more_short [] send begin short = (short, tt)
one_more_short (first ∷ sends) send begin short = (begin.0, one_more_short sends send begin.1 short)
