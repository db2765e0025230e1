use Rattle.std.proofs.Common.{◌≡◌, ◌+◌, ◌*◌, ◌≤◌, ℕ, true, List, [], ◌∷◌, ◌++◌, length, slice_index, drop, append_assoc, length-append, length-drop, arith, ◌∙◌}
use Rattle.std.proofs.lemmas.List.{take_rest}
use Rattle.nas_base.specs.Digits.{all_digits}
use Rattle.nas_elements.specs.Packed.{packed, two_halves}
use Rattle.nas_elements.proofs.PackedLaws.{half_fits, halves_fit}
use Rattle.nas_elements.proofs.packed.pack.Goals as goal

-- two digits more are packed
next : (digits octets more left : List ℕ) → 2 ≤ length left → more ≡ octets ++ two_halves (slice_index left 0) (slice_index left 1) ∷ []
    → octets ++ packed left ≡ packed digits → more ++ packed (drop 2 left) ≡ packed digits
next digits octets more [] some e told = absurd (omega arith)
next digits octets more (a ∷ []) some e told = absurd (omega arith)
next digits octets more (a ∷ b ∷ left) some e told = rw e (append_assoc octets (two_halves a b ∷ []) (packed left) ∙ told)

still_digits : (left : List ℕ) → all_digits left ≡ true → all_digits (drop 2 left) ≡ true
still_digits [] h = h
still_digits (a ∷ []) h = grind (arith, h)
still_digits (a ∷ b ∷ left) h = grind (arith, h)

counted : (digits octets more left : List ℕ) (octet : ℕ) → 2 ≤ length left → more ≡ octets ++ octet ∷ [] → 2 * length octets + length left ≡ length digits
    → 2 * length more + length (drop 2 left) ≡ length digits
counted digits octets more left octet some e count = rw e (omega (arith, length-append octets (octet ∷ []), length-drop 2 left))

pub loop-left-preserved : goal.loop-left-preserved
loop-left-preserved c =
    let octets = rw c.two_halves.ensures at c.push.ensures.items in
    rw (take_rest c.loop-left.left.now 2) (record {
      count = counted c.args.digits.now c.loop-left.octets.items _ c.loop-left.left.now _ c.in-len2-up.len_at_least octets c.loop-left.invariant.count;
      digits = still_digits c.loop-left.left.now c.loop-left.invariant.digits;
      told = next c.args.digits.now c.loop-left.octets.items _ c.loop-left.left.now c.in-len2-up.len_at_least octets c.loop-left.invariant.told;
    })

pub two_halves-requires : goal.two_halves-requires
two_halves-requires c = halves_fit c.loop-left.left.now 0 1 c.loop-left.invariant.digits

pub two_halves-requires-in-len1 : goal.two_halves-requires-in-len1
two_halves-requires-in-len1 c = half_fits c.loop-left.left.now 0 15 c.loop-left.invariant.digits (omega arith)
