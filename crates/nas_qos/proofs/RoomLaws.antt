-- Room for one item more of those that are written one after the other.
use Rattle.std.proofs.Common.{◌≡◌, ◌<◌, ◌≤◌, ◌+◌, ℕ, suc, List, ◌∷◌, ◌++◌, length, drop, drop-cons, get_or, length-append, ◌∙◌, sym, ap, arith}
use Rattle.nas_qos.specs.Turns.{all_octets}

pub room_for : {A : Type 0} (spelled : A → List ℕ) (start out : List ℕ) (items : List A) (i room : ℕ) (item : A)
    → out ++ all_octets spelled (drop i items) ≡ start ++ all_octets spelled items
    → length start + length (all_octets spelled items) ≤ room
    → i < length items
    → item ≡ get_or items i item
    → length out + length (spelled item) ≤ room
room_for spelled start out items i room item told fits there is =
    let next : drop i items ≡ get_or items i item ∷ drop (suc i) items = drop-cons items i item there in
    let item_first : drop i items ≡ item ∷ drop (suc i) items = next ∙ ap (λ x. x ∷ drop (suc i) items) (sym is) in
    let whole : out ++ (spelled item ++ all_octets spelled (drop (suc i) items)) ≡ start ++ all_octets spelled items =
    ap (λ xs. out ++ all_octets spelled xs) (sym item_first) ∙ told in
    let sizes : length out + (length (spelled item) + length (all_octets spelled (drop (suc i) items))) ≡ length start + length (all_octets spelled items) =
    simp length-append at (ap length whole) in
    omega (arith, sizes, fits)
