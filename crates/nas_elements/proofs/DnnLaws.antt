-- Where octets stop being the front of a DNN's.
use Rattle.std.proofs.Common.{◌≡◌, ◌<◌, ◌≤◌, ◌+◌, ◌-◌, ℕ, zero, suc, true, false, List, [], ◌∷◌, ◌++◌, length, take, drop, get_or, drop-cons, length-drop, min, Some, is_some, arith, refl}
use Rattle.std.proofs.Math.ListN.{replicate}
use Rattle.std.proofs.lemmas.Bool.Decides.{nat_tests}
use Rattle.std.proofs.lemmas.Grind.{common_steps}
use Rattle.std.proofs.lemmas.List.{length-replicate}
use Rattle.nas_elements.specs.Dnn.{dnn_fault, dnn_in, fits_label, is_dnn, is_labels, labels_front}
use Rattle.nas_elements.specs.Reads.{IsWrongAt, StartsAValue}
use Rattle.nas_elements.proofs.GrammarFronts.{counts_on, wrong_front}
use Rattle.nas_elements.proofs.Sized.{starts_whole}

pub labels_front-take : (n room owed : ℕ) (os : List ℕ) → labels_front room owed (take n os) ≡ min n (labels_front room owed os)
labels_front-take zero room owed os = omega arith
labels_front-take (suc n) room owed [] = omega arith
labels_front-take (suc n) room zero (size ∷ os) =
    counts_on (fits_label room size) n (labels_front (room - 1) size (take n os)) (labels_front (room - 1) size os) (labels_front-take n (room - 1) size os)
labels_front-take (suc n) room (suc owed) (o ∷ os) = omega (arith, labels_front-take n (room - 1) owed os)

-- what is owed is there
pub owed_is_there : (owed : ℕ) (os : List ℕ) → is_labels owed os ≡ true → owed ≤ length os
owed_is_there owed [] h = grind (arith, nat_tests)
owed_is_there zero (size ∷ os) h = omega arith
owed_is_there (suc owed) (o ∷ os) h = omega (arith, owed_is_there owed os h)

pub labels_front-all : (room owed : ℕ) (os : List ℕ) → is_labels owed os ≡ true → length os ≤ room → labels_front room owed os ≡ length os
labels_front-all room owed [] h fits = refl
labels_front-all room zero (size ∷ os) h fits =
    grind (arith, nat_tests, owed_is_there size os, labels_front-all (room - 1) size os)
labels_front-all room (suc owed) (o ∷ os) h fits = omega (arith, labels_front-all (room - 1) owed os h (omega arith))

-- a label is to start at that place, and none does: there the octets stop being the front of a DNN's
pub no_label : (at owed : ℕ) (octets : List ℕ) → at < length octets → at ≤ 100 → owed ≡ 0 → fits_label (100 - at) (get_or octets at 0) ≡ false
    → is_labels owed (drop at octets) ≡ is_labels 0 octets → at + labels_front (100 - at) owed (drop at octets) ≡ labels_front 100 0 octets
    → dnn_fault octets ≡ Some at
no_label at owed octets here room done unfit labels front =
    let size : ℕ = get_or octets at 0 in
    let rest : List ℕ = drop (suc at) octets in
    let cut : drop at octets ≡ size ∷ rest = drop-cons octets at 0 here in
    let stand : is_labels owed (drop at octets) ≡ is_labels 0 (size ∷ rest) = rw (done, cut) refl in
    let count : labels_front (100 - at) owed (drop at octets) ≡ labels_front (100 - at) 0 (size ∷ rest) = rw (done, cut) refl in
    let sizes : length rest + suc at ≡ length octets = omega (arith, length-drop {A = ℕ} (suc at) octets) in
    let none : is_dnn octets ≡ false = grind (arith, nat_tests, labels, stand, sizes, owed_is_there size rest) in
    let place : labels_front 100 0 octets ≡ at = grind (arith, front, count, unfit) in
    grind (arith, none, place)

-- the octets that complete a label, all zero
abbrev pub completing : ℕ → List ℕ → List ℕ
completing owed [] = replicate owed 0
completing zero (size ∷ os) = completing size os
completing (suc owed) (o ∷ os) = completing owed os

owed-labels : (owed : ℕ) → is_labels owed (replicate owed 0) ≡ true
owed-labels zero = refl
owed-labels (suc owed) = owed-labels owed

completing-labels : (room owed : ℕ) (os : List ℕ) → labels_front room owed os ≡ length os → is_labels owed (os ++ completing owed os) ≡ true
completing-labels room owed [] h = owed-labels owed
completing-labels room zero (size ∷ os) h = grind (arith, nat_tests, completing-labels (room - 1) size os)
completing-labels room (suc owed) (o ∷ os) h = completing-labels (room - 1) owed os (omega arith)

completing-fits : (room owed : ℕ) (os : List ℕ) → owed ≤ room → labels_front room owed os ≡ length os → length (os ++ completing owed os) ≤ room
completing-fits room owed [] le h = omega (arith, length-replicate {A = ℕ} owed 0)
completing-fits room zero (size ∷ os) le h = grind (arith, nat_tests, completing-fits (room - 1) size os)
completing-fits room (suc owed) (o ∷ os) le h = omega (arith, completing-fits (room - 1) owed os (omega arith) (omega arith))

dnn-front : (os : List ℕ) → is_some (dnn_in os) ≡ true → labels_front 100 0 os ≡ length os
dnn-front os some = grind (arith, nat_tests, labels_front-all 100 0 os)

dnn-starts : (os : List ℕ) → labels_front 100 0 os ≡ length os → StartsAValue dnn_in os
dnn-starts [] h = starts_whole dnn_in [] (1 ∷ 0 ∷ []) refl
dnn-starts (size ∷ os) h =
    starts_whole dnn_in (size ∷ os) (completing 0 (size ∷ os))
    (grind (arith, nat_tests, common_steps, completing-labels 100 0 (size ∷ os), completing-fits 100 0 (size ∷ os)))

pub wrong_dnn : (octets : List ℕ) → IsWrongAt dnn_in octets (labels_front 100 0 octets)
wrong_dnn = wrong_front dnn_in (labels_front 100 0) (λ n os. labels_front-take n 100 0 os) dnn-front dnn-starts
