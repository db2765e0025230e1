-- What is written of a list of slices is read back.
use Rattle.std.proofs.Common.{◌≡◌, ◌≤◌, ℕ, zero, suc, true, List, [], ◌∷◌, ◌++◌, length, take, drop, ◌∙◌, nat_le, Some, ap, arith, refl}
use Rattle.std.proofs.lemmas.Bool.Decides.{nat_tests}
use Rattle.std.proofs.lemmas.Grind.{common_steps}
use Rattle.std.specs.List.{list_all}
use Rattle.nas_elements.specs.Nssai.{before, first_in, is_nssai, nssai_in, nssai_octets, slices_in}
use Rattle.nas_elements.specs.Slice.{is_slice, slice_in, slice_octets}
use Rattle.nas_elements.specs.declared.slice.Slice.{Slice}
use Rattle.nas_elements.proofs.NssaiFronts.{nssai-some}

slice_back : (slice : Slice) → is_slice slice ≡ true → slice_in (slice_octets slice) ≡ Some slice
slice_back slice whole = grind (arith, nat_tests, common_steps, whole)

slices_back : (most : ℕ) (slices : List Slice) → length slices ≤ most → list_all is_slice slices ≡ true → slices_in most (nssai_octets slices) ≡ Some slices
slices_back zero [] few whole = refl
slices_back (suc most) [] few whole = refl
slices_back zero (slice ∷ slices) few whole = absurd (omega arith)
slices_back (suc most) (slice ∷ slices) few whole =
    let octets : List ℕ = slice_octets slice in
    let more : List ℕ = nssai_octets slices in
    let fits : nat_le (length octets) (length (octets ++ more)) ≡ true = grind (arith, nat_tests, common_steps) in
    let front : take (length octets) (octets ++ more) ≡ octets = grind (arith, common_steps) in
    let back : drop (length octets) (octets ++ more) ≡ more = grind (arith, common_steps) in
    let taken : slice_in (take (length octets) (octets ++ more)) ≡ Some slice =
    ap (λ os. slice_in os) front ∙ slice_back slice (grind (arith, nat_tests, whole)) in
    let first : first_in (length octets ∷ octets ++ more) ≡ Some slice = rw fits taken in
    let rest : slices_in most (drop (length octets) (octets ++ more)) ≡ Some slices =
    ap (λ os. slices_in most os) back ∙ slices_back most slices (omega arith) (grind (arith, nat_tests, whole)) in
    ap (λ x. before x (slices_in most (drop (length octets) (octets ++ more)))) first ∙ ap (λ x. before (Some slice) x) rest

pub read_back : (slices : List Slice) → is_nssai slices ≡ true → nssai_in (nssai_octets slices) ≡ Some slices
read_back [] whole = cc
read_back (slice ∷ slices) whole =
    nssai-some (length (slice_octets slice)) (slice_octets slice ++ nssai_octets slices)
    ∙ slices_back 8 (slice ∷ slices) (grind (arith, nat_tests, whole)) (grind (arith, nat_tests, whole))
