use Rattle.std.proofs.Common.{◌≡◌, ◌++◌, ℕ, List, [], ◌∷◌, length, slice_index, arith, refl}
use Rattle.nas_elements.specs.Packed.{packed, plmn_octets}
use Rattle.nas_elements.specs.Suci.{SuciParts, routing_octets, suci_octets}
use Rattle.nas_elements.proofs.PackedLaws.{few_digits}
use Rattle.nas_elements.proofs.suci.Suci.octets.Goals as goal

-- 8 octets, of which two are the routing indicator's, and those of the MSIN
laid : (s : SuciParts) (network routing front msin all : List ℕ) → length routing ≡ 2
    → network ≡ plmn_octets s.plmn → routing ≡ routing_octets s.routing → msin ≡ packed s.msin
    → front ≡ 0x01 ∷ slice_index network 0 ∷ slice_index network 1 ∷ slice_index network 2 ∷ slice_index routing 0 ∷ slice_index routing 1 ∷ 0x00 ∷ 0x00 ∷ []
    → all ≡ front ++ msin → all ≡ suci_octets s
laid s network [] front msin all two n r m f a = absurd (omega arith)
laid s network (d ∷ []) front msin all two n r m f a = absurd (omega arith)
laid s network (d ∷ e ∷ []) front msin all two n r m f a = rw (a, f, n, m, ← r) refl
laid s network (d ∷ e ∷ x ∷ rest) front msin all two n r m f a = absurd (omega arith)

pub returns : goal.returns
returns c =
    let front = rw (c.unwrap.ensures, c.new-octets.ensures) at c.try_extend_from_slice.ensures.ok in
    let all = rw (c.unwrap-2.ensures, c.as_slice.ensures.value) at c.try_extend_from_slice-2.ensures.ok in
    let self : SuciParts = record { plmn = c.self.inside.plmn; routing = c.self.inside.routing; msin = c.self.inside.msin } in
    rw (← c.self.view_is) (laid self c.plmn_to.result c.routing_to.result _ _ _ (omega arith) c.plmn_to.ensures c.routing_to.ensures c.pack.ensures front all)

pub routing_to-requires : goal.routing_to-requires
routing_to-requires c = (few_digits c.self.inside.routing c.self.inside.msin c.self.invariant).0

pub pack-requires : goal.pack-requires
pack-requires c = (few_digits c.self.inside.routing c.self.inside.msin c.self.invariant).1
