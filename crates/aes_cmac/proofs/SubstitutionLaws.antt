-- The substitution on all 256 octets.
use Rattle.std.proofs.Common.{◌≡◌, refl, sym, ap, ◌∙◌, ℕ, ◌-◌, ◌<◌, ◌≤◌, List, map, replicate, get_or, zero-add, arith}
use Rattle.std.specs.List.{range_with_len}
use Rattle.std.proofs.lemmas.List.{get_or-map, get_or-replicate}
use Rattle.std.proofs.lemmas.List.FromFn.{get_or-map-range_with_len, get_or-range_with_len}
use Rattle.aes_cmac.specs.declared.substitution.TheConstants.{SUBSTITUTION}
use Rattle.aes_cmac.specs.Field.{◌•◌, inverse}
use Rattle.aes_cmac.specs.Aes.{sub}
use Rattle.aes_cmac.specs.Substitution.{SubstitutionHasInverse, sub_back}
use Rattle.aes_cmac.proofs.AllOctets.{all_octets, substitution_at}

inverse_all : map (λ a. a • inverse a) (range_with_len 1 255) ≡ replicate 255 1
unfolding ◌•◌ inverse
inverse_all = refl

undone_all : map sub_back SUBSTITUTION ≡ all_octets
unfolding ◌•◌ inverse sub_back
undone_all = refl

inverse_at : (a : ℕ) → 1 ≤ a → a < 256 → a • inverse a ≡ 1
inverse_at a one h =
    sym (get_or-map-range_with_len (λ b. b • inverse b) 1 255 (a - 1) a 0 (omega arith) (omega arith))
    ∙ ap (λ (xs : List ℕ). get_or xs (a - 1) 0) inverse_all
    ∙ get_or-replicate 255 (a - 1) 1 0 (omega arith)

undone_at : (a : ℕ) → a < 256 → sub_back (sub a) ≡ a
undone_at a h =
    ap sub_back (sym (substitution_at a h))
    ∙ sym (get_or-map sub_back SUBSTITUTION a 0 0 h)
    ∙ ap (λ (xs : List ℕ). get_or xs a 0) undone_all
    ∙ get_or-range_with_len 0 256 a 0 h
    ∙ zero-add a

pub substitution_has_inverse : SubstitutionHasInverse
substitution_has_inverse = record { table = substitution_at; inverse = inverse_at; undone = undone_at }
