-- What is spelled by the table of a kind is read, with its head.
use Rattle.std.proofs.Common.{◌≡◌, ℕ, Bool, true, false, not, nat_lt, ◌==◌, ◌&&◌, List, ◌∷◌, ◌++◌, length, Option, Ok, if◌then◌else◌, arith, refl, ap, ◌∙◌}
use Rattle.std.proofs.lemmas.Bool.Decides.{nat_tests}
use Rattle.nas_base.proofs.KindLaws.{kinds_have_types}
use Rattle.nas_base.specs.Kinds.{sm_type}
use Rattle.nas_base.specs.declared.sm_kind.SmKind.{SmKind}
use Rattle.nas_layout.proofs.BackLaws.{table_laid}
use Rattle.nas_layout.specs.Pieces.{pieces_octets}
use Rattle.nas_layout.specs.ReadBack.{TableBack}
use Rattle.nas_layout.specs.Table.{pieces}
use Rattle.sm_messages.specs.Messages.{as_message, body_at, body_in, sm_in, tabled, told}
use Rattle.sm_messages.specs.Parts.{head}

past : {A : Type 0} (a b : Bool) (x y z : A) → a ≡ false → b ≡ false → (if a then x else (if b then y else z)) ≡ z
past a b x y z ha hb = rw (ha, hb) refl

is_head : (octets : List ℕ) → (nat_lt 0 (length octets) && not (0x2e == 0x2e)) ≡ false
is_head octets = go (nat_lt 0 (length octets)) where
  go : (b : Bool) → (b && false) ≡ false
  go true = refl
  go false = refl

pub body_of : (psi pti : ℕ) (kind : SmKind) (rest : List ℕ) →
    sm_in (0x2e ∷ psi ∷ pti ∷ sm_type kind ∷ rest) ≡ told psi pti (body_in kind (record { at = 4; left = rest }))
unfolding sm_in
body_of psi pti kind rest =
    past (nat_lt 0 (length (0x2e ∷ psi ∷ pti ∷ sm_type kind ∷ rest)) && not (0x2e == 0x2e)) (nat_lt (length (0x2e ∷ psi ∷ pti ∷ sm_type kind ∷ rest)) 4) _ _ _
    (is_head (0x2e ∷ psi ∷ pti ∷ sm_type kind ∷ rest)) (grind (arith, nat_tests))
    ∙ ap (λ (k : Option SmKind). body_at psi pti k (sm_type kind) (record { at = 4; left = rest })) (kinds_have_types.1.found kind)

pub back : (psi pti : ℕ) (kind : SmKind) (fields : (tabled kind).Fields) → TableBack (tabled kind).table fields
    → sm_in (head psi pti (sm_type kind) ++ pieces_octets (pieces (tabled kind).table fields)) ≡ Ok (record { psi = psi; pti = pti; body = (tabled kind).made fields })
back psi pti kind fields is =
    body_of psi pti kind (pieces_octets (pieces (tabled kind).table fields))
    ∙ ap (λ r. told psi pti (as_message (tabled kind).made r))
    (table_laid (tabled kind).table fields 1 (record { at = 4; left = pieces_octets (pieces (tabled kind).table fields) }) refl is)
