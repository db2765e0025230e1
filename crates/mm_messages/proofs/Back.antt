-- What is spelled by the table of a kind is read, with its head.
use Rattle.std.proofs.Common.{◌≡◌, ℕ, ◌%◌, Bool, true, false, not, nat_lt, ◌==◌, ◌&&◌, List, ◌∷◌, ◌++◌, length, Option, Ok, if◌then◌else◌, arith, refl, ap, ◌∙◌}
use Rattle.std.proofs.lemmas.Bool.Decides.{nat_tests}
use Rattle.nas_base.proofs.KindLaws.{kinds_have_types}
use Rattle.nas_base.specs.Kinds.{mm_type}
use Rattle.nas_base.specs.declared.mm_kind.MmKind.{MmKind}
use Rattle.nas_layout.proofs.BackLaws.{table_laid}
use Rattle.nas_layout.specs.Pieces.{pieces_octets}
use Rattle.nas_layout.specs.ReadBack.{TableBack}
use Rattle.nas_layout.specs.Table.{laid, pieces}
use Rattle.mm_messages.specs.Messages.{body_at, mm_in, tabled, told}
use Rattle.mm_messages.specs.Parts.{head}

past : {A : Type 0} (a b c : Bool) (x y z w : A) → a ≡ false → b ≡ false → c ≡ false → (if a then x else (if b then y else (if c then z else w))) ≡ w
past a b c x y z w ha hb hc = rw (ha, hb, hc) refl

is_head : (octets : List ℕ) → (nat_lt 0 (length octets) && not (0x7e == 0x7e)) ≡ false
is_head octets = go (nat_lt 0 (length octets)) where
  go : (b : Bool) → (b && false) ≡ false
  go true = refl
  go false = refl

is_plain : (octets : List ℕ) (second : ℕ) → second % 16 ≡ 0 → (nat_lt 1 (length octets) && not (second % 16 == 0)) ≡ false
is_plain octets second plain = go (nat_lt 1 (length octets)) where
  go : (b : Bool) → (b && not (second % 16 == 0)) ≡ false
  go true = rw plain refl
  go false = refl

pub body_of : (kind : MmKind) (second : ℕ) (rest : List ℕ) → second % 16 ≡ 0
    → mm_in (0x7e ∷ second ∷ mm_type kind ∷ rest) ≡ told (tabled kind).made (laid (tabled kind).table 1 (record { at = 3; left = rest }))
unfolding mm_in
body_of kind second rest plain =
    past (nat_lt 0 (length (0x7e ∷ second ∷ mm_type kind ∷ rest)) && not (0x7e == 0x7e)) (nat_lt 1 (length (0x7e ∷ second ∷ mm_type kind ∷ rest)) && not (second % 16 == 0))
    (nat_lt (length (0x7e ∷ second ∷ mm_type kind ∷ rest)) 3) _ _ _ _
    (is_head (0x7e ∷ second ∷ mm_type kind ∷ rest)) (is_plain (0x7e ∷ second ∷ mm_type kind ∷ rest) second plain) (grind (arith, nat_tests))
    ∙ ap (λ (k : Option MmKind). body_at k (mm_type kind) (record { at = 3; left = rest })) (kinds_have_types.0.found kind)

pub back : (kind : MmKind) (fields : (tabled kind).Fields) → TableBack (tabled kind).table fields
    → mm_in (head (mm_type kind) ++ pieces_octets (pieces (tabled kind).table fields)) ≡ Ok ((tabled kind).made fields)
back kind fields is =
    body_of kind 0 (pieces_octets (pieces (tabled kind).table fields)) refl
    ∙ ap (told (tabled kind).made) (table_laid (tabled kind).table fields 1 (record { at = 3; left = pieces_octets (pieces (tabled kind).table fields) }) refl is)
