-- What may stand behind a message and changes nothing: further elements of identifiers that stand there already, or that its table
-- doesn't know (TS 24.007 clause 11.2.4, TS 24.501 clauses 7.6.1 and 7.6.3).
use Rattle.std.specs.Prelude.{◌≡◌, ℕ, ◌%◌, List, ◌∷◌}
use Rattle.nas_base.specs.Kinds.{mm_type}
use Rattle.nas_base.specs.Walking.{RowParts}
use Rattle.nas_base.specs.declared.mm_kind.MmKind.{MmKind}
use Rattle.nas_layout.specs.FirstElements.{PartsThen}
use Rattle.mm_messages.specs.Messages.{tabled}

-- octets are a message's head and parts, and then such a tail
pub record EndsInElements (octets : List ℕ) (shape : List RowParts) (tail : List ℕ) : Type 0 where
  pub second : ℕ
  pub kind : MmKind
  pub rest : List ℕ
  pub whole : octets ≡ 0x7e ∷ second ∷ mm_type kind ∷ rest
  pub plain : second % 16 ≡ 0
  pub parts : PartsThen (tabled kind).table shape tail rest
