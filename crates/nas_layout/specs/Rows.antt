-- The rows of a message's elements (TS 24.007 clause 11.2.1.1).
use Rattle.std.specs.Prelude.{ℕ, max}
use Rattle.nas_base.specs.Walking.{RowParts}
use Rattle.nas_base.specs.declared.shape.Form.TheVariants.{Fixed, Tlv, Tlve}

-- an identifier with a value of fixed length: so many octets together, at least the identifier
abbrev pub fixed_row : ℕ → ℕ → RowParts
fixed_row iei octets = record { iei = iei; form = Fixed (max octets 1) }

abbrev pub tlv_row : ℕ → RowParts
tlv_row iei = record { iei = iei; form = Tlv }

abbrev pub tlve_row : ℕ → RowParts
tlve_row iei = record { iei = iei; form = Tlve }
