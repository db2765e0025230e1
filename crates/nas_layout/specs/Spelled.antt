-- The octets of a value, which it keeps or which were made of it.
use Rattle.std.specs.Prelude.{ℕ, List}
use Rattle.nas_layout.specs.declared.coded.Spelled.{Spelled}
use Rattle.nas_layout.specs.declared.coded.Spelled.TheVariants.{Kept, Made}

abbrev pub spelled : Spelled → List ℕ
spelled (Kept octets) = octets.now
spelled (Made octets) = octets.items
