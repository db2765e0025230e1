-- What reading the body of a message of a kind answered.
use Rattle.std.specs.Prelude.{◌≡◌, true, Result, Ok, Err}
use Rattle.nas_base.specs.Reading.{Place}
use Rattle.nas_base.specs.declared.mm_kind.MmKind.{MmKind}
use Rattle.nas_layout.specs.Table.{keeps, laid}
use Rattle.nas_layout.specs.declared.body.BodyRefusal.{BodyRefusal}
use Rattle.nas_layout.specs.declared.body.BodyRefusal.TheVariants as body
use Rattle.mm_messages.specs.Messages.{tabled, told}
use Rattle.mm_messages.specs.declared.message.Mm.{Mm}
use Rattle.mm_messages.specs.declared.message.MmRefusal.TheVariants.{Mandatory}

abbrev pub LaysBody : Result Mm BodyRefusal → MmKind → Place → Type 0
LaysBody (Ok m) kind p = told (tabled kind).made (laid (tabled kind).table 1 p) ≡ Ok m
LaysBody (Err body.Memory) kind p = keeps (tabled kind).table 1 p ≡ true
LaysBody (Err (body.Mandatory n at)) kind p = told (tabled kind).made (laid (tabled kind).table 1 p) ≡ Err (Mandatory n at)
