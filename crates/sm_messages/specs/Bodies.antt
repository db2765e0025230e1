-- What reading the body of a message of a kind answered.
use Rattle.std.specs.Prelude.{◌≡◌, true, Result, Ok, Err}
use Rattle.nas_base.specs.Reading.{Place}
use Rattle.nas_base.specs.declared.sm_kind.SmKind.{SmKind}
use Rattle.nas_layout.specs.Table.{keeps}
use Rattle.nas_layout.specs.declared.body.BodyRefusal.{BodyRefusal}
use Rattle.nas_layout.specs.declared.body.BodyRefusal.TheVariants.{Mandatory, Memory}
use Rattle.sm_messages.specs.Messages.{body_in, tabled}
use Rattle.sm_messages.specs.declared.message.Sm.{Sm}

abbrev pub LaysBody : Result Sm BodyRefusal → SmKind → Place → Type 0
LaysBody (Ok m) kind p = body_in kind p ≡ Ok m
LaysBody (Err Memory) kind p = keeps (tabled kind).table 1 p ≡ true
LaysBody (Err (Mandatory n at)) kind p = body_in kind p ≡ Err (Mandatory n at)
