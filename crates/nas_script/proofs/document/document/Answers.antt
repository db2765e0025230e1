use Rattle.std.proofs.Common.{◌∙◌, ap, refl, Ok, sym}
use Rattle.toml.specs.Parse.{parse_document}
use Rattle.toml.specs.Data.{Data}
use Rattle.toml.proofs.Views.{view-Table}
use Rattle.nas_script.specs.Reads.{named}
use Rattle.nas_script.specs.declared.key.Key.TheVariants.{Toml}
use Rattle.nas_script.proofs.DocumentLaws.{no_text, one_document}
use Rattle.nas_script.proofs.document.document.Goals as goal

pub returns-in_default : goal.returns-in_default
returns-in_default c = rw (no_text c.args.octets.now c.in_default.ensures.cases.0) refl

pub returns-in-Ok-table_from_str : goal.returns-in-Ok-table_from_str
returns-in-Ok-table_from_str c =
    let text = c.in-Ok.ensures.cases in
    let read = ap parse_document (sym text.0) ∙ c.in-Ok-table_from_str.ensures.ok in
    ap (named Toml) (one_document c.args.octets.now _ text.1 read) ∙ ap (λ (d : Data). Ok d) (sym (view-Table c.in-Ok-table_from_str.table))
