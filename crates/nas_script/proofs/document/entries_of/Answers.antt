use Rattle.std.proofs.Common.{◌∙◌, ap, Some, List, map}
use Rattle.toml.specs.View.{view}
use Rattle.toml.specs.declared.value.Value.{Value}
use Rattle.nas_script.proofs.DocumentLaws.{entries_found}
use Rattle.nas_script.proofs.document.entries_of.Goals as goal

pub returns-in_ok-as_array-in-Some : goal.returns-in_ok-as_array-in-Some
returns-in_ok-as_array-in-Some c =
    ap (λ (vs : List Value). Some (map view vs)) c.as_slice.ensures.value
    ∙ entries_found c.args.key.now _ _ _ c.in-Some.ensures c.in_ok-as_array-in-Some.ensures
