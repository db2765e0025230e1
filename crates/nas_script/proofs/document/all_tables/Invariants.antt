use Rattle.std.proofs.Common.{◌≡◌, map, drop}
use Rattle.std.specs.List.{list_all}
use Rattle.toml.specs.View.{view}
use Rattle.nas_script.specs.Document.{is_table}
use Rattle.nas_script.proofs.document.all_tables.Given as goal

-- all are tables exactly where those that are left are
abbrev pub invariant-loop-value : goal.invariant-loop-value
invariant-loop-value l = list_all is_table (map view (drop l.value-index l.values)) ≡ list_all is_table (map view l.values)
