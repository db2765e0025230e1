use Rattle.std.proofs.Common.{◌≡◌, ◌++◌, List, ℕ, map, drop, option_map}
use Rattle.toml.specs.View.{view}
use Rattle.nas_script.specs.Document.{all_read}
use Rattle.nas_script.specs.Names.{name_of}
use Rattle.nas_script.proofs.names.read_names.Given as goal

-- the names so far and those of the entries that are left are those of all
abbrev pub invariant-loop-entry : goal.invariant-loop-entry
invariant-loop-entry l =
    option_map (λ (xs : List (List ℕ)). l.items.items ++ xs) (all_read name_of (map view (drop l.entry-index l.entries)))
    ≡ all_read name_of (map view l.entries)
