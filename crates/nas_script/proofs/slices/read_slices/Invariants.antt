use Rattle.std.proofs.Common.{◌≡◌, ◌++◌, List, length, map, drop, option_map}
use Rattle.toml.specs.View.{view}
use Rattle.nas_elements.specs.declared.slice.Slice.{Slice}
use Rattle.nas_script.specs.Document.{all_read}
use Rattle.nas_script.specs.Slices.{slice_of}
use Rattle.nas_script.proofs.slices.read_slices.Given as goal

-- the slices so far and those of the entries that are left are those of all
abbrev pub invariant-loop-entry : goal.invariant-loop-entry
invariant-loop-entry l = record {
  count : length l.items.items ≡ l.entry-index;
  told : option_map (λ (xs : List Slice). l.items.items ++ xs) (all_read slice_of (map view (drop l.entry-index l.entries))) ≡ all_read slice_of (map view l.entries);
}
