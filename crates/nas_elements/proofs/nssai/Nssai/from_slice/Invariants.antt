use Rattle.std.proofs.Common.{◌≡◌, true, take}
use Rattle.std.specs.List.{list_all}
use Rattle.nas_elements.specs.Slice.{is_slice}
use Rattle.nas_elements.proofs.nssai.Nssai.from_slice.Given as goal

-- the slices so far
abbrev pub invariant-loop-slice : goal.invariant-loop-slice
invariant-loop-slice l = record {
  same : l.items.items ≡ take l.slice-index l.slices;
  whole : list_all is_slice l.items.items ≡ true;
}
