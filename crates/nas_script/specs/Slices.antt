-- Slices in hex digits (TS 24.501 clause 9.11.2.8).
use Rattle.std.specs.Prelude.{ℕ, List, length, nat_lt, ◌==◌, ◌||◌, Option, None, if◌then◌else◌}
use Rattle.std.specs.Option.{option_and_then}
use Rattle.std.specs.Result.{result_ok}
use Rattle.hex.specs.Hex.{decode_of}
use Rattle.toml.specs.Data.{Data, as_str}
use Rattle.nas_elements.specs.Nssai.{nssai_from}
use Rattle.nas_elements.specs.Slice.{slice_in}
use Rattle.nas_elements.specs.declared.slice.Slice.{Slice}
use Rattle.nas_script.specs.Document.{all_read, entries_at}

-- 2 digits of SST, or 8 of SST and SD
abbrev pub hex_slice_in : List ℕ → Option Slice
hex_slice_in text =
    if length text == 2 || length text == 8 then option_and_then slice_in (result_ok (decode_of text)) else None

abbrev pub slice_of : Data → Option Slice
slice_of d = option_and_then hex_slice_in (as_str d)

-- 1 to 8 slices
abbrev pub nssai_of : List Data → Option (List Slice)
nssai_of ds = if nat_lt 8 (length ds) then None else option_and_then nssai_from (all_read slice_of ds)

unfoldable pub slices_at : List ℕ → Data → Option (List Slice)
slices_at key d = option_and_then nssai_of (entries_at key d)
