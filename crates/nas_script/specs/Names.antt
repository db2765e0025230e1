-- The names of data networks, as texts (TS 23.003 clause 9.1).
use Rattle.std.specs.Prelude.{ℕ, Bool, List, [], ◌∷◌, length, nat_lt, ◌==◌, ◌||◌, ◌&&◌, Option, None, if◌then◌else◌}
use Rattle.std.specs.Char.{is_ascii_alphanumeric}
use Rattle.std.specs.List.{list_all}
use Rattle.std.specs.Option.{option_and_then}
use Rattle.toml.specs.Data.{Data, as_str}
use Rattle.nas_elements.specs.Dnn.{dnn_in}
use Rattle.nas_elements.specs.Dnns.{dnns_from}
use Rattle.nas_script.specs.Addresses.{before_dot}
use Rattle.nas_script.specs.Document.{all_read, entries_at}

-- letters, digits, `-`, and the dots between labels
abbrev pub is_of_names : ℕ → Bool
is_of_names c = is_ascii_alphanumeric c || c == 45 || c == 46

-- a dot gives way to the length of the label behind it
abbrev pub labelled : List ℕ → List ℕ
labelled [] = []
labelled (c ∷ cs) = (if c == 46 then before_dot cs else c) ∷ labelled cs

-- each label behind its length, at most 100 octets in all
abbrev pub name_in : List ℕ → Option (List ℕ)
name_in text =
    if nat_lt (length text) 100 && list_all is_of_names text then dnn_in (before_dot text ∷ labelled text) else None

abbrev pub name_of : Data → Option (List ℕ)
name_of d = option_and_then name_in (as_str d)

-- 1 to 8 names
unfoldable pub names_at : List ℕ → Data → Option (List (List ℕ))
names_at key d = option_and_then dnns_from (option_and_then (all_read name_of) (entries_at key d))
