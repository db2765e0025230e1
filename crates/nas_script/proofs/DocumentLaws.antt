-- The document of a text, and the entries of an array.
use Rattle.std.proofs.Common.{◌≡◌, ℕ, Bool, true, false, List, [], ◌∷◌, Some, None, map, refl, ap}
use Rattle.std.specs.Prelude.{IsUtf8}
use Rattle.std.specs.Str.{is_utf8}
use Rattle.std.proofs.lemmas.Str.{IsUtf8-from_is_utf8, is_utf8-from_IsUtf8}
use Rattle.toml.specs.Data.{Data, Members, as_array, get, table}
use Rattle.toml.specs.Parse.{parse_document}
use Rattle.toml.specs.View.{view, items_of, items_view}
use Rattle.toml.specs.declared.value.Value.{Value}
use Rattle.nas_script.specs.Document.{document_in, entries_at, list_of}

-- no text in UTF-8 has no document
pub no_text : (octets : List ℕ) → (IsUtf8 octets → ⊥) → document_in octets ≡ None
unfolding document_in
no_text octets bad = go (is_utf8 octets) refl where
  go : (b : Bool) → is_utf8 octets ≡ b → document_in octets ≡ None
  go true e = absurd (bad (IsUtf8-from_is_utf8 octets e))
  go false e = rw e refl

pub no_document : (octets : List ℕ) → IsUtf8 octets → parse_document octets ≡ None → document_in octets ≡ None
unfolding document_in
no_document octets text read = rw (is_utf8-from_IsUtf8 octets text, read) refl

pub one_document : (octets : List ℕ) (ms : Members) → IsUtf8 octets → parse_document octets ≡ Some ms → document_in octets ≡ Some (table ms)
unfolding document_in
one_document octets ms text read = rw (is_utf8-from_IsUtf8 octets text, read) refl

list_of-items_of : (ds : List Data) → list_of (items_of ds) ≡ ds
list_of-items_of [] = refl
list_of-items_of (d ∷ ds) = ap (λ (rest : List Data). d ∷ rest) (list_of-items_of ds)

pub list_of-items_view : (vs : List Value) → list_of (items_view vs) ≡ map view vs
list_of-items_view vs = list_of-items_of (map view vs)

-- the entries of an array that stands under a key
pub entries_found : (key : List ℕ) (document found : Data) (vs : List Value) → Some found ≡ get key document → Some (items_view vs) ≡ as_array found →
    Some (map view vs) ≡ entries_at key document
entries_found key document found vs at array = rw (← at) (rw (← array) (rw list_of-items_view refl))
