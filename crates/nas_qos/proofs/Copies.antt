-- Loops that copy the items of a list one after the other.
use Rattle.std.proofs.Common.{◌≡◌, ◌<◌, ◌+◌, ℕ, List, [], ◌∷◌, ◌++◌, length, take, get_or, append_assoc, sym, ◌∙◌, ap}
use Rattle.std.proofs.lemmas.List.{take_more}

-- one item more, behind those that the list began with
pub one_copied : {A : Type 0} (start items before after : List A) (i : ℕ) (item copy : A)
    → i < length items
    → item ≡ get_or items i item
    → before ≡ start ++ take i items
    → copy ≡ item
    → after ≡ before ++ copy ∷ []
    → after ≡ start ++ take (i + 1) items
one_copied start items before after i item copy there is told same pushed =
    pushed
    ∙ ap (λ xs. xs ++ copy ∷ []) told
    ∙ append_assoc start (take i items) (copy ∷ [])
    ∙ ap (λ x. start ++ (take i items ++ x ∷ [])) (same ∙ is)
    ∙ ap (λ xs. start ++ xs) (sym (take_more items i item there))
