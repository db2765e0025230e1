-- Names that are asked for one after the other.
use Rattle.std.proofs.Common.{◌≡◌, ◌∙◌, ℕ, suc, List, [], ◌∷◌, ◌++◌, Option, Some, None, take, Result, Ok, Err, refl, ap, append_assoc}
use Rattle.std.specs.Prelude.{IfErr, OnOk}
use Rattle.nas_cli.specs.Program.{AsksFirst, asks}

asks-asks : (old : Option (List (List ℕ))) (xs ys : List (List ℕ)) → asks ys (asks xs old) ≡ asks (xs ++ ys) old
asks-asks None xs ys = refl
asks-asks (Some ns) xs ys = ap Some (append_assoc ns xs ys)

-- the first of two was asked for, and then perhaps the second
pub asks_second : (old between new : Option (List (List ℕ))) (a b : List ℕ) → between ≡ asks (a ∷ []) old → AsksFirst between new (b ∷ []) →
    AsksFirst old new (a ∷ b ∷ [])
asks_second old between new a b first f = record {
  count = suc f.count;
  asked = f.asked ∙ ap (asks (take f.count (b ∷ []))) first ∙ asks-asks old (a ∷ []) (take f.count (b ∷ []));
}

-- the first of two was asked for, and then the second
pub asks_both : (old between new : Option (List (List ℕ))) (a b : List ℕ) → between ≡ asks (a ∷ []) old → new ≡ asks (b ∷ []) between →
    new ≡ asks (a ∷ b ∷ []) old
asks_both old between new a b first second = second ∙ ap (asks (b ∷ [])) first ∙ asks-asks old (a ∷ []) (b ∷ [])

-- what holds anyway holds of each answer
pub on_ok_always : {T E P : Type 0} (r : Result T E) → P → OnOk r P
on_ok_always (Ok x) p = p
on_ok_always (Err e) p = tt

pub if_err_always : {T E : Type 0} (Q : E → Type 0) (r : Result T E) → ((e : E) → Q e) → IfErr r Q
if_err_always Q (Ok x) q = tt
if_err_always Q (Err e) q = q e
