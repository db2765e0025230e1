-- What holds of a row that branches.
use Rattle.std.proofs.Common.{◌≡◌, refl, sym, ◌∙◌, Bool, true, false, Option, Some, None}
use Rattle.nas_base.specs.Branches.{chosen, per, when◌then◌else◌}

pub when_holds : {A : Type 0} (P : A → Type 0) (test : Bool) (one other : A)
    → (test ≡ true → P one) → (test ≡ false → P other) → P (when test then one else other)
unfolding chosen
when_holds P true one other is is_not = is refl
when_holds P false one other is is_not = is_not refl

pub per_holds : {A B : Type 0} (P : B → Type 0) (o : Option A) (without : B) (with : A → B)
    → (o ≡ None → P without) → ((x : A) → o ≡ Some x → P (with x)) → P (per o without with)
unfolding per
per_holds P None without with none some = none refl
per_holds P (Some x) without with none some = some x refl

pub when_true : {A : Type 0} (test : Bool) (one other : A) → test ≡ true → (when test then one else other) ≡ one
when_true test one other e =
    when_holds (λ (x : _). x ≡ one) test one other (λ _. refl) (λ f. let no_way : true ≡ false = sym e ∙ f in cc)

pub when_false : {A : Type 0} (test : Bool) (one other : A) → test ≡ false → (when test then one else other) ≡ other
when_false test one other e =
    when_holds (λ (x : _). x ≡ other) test one other (λ f. let no_way : true ≡ false = sym f ∙ e in cc) (λ _. refl)
