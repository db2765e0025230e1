-- What a call answered, beside what a definition says of it, where memory may be wanting. Definitions know no memory: of a call that
-- wanted some they say nothing.
use Rattle.std.specs.Prelude.{◌≡◌, Bool, true, false, Result, Ok, Err}

-- a fact, but for want of memory
abbrev pub Unless : Bool → Type 0 → Type 0
Unless true fact = Unit {0}
Unless false fact = fact

-- A definition refuses as a call did. Which of a type's refusals is want of memory, `wants` says.
abbrev pub RefusesAs : {A E : Type 0} → (E → Bool) → E → Result A E → Type 0
RefusesAs wants refusal said = Unless (wants refusal) (said ≡ Err refusal)

-- a call answered as its definition says, or refused as it says; or memory was wanting
abbrev pub AsSaid : {A E : Type 0} → (E → Bool) → Result A E → Result A E → Type 0
AsSaid wants (Ok answer) said = said ≡ Ok answer
AsSaid wants (Err refusal) said = RefusesAs wants refusal said
