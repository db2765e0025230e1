-- How a configuration is read: step by step, up to the first key that is wrong.
use Rattle.std.specs.Prelude.{◌≡◌, Option, Some, None, Result, Ok, Err}
use Rattle.nas_script.specs.declared.key.Key.{Key}
use Rattle.nas_script.specs.declared.config.ConfigRefusal.{ConfigRefusal}
use Rattle.nas_script.specs.declared.config.ConfigRefusal.TheVariants.{ConfigWrong, Memory}

infixl 10 ◌>>=◌
abbrev pub ◌>>=◌ : {A B : Type 0} → Result A Key → (A → Result B Key) → Result B Key
(Ok x) >>= f = f x
(Err key) >>= f = Err key

-- what has no value is named
abbrev pub named : {A : Type 0} → Key → Option A → Result A Key
named key None = Err key
named key (Some x) = Ok x

-- what a reader answered, seen by view
abbrev pub Reads : {X A : Type 0} → (X → A) → Result X ConfigRefusal → Result A Key → Type 0
Reads view (Ok x) read = read ≡ Ok (view x)
Reads view (Err (ConfigWrong key)) read = read ≡ Err key
Reads view (Err Memory) read = Unit {0}
