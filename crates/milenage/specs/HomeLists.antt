-- How a list of a home network's subscribers grows.
use Rattle.std.specs.Prelude.{◌≡◌, ◌<◌, ◌≤◌, true, false, List, [], ◌∷◌, ◌++◌, length, Result, Ok, Err}
use Rattle.milenage.specs.Home.{HomeRecord, is_kept}
use Rattle.milenage.specs.declared.subscribers.HomeListRefusal.{HomeListRefusal}
use Rattle.milenage.specs.declared.subscribers.HomeListRefusal.TheVariants as refusals

-- a subscriber is added at the end, or refused: first where the list has its SUPI, then where it has 64, then where memory is wanting
abbrev pub Pushes : Result (Unit {0}) HomeListRefusal → HomeRecord → List HomeRecord → List HomeRecord → Type 0
Pushes (Ok done) r old new = (is_kept r.supi old ≡ false) × (length old < 64) × (new ≡ old ++ r ∷ [])
Pushes (Err refusals.Known) r old new = (is_kept r.supi old ≡ true) × (new ≡ old)
Pushes (Err refusals.Full) r old new = (is_kept r.supi old ≡ false) × (64 ≤ length old) × (new ≡ old)
Pushes (Err refusals.Memory) r old new = (is_kept r.supi old ≡ false) × (length old < 64) × (new ≡ old)
