-- Who is kept, and how many 5G-GUTIs for each (TS 24.501 clauses 5.4.4 and 5.5.1.2.4).
use Rattle.std.specs.Prelude.{◌≡◌, ◌≤◌, ℕ, List, [], ◌∷◌, length, Result, Ok, Err}
use Rattle.nas_elements.specs.declared.guti.Guti.{Guti}
use Rattle.amf_core.specs.State.{AmfState}
use Rattle.amf_core.specs.Step.{Stepped}
use Rattle.amf_core.specs.declared.inputs.AmfRefusal.{AmfRefusal}
use Rattle.amf_core.specs.declared.subscriber.Record.{Record}
use Rattle.amf_laws.specs.Passing.{IsAmong}

-- two at most
abbrev pub AreFew : List Guti → Type 0
AreFew kept = length kept ≤ 2

-- for each subscriber
abbrev pub KeepFew : List Record → Type 0
KeepFew subscribers = (s : Record) → IsAmong s subscribers → AreFew s.kept

-- behind a step where it was so before it
abbrev pub StayFew : AmfState → Result Stepped AmfRefusal → Type 0
StayFew a (Ok new) = KeepFew a.subscribers → KeepFew new.amf.subscribers
StayFew a (Err refusal) = Unit {0}

-- the SUPIs that are kept, in the order of the configuration
abbrev pub supis : List Record → List (List ℕ)
supis [] = []
supis (s ∷ subscribers) = s.supi ∷ supis subscribers

-- behind a step they are those before it
abbrev pub SupisStay : AmfState → Result Stepped AmfRefusal → Type 0
SupisStay a (Ok new) = supis new.amf.subscribers ≡ supis a.subscribers
SupisStay a (Err refusal) = Unit {0}
