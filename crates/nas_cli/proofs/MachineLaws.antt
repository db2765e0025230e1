-- What says an answer ends by its status.
use Rattle.std.proofs.Common.{ℕ, List, Option, inl, inr}
use Rattle.nas_cli.specs.Machine.{EndsBy}
use Rattle.nas_cli.specs.Program.{Answer, Says}

pub ends_by : (old new : Option (List ℕ)) (before now : ℕ) (answer : Answer) (status : ℕ) → Says old new before now answer status → EndsBy answer.status status
ends_by old new before now answer status (inl whole) = inl whole.answered
ends_by old new before now answer status (inr (inl cut)) = inr (inl cut.answered)
ends_by old new before now answer status (inr (inr starved)) = inr (inr starved.answered)
