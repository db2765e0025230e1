pub mod AskLaws
pub mod DiskLaws
pub mod MachineLaws
pub mod OutputLaws
pub mod PlanLaws
pub mod SayLaws
pub mod VectorInputs
