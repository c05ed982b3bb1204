mod AlikeLemmas
mod AttackLemmas
mod BirthLemmas
pub mod ChosenLemmas
mod EndLemmas
pub mod EngineRunLemmas
pub mod MigrationLemmas
mod PartLemmas
mod PartRunLemmas
pub mod RunLemmas
pub mod StartLemmas
mod StayLemmas
mod ZeroLemmas
