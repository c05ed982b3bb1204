mod BookLemmas
mod InvariantLemmas
mod RuleLemmas
mod ServiceLemmas
pub mod StartLemmas
mod StepLemmas
pub mod TurnLemmas
