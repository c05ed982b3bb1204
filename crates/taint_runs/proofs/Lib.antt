pub mod PartLemmas
pub mod TurnLemmas
