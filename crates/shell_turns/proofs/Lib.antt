pub mod EventLemmas
pub mod PastLemmas
pub mod PutLemmas
pub mod RunLemmas
pub mod TurnLemmas
