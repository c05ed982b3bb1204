pub mod MapLemmas
pub mod PopLemmas
pub mod TagLemmas
