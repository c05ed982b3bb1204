pub mod BackLemmas
pub mod GainLemmas
pub mod ListingLemmas
pub mod RunLemmas
pub mod SessionLemmas
