pub mod EdgeLemmas
pub mod TextLemmas
pub mod UsesLemmas
