pub mod TextLemmas
pub mod UsesLemmas
