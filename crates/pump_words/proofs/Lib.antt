pub mod NumberLemmas
pub mod PartLemmas
pub mod TextLemmas
