pub mod NumberLemmas
mod RowLemmas
pub mod StreamLemmas
pub mod WordLemmas
