pub mod PrefixLemmas
pub mod HeldLemmas
pub mod PieceLemmas
pub mod ReadingLemmas
pub mod SavedLemmas
pub mod SupplyLemmas
pub mod ToldLemmas
