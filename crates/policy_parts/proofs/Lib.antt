pub mod MapLemmas
pub mod OnLemmas
pub mod PairLemmas
mod WithinLemmas
