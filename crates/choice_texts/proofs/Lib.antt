mod BarLemmas
mod PieceLemmas
pub mod TextLemmas
