pub mod MappedLemmas
pub mod OrderLemmas
pub mod PairLemmas
pub mod PairedLemmas
pub mod SideLemmas
pub mod StateLemmas
pub mod TableLemmas
