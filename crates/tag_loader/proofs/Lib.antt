pub mod MemoryLemmas
pub mod SortedLemmas
pub mod StartLemmas
