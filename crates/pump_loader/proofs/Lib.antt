pub mod ApartLemmas
pub mod BareLemmas
