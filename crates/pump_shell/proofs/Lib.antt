mod StartLemmas
pub mod ToldLemmas
