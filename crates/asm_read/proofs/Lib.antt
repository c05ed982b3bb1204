pub mod LineLemmas
pub mod SourceLemmas
