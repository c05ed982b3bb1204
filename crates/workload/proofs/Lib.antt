pub mod LengthLemmas
pub mod SourceLemmas
