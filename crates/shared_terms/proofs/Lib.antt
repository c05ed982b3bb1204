pub mod CaseLemmas
pub mod ListLemmas
pub mod StepLemmas
