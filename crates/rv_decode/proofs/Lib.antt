pub mod FormatLemmas
pub mod TableLemmas
