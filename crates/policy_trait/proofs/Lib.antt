pub mod AnswerLemmas
pub mod SetLemmas
pub mod TextLemmas
