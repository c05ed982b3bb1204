pub mod AskedLemmas
pub mod CommandLemmas
pub mod GivenLemmas
pub mod LimitLemmas
pub mod ReadLemmas
pub mod RowLemmas
pub mod ValueLemmas
