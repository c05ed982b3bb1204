mod AskLemmas
mod BackLemmas
mod CountLemmas
mod EndLemmas
mod LowLemmas
mod OpenLemmas
mod OutLemmas
pub mod PastLemmas
mod RecordLemmas
mod RememberLemmas
mod ServiceLemmas
mod SettleLemmas
mod StayLemmas
mod StepLemmas
mod SweepLemmas
mod TurnLemmas
