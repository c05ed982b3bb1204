pub mod AllLemmas
mod FlatLemmas
pub mod NothingLemmas
pub mod OwnerLemmas
mod PartLemmas
