pub mod ComingLemmas
mod LengthLemmas
mod NumberLemmas
pub mod RoomLemmas
pub mod SweepLemmas
pub mod TableLemmas
