pub mod CountLemmas
pub mod EncodingLemmas
pub mod NamePlaceLemmas
pub mod OffsetLemmas
pub mod RangeLemmas
