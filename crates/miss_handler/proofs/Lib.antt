pub mod AccountLemmas
pub mod AskLemmas
pub mod HitLemmas
pub mod MaskLemmas
pub mod MissLemmas
pub mod RoomLemmas
pub mod RuleLemmas
