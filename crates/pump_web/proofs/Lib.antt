pub mod DueLemmas
pub mod HeldLemmas
pub mod ReplyLemmas
pub mod RunLemmas
