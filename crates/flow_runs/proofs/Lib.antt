pub mod ImageLemmas
pub mod KeepsLemmas
pub mod InvariantLemmas
pub mod RuleLemmas
pub mod SafeLemmas
pub mod StartLemmas
pub mod TurnLemmas
pub mod WalkLemmas
