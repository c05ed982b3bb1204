pub mod EdgeWalk
pub mod FlowInvariant
pub mod FlowSafe
pub mod FlowTurn
