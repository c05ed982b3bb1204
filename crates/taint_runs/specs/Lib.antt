pub mod TaintTurn
pub mod Whole
