pub mod Counted
pub mod Example
