pub mod Compared
pub mod Counted
