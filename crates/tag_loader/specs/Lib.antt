pub mod Births
pub mod Memory
pub mod Owners
pub mod Sorted
pub mod Start
pub mod Walks
