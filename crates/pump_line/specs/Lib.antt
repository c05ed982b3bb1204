pub mod Leaf
pub mod Line
pub mod Request
pub mod Task
pub mod Told
