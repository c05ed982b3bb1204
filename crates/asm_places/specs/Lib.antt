pub mod Counts
pub mod Layouts
pub mod Names
pub mod Places
pub mod Seen
pub mod Sizes
