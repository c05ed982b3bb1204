pub mod Alike
pub mod Hides
pub mod Outlines
pub mod Pairs
pub mod Same
