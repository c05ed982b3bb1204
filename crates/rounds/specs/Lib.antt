pub mod Course
pub mod Cuts
pub mod Same
pub mod Shown
