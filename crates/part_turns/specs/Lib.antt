pub mod Keeps
pub mod Maps
pub mod Moments
pub mod Start
pub mod Turns
