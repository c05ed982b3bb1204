pub mod Lens
pub mod Part
