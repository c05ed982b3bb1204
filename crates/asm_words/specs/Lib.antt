pub mod Emission
pub mod EmissionLaws
pub mod Encoding
pub mod Instructions
pub mod NamePlaces
pub mod Ranges
