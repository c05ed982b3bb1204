pub mod Back
pub mod Low
pub mod Pump
pub mod Steps
