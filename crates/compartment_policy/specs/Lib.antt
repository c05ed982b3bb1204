pub mod CompartmentLaws
pub mod Compartments
