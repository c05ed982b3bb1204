pub mod Fronts
pub mod Keys
pub mod Named
pub mod Stores
