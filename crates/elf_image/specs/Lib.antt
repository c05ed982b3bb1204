pub mod Headers
pub mod Conditions
pub mod Loaded
pub mod Tags
pub mod Cells
pub mod Given
