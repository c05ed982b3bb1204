pub mod Cuts
pub mod Events
pub mod Order
pub mod Runs
pub mod Told
pub mod Turns
