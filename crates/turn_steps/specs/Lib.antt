pub mod Effects
pub mod Feeds
pub mod Looks
pub mod Maps
pub mod Peeks
pub mod Services
pub mod Values
