pub mod Mapped
pub mod Order
pub mod Pairs
