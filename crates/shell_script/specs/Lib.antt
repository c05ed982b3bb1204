pub mod Gains
pub mod Scripts
pub mod Shell
