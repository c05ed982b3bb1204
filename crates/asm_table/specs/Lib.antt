pub mod Registers
pub mod Rows
pub mod Words
