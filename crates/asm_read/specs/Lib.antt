pub mod Addresses
pub mod Directives
pub mod Instructions
pub mod Lines
pub mod Operands
pub mod Pseudo
pub mod Source
pub mod Values
