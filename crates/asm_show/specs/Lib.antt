pub mod Instructions
pub mod Listing
pub mod Operands
pub mod Statements
