pub mod Grammar
pub mod Lent
pub mod Operands
pub mod Refusals
pub mod Stream
pub mod Words
