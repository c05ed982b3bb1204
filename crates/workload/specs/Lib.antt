pub mod Kinds
pub mod Source
