pub mod Decoding
pub mod Fields
pub mod Formats
pub mod Groups
pub mod Table
