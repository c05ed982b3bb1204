pub mod Sweep
pub mod Table
pub mod Words
