pub mod Accesses
pub mod Actions
pub mod CheckLaws
pub mod Checks
pub mod Effects
