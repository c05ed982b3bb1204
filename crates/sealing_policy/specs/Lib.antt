pub mod Sealing
pub mod SealingLaws
