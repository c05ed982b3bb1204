pub mod Layout
pub mod Lending
pub mod Past
