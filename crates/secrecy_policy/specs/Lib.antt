pub mod Secrecy
pub mod SecrecyLaws
pub mod Start
pub mod TextLaws
