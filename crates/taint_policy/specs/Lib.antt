pub mod Taint
pub mod TaintLaws
pub mod Start
pub mod TextLaws
