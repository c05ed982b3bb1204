pub mod All
pub mod AllLaws
pub mod Choice
pub mod Flat
pub mod TagLaws
pub mod Told
