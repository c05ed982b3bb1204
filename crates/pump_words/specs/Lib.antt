pub mod Numbers
pub mod Same
pub mod TextLaws
pub mod Texts
pub mod Words
