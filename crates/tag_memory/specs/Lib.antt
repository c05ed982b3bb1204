pub mod Hart
pub mod Maps
pub mod Pages
pub mod Ram
pub mod Rows
pub mod Writes
