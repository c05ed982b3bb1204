pub mod PolicyLaws
pub mod UseLaws
pub mod Maps
pub mod Mirrors
pub mod Model
pub mod Sets
pub mod Uses
