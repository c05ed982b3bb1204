pub mod Fit
pub mod Room
pub mod Run
pub mod Space
pub mod SpaceEdits
