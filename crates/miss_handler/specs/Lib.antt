pub mod Answered
pub mod Asked
pub mod Books
pub mod Told
pub mod WordMasks
