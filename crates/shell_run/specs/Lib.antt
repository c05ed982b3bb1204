pub mod Gains
pub mod Lines
pub mod Listings
pub mod Replies
pub mod Runs
pub mod Session
pub mod Shown
