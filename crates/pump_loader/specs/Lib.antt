pub mod ChosenHistories
pub mod ChosenLoads
pub mod Loads
pub mod PlainLoads
pub mod Remembering
pub mod Wholes
