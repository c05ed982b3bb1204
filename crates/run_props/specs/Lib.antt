pub mod Attacks
pub mod Beside
pub mod Ends
pub mod EngineRuns
pub mod Invariant
pub mod Lenses
pub mod Migration
pub mod Safe
