pub mod CompInvariant
pub mod CompSafe
pub mod CompTurn
pub mod OwnerBook
