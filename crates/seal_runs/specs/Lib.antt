pub mod KeyBook
pub mod SealInvariant
pub mod SealSafe
