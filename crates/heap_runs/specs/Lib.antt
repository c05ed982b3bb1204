pub mod BlockBook
pub mod HeapInvariant
pub mod HeapSafe
