pub mod Heap
pub mod HeapLaws
pub mod TextLaws
