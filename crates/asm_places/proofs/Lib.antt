pub mod BooleanLemmas
pub mod NameLemmas
pub mod PlaceLemmas
pub mod SeenLemmas
pub mod SizeLemmas
