pub mod CachedStart
pub mod Named
