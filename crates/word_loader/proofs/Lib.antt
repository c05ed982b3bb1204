mod CachedLemmas
mod NamedLemmas
mod StartLemmas
