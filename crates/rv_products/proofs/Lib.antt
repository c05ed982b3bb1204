pub mod ProductLemmas
pub mod QuotientLemmas
pub mod WordLemmas
