mod AccountLemmas
pub mod HiddenLemmas
pub mod StartLemmas
