pub mod AccountLemmas
pub mod FrontLemmas
pub mod KeyLemmas
pub mod LogLemmas
pub mod OneSetLemmas
pub mod PromotedLemmas
pub mod RuleLemmas
pub mod StoreLemmas
