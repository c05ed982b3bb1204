pub mod DraftLemmas
pub mod LineLemmas
pub mod NumberLemmas
pub mod PassLemmas
pub mod RowLemmas
pub mod StatementLemmas
pub mod WorkloadLemmas
