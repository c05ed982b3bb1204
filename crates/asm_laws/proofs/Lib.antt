pub mod OperandLemmas
pub mod PieceLemmas
pub mod RowLemmas
pub mod ShapeLemmas
pub mod TargetLemmas
pub mod TextLemmas
