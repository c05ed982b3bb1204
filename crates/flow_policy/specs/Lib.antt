pub mod Flow
pub mod FlowLaws
pub mod Sorted
pub mod TextLaws
