pub mod Both
pub mod BothLaws
pub mod Maybe
pub mod MaybeLaws
pub mod Nothing
pub mod NothingLaws
