pub mod HartLemmas
pub mod MapLemmas
pub mod PagesLemmas
pub mod RamLemmas
pub mod RowLemmas
