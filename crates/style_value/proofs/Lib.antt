pub mod ColumnLemmas
pub mod ColumnTests
pub mod AdjustLemmas
pub mod InheritedLemmas
pub mod PartLemmas
pub mod TextLemmas
pub mod TableLemmas
