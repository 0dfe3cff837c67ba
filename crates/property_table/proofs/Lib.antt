pub mod WordLemmas
pub mod ColorLemmas
pub mod ValueLemmas
pub mod ColumnLemmas
pub mod RowLemmas
pub mod NameLemmas
pub mod SetLemmas
