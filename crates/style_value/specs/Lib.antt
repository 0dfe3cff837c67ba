pub mod KeptText
pub mod ColumnView
pub mod StyleText
pub mod Parts
