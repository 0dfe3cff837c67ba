pub mod SlotView
pub mod NameOrder
pub mod Heads
pub mod Rows
pub mod RulesView
pub mod View
pub mod Gathered
pub mod Asking
