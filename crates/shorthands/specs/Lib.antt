pub mod View
pub mod PartsView
pub mod Digits
pub mod Blocks
