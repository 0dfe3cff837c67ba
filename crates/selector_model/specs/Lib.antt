pub mod Selector
pub mod Comparisons
pub mod Holds
pub mod SpecificityOf
pub mod Key
pub mod Compounds
pub mod Parts
pub mod Bears
