pub mod Value
pub mod Parts
pub mod Steps
pub mod Expand
pub mod Cycles
pub mod Computed
pub mod Printed
