pub mod Counts
pub mod Measured
pub mod SimpleView
pub mod ComplexView
pub mod View
