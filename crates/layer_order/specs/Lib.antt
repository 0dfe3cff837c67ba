pub mod Chain
pub mod Key
pub mod Known
pub mod LinkView
pub mod Nested
pub mod View
