pub mod Siblings
pub mod Twin
pub mod Share
