pub mod Key
pub mod Matching
pub mod Winner
pub mod Ending
pub mod Custom
pub mod Cascade
pub mod StyleOf
