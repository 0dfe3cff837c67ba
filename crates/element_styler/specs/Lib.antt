pub mod Attached
pub mod Cache
pub mod Finding
pub mod Fits
pub mod Follows
pub mod MatchedRules
pub mod Prepared
