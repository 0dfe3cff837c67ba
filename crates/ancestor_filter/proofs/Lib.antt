pub mod NameLemmas
pub mod ReachLemmas
mod Examples
