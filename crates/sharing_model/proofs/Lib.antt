pub mod ToldLemmas
pub mod TwinLemmas
pub mod MatchingLemmas
pub mod ShareLemmas
mod Examples
