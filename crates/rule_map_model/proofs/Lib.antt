pub mod BucketLemmas
pub mod Greatest
pub mod Folding
pub mod Members
pub mod Matching
pub mod FoundLemmas
pub mod CandidateLemmas
pub mod Sorting
pub mod Tested
pub mod PlaceLemmas
pub mod CandidatePlaces
mod Examples
