pub mod SlotLemmas
pub mod NameLemmas
pub mod OrderLemmas
pub mod HeadLemmas
pub mod RowLemmas
pub mod BucketLemmas
pub mod GatherLemmas
pub mod CandidateLemmas
