pub mod EntryLemmas
pub mod GraphLemmas
pub mod MarkLemmas
pub mod AddedLemmas
pub mod PlainLemmas
pub mod OffLemmas
pub mod OrderLemmas
pub mod ReachLemmas
pub mod RoundLemmas
pub mod MergeLemmas
pub mod MergedLemmas
mod Chains
mod Normal
mod Limit
pub mod Expanding
