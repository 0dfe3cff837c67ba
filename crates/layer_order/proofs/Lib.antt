pub mod Chains
pub mod KnownLemmas
pub mod NestingLemmas
pub mod OrderLemmas
