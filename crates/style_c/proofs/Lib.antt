pub mod Values
pub mod ToldLemmas
pub mod LineLemmas
