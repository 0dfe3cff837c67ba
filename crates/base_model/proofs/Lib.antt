pub mod CaseLemmas
pub mod Lists
pub mod Bools
pub mod Orderings
pub mod Results
pub mod Digits
pub mod Specificities
pub mod Texts
pub mod Origins
pub mod LineFeedLemmas
mod Examples
