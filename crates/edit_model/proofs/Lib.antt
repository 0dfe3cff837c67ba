pub mod Facts
pub mod Lists
pub mod Core
pub mod Cover
pub mod Standing
pub mod TagLemmas
pub mod AfterLemmas
pub mod Forward
pub mod ExampleCases
pub mod LimitCases
mod Examples
pub mod Accepted
pub mod NumberLemmas
pub mod TouchedLemmas
pub mod TouchedPairLemmas
mod ApplyExamples
mod TouchedPairExamples
mod TouchedExamples
mod LimitExamples
