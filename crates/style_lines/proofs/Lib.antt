pub mod WordLemmas
pub mod Fronts
pub mod Told
pub mod Written
pub mod KeptLemmas
mod LineExamples
