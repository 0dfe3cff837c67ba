pub mod TakesLemmas
mod Examples
