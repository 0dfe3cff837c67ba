pub mod Leftwards
pub mod KeyLemmas
pub mod AttributeCases
mod Examples
