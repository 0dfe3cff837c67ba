pub mod CountLemmas
pub mod PathLemmas
pub mod AboveLemmas
pub mod FilterLemmas
mod Examples
