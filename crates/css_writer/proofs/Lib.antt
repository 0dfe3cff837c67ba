pub mod WriterLemmas
pub mod CustomLemmas
