mod Examples
pub mod AppendLemmas
pub mod DeclarationLemmas
pub mod LengthLemmas
pub mod LineLemmas
