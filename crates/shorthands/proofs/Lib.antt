pub mod SliceLemmas
pub mod ShortLemmas
pub mod DigitLemmas
pub mod BlockLemmas
pub mod DeclaredLemmas
