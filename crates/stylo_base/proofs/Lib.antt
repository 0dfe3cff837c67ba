pub mod CaseLemmas
pub mod KindLines
pub mod NameLemmas
pub mod NumberLemmas
pub mod RoundingLemmas
pub mod TextLemmas
