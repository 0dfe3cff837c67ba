pub mod NameLemmas
pub mod IntegerLemmas
pub mod ListLemmas
pub mod CompoundLemmas
pub mod ComplexLemmas
