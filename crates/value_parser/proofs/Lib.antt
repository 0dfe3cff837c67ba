pub mod HexLemmas
pub mod TableLemmas
pub mod WordLemmas
pub mod TakenLemmas
