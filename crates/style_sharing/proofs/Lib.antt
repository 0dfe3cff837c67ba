pub mod SeenLemmas
pub mod ServingLemmas
