pub mod Layers
pub mod MeasureLemmas
pub mod WeightLemmas
