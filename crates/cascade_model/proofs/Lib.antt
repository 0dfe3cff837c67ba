pub mod KeyOrder
pub mod StyleAlong
pub mod WinnerLemmas
pub mod EndingLines
pub mod ComputedLines
pub mod LineLemmas
pub mod EndingLemmas
pub mod ValuesLemmas
pub mod ExampleCases
mod Examples
mod DocumentExamples
mod ComputedExamples
mod MeaningExamples
mod OrderExamples
