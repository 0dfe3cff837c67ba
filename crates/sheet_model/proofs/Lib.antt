pub mod RuleCuts
pub mod DeclaredGiven
pub mod DeclaredWritable
pub mod LineLemmas
pub mod ExampleCases
mod Examples
mod ValueExamples
mod LengthExamples
mod ShorthandExamples
mod SelectorExamples
mod AnPlusBExamples
mod LimitExamples
