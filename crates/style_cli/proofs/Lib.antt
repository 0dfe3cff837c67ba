pub mod Printed
pub mod EditedLemmas
pub mod SettledLemmas
pub mod ServeLemmas
pub mod SumLemmas
pub mod CountLemmas
pub mod LineLemmas
pub mod BatchText
pub mod FirstScene
mod Examples
mod ExampleCases
