pub mod PairLemmas
pub mod AgreesLemmas
pub mod OneStyle
pub mod OwnLayers
pub mod OtherSheets
pub mod Silent
pub mod Spots
pub mod CompareLemmas
pub mod SheetCover
pub mod SheetEditLemmas
pub mod MatchedAlike
pub mod StyleStays
pub mod CalmLemmas
pub mod SameLemmas
pub mod ListedLemmas
pub mod KeepsLemmas
pub mod OpenLemmas
pub mod EditLemmas
pub mod InvariantLemmas
pub mod WalkLemmas
pub mod SlotLemmas
pub mod FlagLemmas
pub mod RestyleLemmas
pub mod BatchLemmas
pub mod TagLemmas
mod BatchCases
mod BatchExamples
mod SheetBatchExamples
mod StyleBatchExamples
mod AgreesExamples
mod MarkExamples
pub mod RowExamples
mod RootExample
