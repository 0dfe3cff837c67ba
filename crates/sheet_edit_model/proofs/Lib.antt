pub mod SameSheets
mod SheetMarkExamples
