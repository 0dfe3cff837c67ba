pub mod SheetMarks
