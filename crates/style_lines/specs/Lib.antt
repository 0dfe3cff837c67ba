pub mod Commands
pub mod Words
pub mod KeptLines
pub mod Loops
