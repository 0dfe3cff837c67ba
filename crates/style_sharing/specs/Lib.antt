pub mod Ends
pub mod Entries
