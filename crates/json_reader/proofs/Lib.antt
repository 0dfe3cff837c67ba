pub mod Reading
pub mod Turns
pub mod First
pub mod Outcomes
pub mod WholeText
pub mod Opened
pub mod Numbers
