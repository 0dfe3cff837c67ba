pub mod Handle
pub mod Boxes
pub mod Told
