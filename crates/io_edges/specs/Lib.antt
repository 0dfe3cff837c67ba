pub mod Cause
pub mod MemoryEnd
pub mod StdEnd
