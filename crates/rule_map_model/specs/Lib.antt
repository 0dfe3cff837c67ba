pub mod Candidates
pub mod Buckets
pub mod Hits
pub mod Places
