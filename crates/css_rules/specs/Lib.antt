pub mod Layers
pub mod Left
pub mod Parser
pub mod Reader
pub mod Reading
pub mod View
pub mod Walk
