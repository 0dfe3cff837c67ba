mod Examples
pub mod Lists
pub mod Numbers
pub mod Found
pub mod TagLemmas
pub mod Climbing
pub mod Listed
pub mod Subtrees
pub mod Before
pub mod TreeOrder
pub mod Depths
pub mod ParentBefore
pub mod Any
pub mod Siblings
pub mod InOrder
