pub mod TouchLemmas
pub mod TouchNameLemmas
pub mod TouchedLists
pub mod DepthLimits
pub mod ListEdits
pub mod JudgeLemmas
pub mod BeyondLemmas
pub mod SaysLemmas
pub mod PlanLemmas
pub mod ShapeLemmas
mod ClassLemmas
mod WordLemmas
mod ClassNameLemmas
mod LimitLemmas
mod NameLemmas
pub mod ApplyLemmas
