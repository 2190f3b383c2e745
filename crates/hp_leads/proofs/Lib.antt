pub mod StepLemmas
pub mod WordLemmas
pub mod ChoiceLemmas
pub mod BranchLemmas
pub mod CallLemmas
pub mod KnownWays
