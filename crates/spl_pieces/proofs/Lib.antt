pub mod ByteLemmas
pub mod CommandLemmas
pub mod NumberLemmas
pub mod SizeLemmas
pub mod TurnLemmas
