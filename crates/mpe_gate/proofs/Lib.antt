pub mod WordLemmas
pub mod ServeLemmas
mod KnownServes
