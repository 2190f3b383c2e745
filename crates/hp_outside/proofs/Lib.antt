pub mod StreamLemmas
pub mod KnownCalls
