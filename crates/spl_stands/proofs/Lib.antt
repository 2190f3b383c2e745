pub mod StandLemmas
pub mod KnownFits
