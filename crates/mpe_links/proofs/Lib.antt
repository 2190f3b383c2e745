pub mod WayLaws
pub mod NodeLemmas
pub mod RingLemmas
pub mod TableLemmas
