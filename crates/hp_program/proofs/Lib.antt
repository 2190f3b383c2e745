pub mod ValidLemmas
pub mod ValidLaws
pub mod SegmentLemmas
pub mod KnownPrograms
