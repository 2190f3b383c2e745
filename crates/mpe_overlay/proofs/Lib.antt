pub mod RoomLemmas
pub mod CodeLemmas
pub mod SegmentLemmas
pub mod HoldLemmas
mod KnownCodes
