mod KnownCalls
pub mod RoomLemmas
pub mod WriteLemmas
pub mod RegisterLaws
