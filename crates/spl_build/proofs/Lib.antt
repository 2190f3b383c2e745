pub mod RoomLemmas
pub mod BuildLemmas
