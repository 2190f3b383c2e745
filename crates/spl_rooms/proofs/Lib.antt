pub mod RoomWalks
pub mod RoomLaws
-- Passed on from the crates below.
pub use Rattle.spl_places.proofs as spl_places_proofs
