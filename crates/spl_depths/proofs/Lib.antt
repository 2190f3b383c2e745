pub mod WordWalks
pub mod PlaceWalks
pub mod Walks
pub mod StatementWalks
pub mod UseWalks
pub mod FlowWalks
pub mod ReachLaws
pub mod PassingWalks
pub mod HeadingLaws
mod KnownReach
-- Passed on from the crates below.
pub use Rattle.spl_uses.proofs.spl_found_proofs
