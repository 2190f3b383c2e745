pub mod OwnLemmas
pub mod DataWalks
pub mod ListWalks
pub mod EquateWalks
-- Passed on from the crates below.
pub use Rattle.spl_profiles.proofs.NameWalks
