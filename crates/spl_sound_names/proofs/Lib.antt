-- In reading order.
pub mod Tables
pub mod Levels
pub mod Walks
pub mod Units
pub mod Order
-- Passed on from the crates below.
pub use Rattle.spl_found.proofs as spl_found_proofs
pub use Rattle.spl_sound.proofs.spl_meaning_proofs
