-- In reading order.
pub mod ModuleLaws
pub mod Statements
pub mod Entries
pub mod Bodies
pub mod Units
-- Passed on from the crates below.
pub use Rattle.spl_sound_names.proofs.spl_found_proofs
pub use Rattle.spl_piece_kinds.proofs.spl_scopes_proofs
pub use Rattle.spl_sound_names.proofs as spl_sound_names_proofs
