pub mod Names
pub mod Bodies
pub mod Programs
-- Passed on from the crates below.
pub use Rattle.spl_linked_names.proofs as spl_linked_names_proofs
pub use Rattle.spl_seen.proofs as spl_seen_proofs
pub use Rattle.spl_sound_bodies.proofs as spl_sound_bodies_proofs
