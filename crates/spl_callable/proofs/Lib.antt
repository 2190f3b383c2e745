-- In reading order.
pub mod ProfileLemmas
pub mod LinkLemmas
pub mod CallableLemmas
-- Passed on from the crates below.
pub use Rattle.spl_callees.proofs.hp_steady_proofs
pub use Rattle.spl_callees.proofs.spl_endings_proofs
pub use Rattle.spl_mains.proofs.spl_follow_proofs
pub use Rattle.spl_callees.proofs.spl_grants_proofs
pub use Rattle.spl_inners.proofs.spl_label_marks_proofs
pub use Rattle.spl_inners.proofs.spl_routines_proofs
pub use Rattle.spl_readings.proofs.spl_scopes_proofs
pub use Rattle.spl_inners.proofs.spl_ways_proofs
