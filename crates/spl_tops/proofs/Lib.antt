-- In reading order.
pub mod SeenLemmas
pub mod StoreLemmas
pub mod CellLemmas
pub mod UnderLemmas
-- Passed on from the crates below.
pub use Rattle.spl_doubles.proofs.hp_yields_proofs
pub use Rattle.spl_doubles.proofs.spl_conditions_proofs
pub use Rattle.spl_doubles.proofs as spl_doubles_proofs
pub use Rattle.spl_doubles.proofs.spl_operands_proofs
pub use Rattle.spl_doubles.proofs.spl_operators_proofs
pub use Rattle.spl_doubles.proofs.spl_follow_proofs
pub use Rattle.spl_doubles.proofs.spl_values_proofs
