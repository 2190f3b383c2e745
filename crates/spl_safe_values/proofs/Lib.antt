-- In reading order.
pub mod Came
pub mod Stores
pub mod Operators
pub mod Bytes
pub mod IntrinsicLemmas
pub mod Locations
pub mod Names
pub mod KindLemmas
pub mod ValueLemmas
-- Passed on from the crates below.
pub use Rattle.spl_covered.proofs.spl_values_proofs
pub use Rattle.spl_covered.proofs.spl_word_operators_proofs
