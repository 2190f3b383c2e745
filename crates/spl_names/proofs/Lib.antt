-- In reading order.
pub mod LedLemmas
pub mod NameLemmas
pub mod AddressLemmas
pub mod WideLedLemmas
pub mod WideNameLemmas
-- Passed on from the crates below.
pub use Rattle.spl_statement_code.proofs.hp_word_proofs
pub use Rattle.spl_addresses.proofs as spl_addresses_proofs
pub use Rattle.spl_tops.proofs.spl_doubles_proofs
pub use Rattle.spl_tops.proofs as spl_tops_proofs
pub use Rattle.spl_word_operators.proofs as spl_word_operators_proofs
