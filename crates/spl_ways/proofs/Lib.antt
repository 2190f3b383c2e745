-- In reading order.
pub mod WayLemmas
pub mod MainLemmas
-- Passed on from the crates below.
pub use Rattle.spl_sites.proofs.mpe_segmenter_proofs
pub use Rattle.spl_sites.proofs as spl_sites_proofs
