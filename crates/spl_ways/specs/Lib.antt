-- In reading order.
pub mod Ways
pub mod Laws
-- Passed on from the crates below.
pub use Rattle.spl_sites.specs.hp_leads
pub use Rattle.spl_sites.specs.hp_steady
pub use Rattle.spl_sites.specs.mpe_segmenter
pub use Rattle.spl_sites.specs.spl_branch
pub use Rattle.spl_sites.specs as spl_sites
pub use Rattle.spl_sites.specs.spl_stands
