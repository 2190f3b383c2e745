-- In reading order.
pub mod Fitting
pub mod Laws
-- Passed on from the crates below.
pub use Rattle.hp_leads.specs as hp_leads
pub use Rattle.hp_leads.specs.hp_steady
pub use Rattle.hp_leads.specs.spl_follow
