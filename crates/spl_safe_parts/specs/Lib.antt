-- In reading order.
pub mod Laws
-- Passed on from the crates below.
pub use Rattle.spl_safe_calls.specs as spl_safe_calls
pub use Rattle.spl_safe_effects.specs as spl_safe_effects
