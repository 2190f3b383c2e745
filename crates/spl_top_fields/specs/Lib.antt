-- In reading order.
pub mod Laws
-- Passed on from the crates below.
pub use Rattle.spl_field_stores.specs.hp_flat
pub use Rattle.spl_field_stores.specs.hp_session
pub use Rattle.spl_field_stores.specs as spl_field_stores
pub use Rattle.spl_field_stores.specs.spl_follow
pub use Rattle.spl_field_stores.specs.spl_operands
