-- In reading order.
pub mod Found
pub mod Unique
pub mod Laws
-- Passed on from the crates below.
pub use Rattle.spl_routines.specs.hp_program
pub use Rattle.spl_routines.specs.hp_steady
pub use Rattle.spl_routines.specs.mpe_segmenter
pub use Rattle.spl_routines.specs.spl_body_code
pub use Rattle.spl_routines.specs.spl_branch
pub use Rattle.spl_routines.specs.spl_carries
pub use Rattle.spl_routines.specs.spl_code
pub use Rattle.spl_routines.specs.spl_follow
pub use Rattle.spl_routines.specs.spl_meaning
pub use Rattle.spl_routines.specs.spl_module_code
pub use Rattle.spl_sound_jumps.specs.spl_places
pub use Rattle.spl_routines.specs as spl_routines
pub use Rattle.spl_routines.specs.spl_scopes
pub use Rattle.spl_routines.specs.spl_sites
pub use Rattle.spl_sound_jumps.specs as spl_sound_jumps
pub use Rattle.spl_routines.specs.spl_stands
pub use Rattle.spl_routines.specs.spl_statement_code
pub use Rattle.spl_routines.specs.spl_tree
pub use Rattle.spl_routines.specs.spl_ways
