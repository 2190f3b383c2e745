-- In reading order.
pub mod FoundBodies
pub mod Laws
-- Passed on from the crates below.
pub use Rattle.spl_sound_names.specs.hp_word
pub use Rattle.spl_beginnings.specs.spl_code
pub use Rattle.spl_sound_names.specs.spl_found
pub use Rattle.spl_sound_names.specs.spl_meaning
pub use Rattle.spl_piece_kinds.specs.spl_module_code
pub use Rattle.spl_piece_kinds.specs as spl_piece_kinds
pub use Rattle.spl_piece_kinds.specs.spl_places
pub use Rattle.spl_piece_kinds.specs.spl_scopes
pub use Rattle.spl_piece_kinds.specs.spl_sites
pub use Rattle.spl_sound_names.specs.spl_sound
pub use Rattle.spl_sound_names.specs as spl_sound_names
pub use Rattle.spl_piece_kinds.specs.spl_stands
pub use Rattle.spl_beginnings.specs.spl_statement_code
