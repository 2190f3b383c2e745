-- In reading order.
pub mod Bounds
pub mod Segments
pub mod Programs
-- Passed on from the crates below.
pub use Rattle.spl_carries.specs.hp_flat
pub use Rattle.spl_carries.specs.hp_instr
pub use Rattle.spl_carries.specs.hp_program
pub use Rattle.spl_carries.specs.hp_word
pub use Rattle.spl_module_words.specs.mpe_segmenter
pub use Rattle.spl_called_names.specs.spl_body_code
pub use Rattle.spl_module_words.specs.spl_branch
pub use Rattle.spl_carries.specs as spl_carries
pub use Rattle.spl_module_words.specs.spl_cuts
pub use Rattle.spl_module_words.specs.spl_grammar
pub use Rattle.spl_module_words.specs.spl_initials
pub use Rattle.spl_carries.specs.spl_meaning
pub use Rattle.spl_module_words.specs.spl_module_code
pub use Rattle.spl_module_words.specs.spl_places
pub use Rattle.spl_module_words.specs.spl_reading
pub use Rattle.spl_called_names.specs.spl_scopes
pub use Rattle.spl_carries.specs.spl_tree
