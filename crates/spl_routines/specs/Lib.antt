-- In reading order.
pub mod Among
pub mod Located
pub mod Routines
pub mod Laws
-- Passed on from the crates below.
pub use Rattle.spl_carries.specs.hp_instr
pub use Rattle.spl_ways.specs.hp_leads
pub use Rattle.spl_carries.specs.hp_program
pub use Rattle.spl_ways.specs.hp_steady
pub use Rattle.spl_ways.specs.mpe_segmenter
pub use Rattle.spl_label_marks.specs.spl_body_code
pub use Rattle.spl_ways.specs.spl_branch
pub use Rattle.spl_carries.specs as spl_carries
pub use Rattle.spl_label_marks.specs.spl_code
pub use Rattle.spl_endings.specs.spl_follow
pub use Rattle.spl_carries.specs.spl_meaning
pub use Rattle.spl_label_marks.specs.spl_module_code
pub use Rattle.spl_label_marks.specs.spl_modules
pub use Rattle.spl_label_marks.specs.spl_scopes
pub use Rattle.spl_ways.specs.spl_sites
pub use Rattle.spl_ways.specs.spl_stands
pub use Rattle.spl_label_marks.specs.spl_statement_code
pub use Rattle.spl_carries.specs.spl_tree
pub use Rattle.spl_ways.specs as spl_ways
