-- In reading order.
pub mod Beginnings
pub mod Grounds
pub mod Laws
-- Passed on from the crates below.
pub use Rattle.mpe_segmenter.specs.hp_instr
pub use Rattle.spl_stands.specs.hp_leads
pub use Rattle.mpe_segmenter.specs.hp_program
pub use Rattle.spl_stands.specs.hp_steady
pub use Rattle.mpe_segmenter.specs as mpe_segmenter
pub use Rattle.mpe_segmenter.specs.spl_branch
pub use Rattle.spl_stands.specs.spl_follow
pub use Rattle.spl_stands.specs as spl_stands
