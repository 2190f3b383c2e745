-- In reading order.
pub mod Covered
pub mod Laws
-- Passed on from the crates below.
pub use Rattle.spl_byte_tests.specs.hp_instr
pub use Rattle.spl_byte_tests.specs.hp_word
pub use Rattle.spl_byte_tests.specs.spl_branch
pub use Rattle.spl_byte_tests.specs as spl_byte_tests
pub use Rattle.spl_byte_tests.specs.spl_code
pub use Rattle.spl_whom.specs.spl_endings
pub use Rattle.spl_whom.specs.spl_intrinsics
pub use Rattle.spl_whom.specs.spl_links
pub use Rattle.spl_byte_tests.specs.spl_meaning
pub use Rattle.spl_byte_tests.specs.spl_moves
pub use Rattle.spl_byte_tests.specs.spl_names
pub use Rattle.spl_whom.specs.spl_operators
pub use Rattle.spl_byte_tests.specs.spl_scans
pub use Rattle.spl_byte_tests.specs.spl_statement_code
pub use Rattle.spl_byte_tests.specs.spl_tops
pub use Rattle.spl_byte_tests.specs.spl_tree
pub use Rattle.spl_byte_tests.specs.spl_values
pub use Rattle.spl_whom.specs as spl_whom
pub use Rattle.spl_byte_tests.specs.spl_word_operators
