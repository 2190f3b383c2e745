-- Which places are seen: those that their modes reach, and those below a subroutine's return word.
pub use Rattle.spl_doubles.specs.spl_values.Reached.{is_seen, is_fixed}
