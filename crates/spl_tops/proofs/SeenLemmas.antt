-- Where places that are seen are: at their addresses, by their modes.
pub use Rattle.spl_doubles.proofs.spl_operands_proofs.SeenLemmas.{reached_seen, seen_reached, IsBelow, below_is, below_based, below_low, seen_based}
pub use Rattle.spl_doubles.proofs.spl_variables_proofs.OwnLemmas.{seen_low}
