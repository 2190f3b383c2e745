-- A loop over the parts of a sum.
use Rattle.std.proofs.Common.{◌≡◌, map, drop, Some}
use Rattle.std.specs.Prelude.{pos}
use Rattle.spl_tree.specs.Spells.{term}
use Rattle.spl_sorts.specs.spl_meaning.Names.{sum_from}
use Rattle.spl_sorts.specs.Tables.{names_of}
use Rattle.spl_lists.specs.Sums.{IsSumOf}
use Rattle.spl_lists.proofs.named_sums.sum.Given as goal

-- the sum so far fits, and with the parts from here on it is the sum of all
abbrev pub invariant-loop-minus : goal.invariant-loop-minus
invariant-loop-minus l = record {
  small : IsSumOf l.minus-index l.sum;
  value : sum_from (names_of l.names) (Some l.sum) (map term (drop l.minus-index l.terms)) ≡ sum_from (names_of l.names) (Some (pos 0)) (map term l.terms);
}
