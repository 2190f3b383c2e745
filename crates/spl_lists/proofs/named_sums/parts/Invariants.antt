-- A loop over the parts of a sum.
use Rattle.std.proofs.Common.{◌≡◌, map, drop}
use Rattle.spl_tree.specs.Spells.{term}
use Rattle.spl_uses.specs.spl_found.FoundDeclarations.{found_terms}
use Rattle.spl_sorts.specs.Tables.{names_of}
use Rattle.spl_lists.proofs.named_sums.parts.Given as goal

-- what is found from here on is what is found in all
abbrev pub invariant-loop-part : goal.invariant-loop-part
invariant-loop-part l =
    found_terms (names_of l.names) l.at (map term (drop l.part-index l.terms)) l.report
    ≡ found_terms (names_of l.names) l.at (map term l.terms) l.initial.report
