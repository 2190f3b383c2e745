-- A loop over lists of kinds.
use Rattle.std.proofs.Common.{◌≡◌, map, drop}
use Rattle.spl_tree.specs.Spells.{spec_tree}
use Rattle.spl_sorts.specs.spl_meaning.DeclarationRules.{all_listed}
use Rattle.spl_profiles.specs.NameSets.{has_of, no_name}
use Rattle.spl_profiles.specs.Headings.{found_again}
use Rattle.spl_profiles.proofs.headings.listed_once.Given as goal

-- what is found in the lists from here on is what is found in all
abbrev pub invariant-loop-spec : goal.invariant-loop-spec
invariant-loop-spec l =
    found_again 18 (has_of l.seen) (all_listed (map spec_tree (drop l.spec-index l.specs))) l.report
    ≡ found_again 18 no_name (all_listed (map spec_tree l.specs)) l.initial.report
