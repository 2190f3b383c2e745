-- A loop over names.
use Rattle.std.proofs.Common.{◌≡◌, map, drop}
use Rattle.spl_tree.specs.Spells.{placed}
use Rattle.spl_profiles.specs.NameSets.{has_of, and_names}
use Rattle.spl_profiles.specs.Headings.{found_again}
use Rattle.spl_profiles.proofs.headings.again.Given as goal

-- what is found, and what is taken in, from here on is what is found in all and taken in of all
abbrev pub invariant-loop-name : goal.invariant-loop-name
invariant-loop-name l = record {
  first : found_again l.rule (has_of l.seen) (map placed (drop l.name-index l.names)) l.report
      ≡ found_again l.rule (has_of l.initial.seen) (map placed l.names) l.initial.report;
  names : and_names (has_of l.seen) (map placed (drop l.name-index l.names)) ≡ and_names (has_of l.initial.seen) (map placed l.names);
}
