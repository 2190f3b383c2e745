-- A loop over names.
use Rattle.std.proofs.Common.{◌≡◌, map, drop}
use Rattle.spl_tree.specs.Spells.{placed}
use Rattle.spl_profiles.specs.NameSets.{has_of}
use Rattle.spl_profiles.specs.Headings.{found_failing}
use Rattle.spl_profiles.proofs.headings.listed.Given as goal

-- what is found from here on is what is found in all
abbrev pub invariant-loop-name : goal.invariant-loop-name
invariant-loop-name l =
    found_failing (has_of l.parameters) (map placed (drop l.name-index l.names)) l.report
    ≡ found_failing (has_of l.parameters) (map placed l.names) l.initial.report
