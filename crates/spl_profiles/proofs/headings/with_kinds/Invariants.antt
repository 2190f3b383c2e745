-- A loop over names.
use Rattle.std.proofs.Common.{◌≡◌, map, drop}
use Rattle.spl_tree.specs.Spells.{placed}
use Rattle.spl_sorts.specs.spl_meaning.Names.{find}
use Rattle.spl_profiles.specs.Listings.{listed_of}
use Rattle.spl_profiles.specs.Headings.{found_failing, is_said}
use Rattle.spl_profiles.proofs.headings.with_kinds.Given as goal

-- what is found from here on is what is found in all
abbrev pub invariant-loop-name : goal.invariant-loop-name
invariant-loop-name l =
    found_failing (is_said (find (listed_of l.listings))) (map placed (drop l.name-index l.names)) l.report
    ≡ found_failing (is_said (find (listed_of l.listings))) (map placed l.names) l.initial.report
