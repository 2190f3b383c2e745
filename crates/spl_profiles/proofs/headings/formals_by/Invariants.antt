-- A loop over names.
use Rattle.std.proofs.Common.{◌≡◌, ◌++◌, map, drop}
use Rattle.spl_tree.specs.Spells.{placed}
use Rattle.spl_sorts.specs.spl_meaning.Names.{find}
use Rattle.spl_sorts.specs.Profiles.{formal_of}
use Rattle.spl_profiles.specs.NameSets.{has_of}
use Rattle.spl_profiles.specs.Listings.{listed_of}
use Rattle.spl_profiles.specs.Headings.{formals_by}
use Rattle.spl_profiles.proofs.headings.formals_by.Given as goal

-- those made, and those of the names from here on, are all
abbrev pub invariant-loop-name : goal.invariant-loop-name
invariant-loop-name l =
    map formal_of l.formals.items ++ formals_by (find (listed_of l.listings)) (has_of l.values) (map placed (drop l.name-index l.names))
    ≡ formals_by (find (listed_of l.listings)) (has_of l.values) (map placed l.names)
