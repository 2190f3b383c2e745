-- A loop over the names of a list of kinds.
use Rattle.std.proofs.Common.{◌≡◌, map, drop}
use Rattle.spl_tree.specs.Spells.{placed}
use Rattle.spl_sorts.specs.spl_meaning.Names.{find}
use Rattle.spl_profiles.specs.Listings.{listed_of, and_listed}
use Rattle.spl_profiles.proofs.listings.Listings.add_all.Given as goal

-- what is said with the names from here on is what is said with all
abbrev pub invariant-loop-name : goal.invariant-loop-name
invariant-loop-name l =
    and_listed (find (listed_of l.self)) l.listed (map placed (drop l.name-index l.names))
    ≡ and_listed (find (listed_of l.initial.self)) l.listed (map placed l.names)
