-- A loop over lists of kinds.
use Rattle.std.proofs.Common.{◌≡◌, [], map, drop}
use Rattle.spl_tree.specs.Spells.{spec_tree}
use Rattle.spl_sorts.specs.spl_meaning.Names.{find}
use Rattle.spl_profiles.specs.Listings.{listed_of, and_specs}
use Rattle.spl_profiles.proofs.listings.Listings.of.Given as goal

-- what is said with the lists from here on is what all say
abbrev pub invariant-loop-spec : goal.invariant-loop-spec
invariant-loop-spec l =
    and_specs (find (listed_of l.listings)) (map spec_tree (drop l.spec-index l.specs)) ≡ and_specs (find []) (map spec_tree l.specs)
