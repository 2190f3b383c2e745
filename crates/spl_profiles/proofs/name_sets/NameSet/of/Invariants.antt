-- A loop over names.
use Rattle.std.proofs.Common.{◌≡◌, map, drop}
use Rattle.spl_tree.specs.Spells.{placed}
use Rattle.spl_profiles.specs.NameSets.{has_of, no_name, and_names}
use Rattle.spl_profiles.proofs.name_sets.NameSet.of.Given as goal

-- with the names from here on it is the set of all
abbrev pub invariant-loop-name : goal.invariant-loop-name
invariant-loop-name l = and_names (has_of l.set) (map placed (drop l.name-index l.names)) ≡ and_names no_name (map placed l.names)
