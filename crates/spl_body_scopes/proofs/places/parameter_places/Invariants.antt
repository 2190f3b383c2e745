-- A loop over parameters.
use Rattle.std.proofs.Common.{◌≡◌, map, drop}
use Rattle.spl_sorts.specs.spl_meaning.Names.{find}
use Rattle.spl_sorts.specs.spl_meaning.Pending.{formals_words}
use Rattle.spl_sorts.specs.spl_meaning.Bodies.{parameter_places}
use Rattle.spl_sorts.specs.Profiles.{formal_of}
use Rattle.spl_places.specs.NameMaps.{entries_of, shown, behind_table}
use Rattle.spl_places.specs.Spots.{spot_of}
use Rattle.spl_body_scopes.specs.Bases.{below_in, gap_of}
use Rattle.spl_body_scopes.proofs.places.parameter_places.Given as goal

-- the words from here on, and the places so far with those from here on
abbrev pub invariant-loop-formal : goal.invariant-loop-formal
invariant-loop-formal l = record {
  left : l.left ≡ formals_words (map formal_of (drop l.formal-index l.formals));
  places :
      behind_table (shown spot_of (find (entries_of l.places))) (parameter_places (below_in l.base) (gap_of l.base) (map formal_of (drop l.formal-index l.formals)))
      ≡ find (parameter_places (below_in l.base) (gap_of l.base) (map formal_of l.formals));
}
