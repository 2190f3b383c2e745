-- Scopes as the definition of code has them.
use Rattle.std.specs.Prelude.{ℕ, List, option_map, Option}
use Rattle.spl_sorts.specs.spl_meaning.Names.{find, or_else}
use Rattle.spl_sorts.specs.spl_meaning.Places.{Place}
use Rattle.spl_sorts.specs.Tables.{names_of}
use Rattle.spl_spots.specs.NameMaps.{entries_of}
use Rattle.spl_spots.specs.Spots.{spot_of}
use Rattle.spl_code.specs.Calls as code
use Rattle.spl_code_scopes.specs.declared.scopes.Places as declared
use Rattle.spl_code_scopes.specs.declared.scopes.Scope.{Scope}

-- where the words of a name stand
abbrev pub places_of : declared.Places → List ℕ → Option Place
places_of p x =
    or_else (option_map spot_of (find (entries_of p.inner.now) x))
    (or_else (option_map spot_of (find (entries_of p.own.now) x)) (option_map spot_of (find (entries_of p.outer.now) x)))

-- a scope
abbrev pub scope_of : Scope → code.Scope
scope_of s = record {
  names = names_of s.names;
  places = places_of s.places;
  procedures = find (entries_of s.entries.procedures.now);
  subroutines = find (entries_of s.entries.subroutines.now);
}
