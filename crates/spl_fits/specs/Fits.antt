-- Sums of words within their limits.
use Rattle.std.specs.Prelude.{◌≡◌, ◌≤◌, ℕ, ◌+◌, false, List, Some, None}
use Rattle.spl_globals.specs.spl_meaning.Names.{find, formals_of, profile_of}
use Rattle.spl_globals.specs.spl_meaning.Tables.{Source, Routine, routine_table}
use Rattle.spl_globals.specs.spl_meaning.Places.{item_words, list_words, list_array_words}
use Rattle.spl_globals.specs.spl_meaning.Pending.{formals_words, result_words}
use Rattle.spl_globals.specs.spl_meaning.Bodies.{all_routines, primary_words, data_words}
use Rattle.spl_globals.specs.spl_meaning.Limits.{first_full, most_primary, most_locals, most_parameters, most_data}
use Rattle.spl_globals.specs.spl_places.Programs.{Each, NewInAll}
use Rattle.spl_globals.specs.spl_places.Apart.{Spot, spots_from}

-- a procedure: its local items, these with the data of their arrays, and its result and parameters
pub record RoutineFits (r : Routine) : Type 0 where
  pub locals : list_words false (routine_table r) ≤ most_locals
  pub words : list_words false (routine_table r) + list_array_words false (routine_table r) ≤ most_data
  pub heading : result_words (profile_of r.heading) + formals_words (formals_of r.heading) ≤ most_parameters

-- a program: the primary area, both areas, and each procedure
pub record ProgramFits (us : List Source) : Type 0 where
  pub primary : primary_words us ≤ most_primary
  pub data_area : data_words us ≤ most_data
  pub routines : Each RoutineFits (all_routines us)

-- units in whose lists each item's name is new, as it is where they break no rule
abbrev pub ProgramsFit : Type 0
ProgramsFit = (us : List Source) → NewInAll us → first_full us ≡ None → ProgramFits us

-- an item of a procedure's list that is not OWN ends at most 127 words above the base; the first stands one above it
abbrev pub LocalsFit : Type 0
LocalsFit = (own : ℕ) (r : Routine) (x : List ℕ) (p : Spot) → RoutineFits r → find (spots_from own 1 (routine_table r)) x ≡ Some p → p.own ≡ false
    → (1 ≤ p.word) × (p.word + item_words p.sort ≤ most_locals + 1)
