-- Levels of names: a unit's list, a procedure's, a subroutine's parameters. Each has names with what they stand for, and the places of those that
-- have words.
use Rattle.std.specs.Prelude.{ℕ, Bool, if◌then◌else◌, [], ◌++◌, List, map, Option}
use Rattle.spl_tree.specs.DeclarationTrees.{Heading, Declarations}
use Rattle.spl_sorts.specs.spl_meaning.Names.{Names, find, or_else, nothing_declared, parameters, formals_of}
use Rattle.spl_sorts.specs.spl_meaning.Places.{Place, data_word, above_base, below_base, below_return, places_from}
use Rattle.spl_sorts.specs.spl_meaning.Bodies.{marker_gap, parameter_places}
use Rattle.spl_places.specs.spl_found.OwnNames.{behind_declarations}
use Rattle.spl_sorts.specs.Tables.{table_of}
use Rattle.spl_places.specs.NameMaps.{entries_of, shown}
use Rattle.spl_places.specs.Spots.{spot_of}
use Rattle.spl_places.specs.ListedData.{Datum, list_data}
use Rattle.spl_places.specs.Held.{named}
use Rattle.spl_places.specs.Gathered.{items_under}
use Rattle.spl_scopes.specs.spl_code.Calls.{Scope}
use Rattle.spl_body_scopes.specs.declared.levels.Level as code

-- the places of names
abbrev pub Spots : Type 0
Spots = List ℕ → Option Place

pub record Level : Type 0 where
  pub names : Names
  pub places : Spots

-- a level as the code keeps it
abbrev pub level_of : code.Level → Level
level_of l = record { names = find (table_of l.names); places = shown spot_of (find (entries_of l.places)) }

-- ---- the levels of a unit, a procedure and a subroutine

-- the places of a unit's globals, the first of which stands there
abbrev pub globals_from : ℕ → Declarations → Spots
globals_from primary ds = find (places_from data_word 0 primary (map named (list_data nothing_declared nothing_declared ds)))

-- no names, and the places of these items, the first of which stands there
abbrev pub level_with : ℕ → List Datum → Level
level_with primary items = record { names = nothing_declared; places = find (places_from data_word 0 primary (map named items)) }

-- the globals among a unit's items: a subprogram has none
abbrev pub globals_among : Bool → List Datum → List Datum
globals_among subprogram items = if subprogram then [] else items

-- before a unit's first declaration: no names, and the places of all its globals
abbrev pub unit_level : ℕ → Declarations → Level
unit_level primary ds = record { names = nothing_declared; places = globals_from primary ds }

-- a procedure, with the names outside it, the first OWN item of which stands there: its parameters and its list
abbrev pub routine_level : Names → ℕ → Heading → Declarations → Level
routine_level outer own h ds = record {
  names = behind_declarations outer (find (parameters (formals_of h))) ds;
  places = find (parameter_places below_base marker_gap (formals_of h) ++ places_from above_base own 1 (map named (items_under outer h ds)));
}

-- a subroutine: its parameters
abbrev pub inner_level : Heading → Level
inner_level h = record { names = find (parameters (formals_of h)); places = find (parameter_places below_return 0 (formals_of h)) }

-- ---- scopes

-- what is seen through three levels, of which the first hides the second, and that the third
abbrev pub through : {A : Type 0} → (List ℕ → Option A) → (List ℕ → Option A) → (List ℕ → Option A) → List ℕ → Option A
through inner own outer x = or_else (inner x) (or_else (own x) (outer x))

-- a scope of three levels, with the entries that are called
abbrev pub scope_through : Level → Level → Level → (List ℕ → Option ℕ) → (List ℕ → Option ℕ) → Scope
scope_through inner own outer procedures subroutines = record {
  names = through inner.names own.names outer.names;
  places = through inner.places own.places outer.places;
  procedures = procedures;
  subroutines = subroutines;
}
