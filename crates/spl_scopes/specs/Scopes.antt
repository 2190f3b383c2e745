-- The scope of every body of a program: the names that are seen in it and where their words stand, as the meaning of sources has them for that
-- body, and which entries of its module it calls.
use Rattle.std.specs.Prelude.{ℕ, ◌+◌, if◌then◌else◌, List, [], ◌∷◌, Option, Some, None, option_map}
use Rattle.std.specs.List.{slice_get}
use Rattle.spl_code.specs.spl_tree.declared.expressions.Kind.{Kind}
use Rattle.spl_code.specs.spl_meaning.Names.{Table}
use Rattle.spl_code.specs.spl_meaning.Tables.{Source, Routine, routines_of}
use Rattle.spl_code.specs.spl_meaning.Places.{Place}
use Rattle.spl_code.specs.spl_meaning.Bodies.{Body, Named, Reached, reached_behind, laid_unit, named_bodies, main_body, subroutine_body, global_words, primary_words, global_array_words}
use Rattle.spl_code.specs.Calls.{Scope}
use Rattle.spl_scopes.specs.Entries.{Owner, main, routine, Entry, module_entries, procedure_index, subroutine_index}

-- ---- units with their data

-- a unit, and where its data begin
pub record Placed : Type 0 where
  pub at : Reached
  pub unit : Source

-- where the data of a program's first unit begin
abbrev pub first_reached : List Source → Reached
first_reached us = record {
  primary = 0;
  secondary = primary_words us;
  own = global_words us;
  own_arrays = primary_words us + global_array_words us;
}

-- units one behind the other
abbrev pub placed_units : Reached → List Source → List Placed
placed_units at [] = []
placed_units at (u ∷ us) = record { at = at; unit = u } ∷ placed_units (reached_behind u at) us

-- a unit of a program by its number
abbrev pub unit_at : List Source → ℕ → Option Placed
unit_at us n = slice_get (placed_units (first_reached us) us) n

-- ---- bodies

-- the places of a unit's globals
abbrev pub global_places : Placed → Table Place
global_places p = (laid_unit p.at.primary p.at.secondary p.unit).places

-- the bodies of its procedures, in order
abbrev pub routine_bodies : Placed → List Named
routine_bodies p = named_bodies (global_places p) p.at.own p.at.own_arrays (routines_of p.unit)

-- its main body, where it is no subprogram, or a procedure
abbrev pub outer_body : Placed → Owner → Option Body
outer_body p main = if p.unit.subprogram then None else Some (main_body (global_places p) p.unit)
outer_body p (routine i) = option_map (λ b. b.body) (slice_get (routine_bodies p) i)

-- which body is meant: the main body or a procedure, or a subroutine of one of them, by its number among these
pub data Which : Type 0 where
  outer : Owner → Which
  inner : Owner → ℕ → Which

-- the main body or the procedure that it is, or whose subroutine it is
abbrev pub owner_of : Which → Owner
owner_of (outer o) = o
owner_of (inner o j) = o

-- a subroutine of a body
abbrev pub inner_body : Option Body → ℕ → Option Body
inner_body None j = None
inner_body (Some b) j = option_map (subroutine_body b) (slice_get b.subroutines j)

-- a body of a unit
abbrev pub body_in : Placed → Which → Option Body
body_in p (outer o) = outer_body p o
body_in p (inner o j) = inner_body (outer_body p o) j

-- ---- scopes

-- the segment of a procedure
abbrev pub segment_of : Option Routine → ℕ
segment_of None = 0
segment_of (Some r) = r.heading.segment

-- the segment in which a body stands: the main body, a procedure, and with them their subroutines
abbrev pub body_segment : Source → Owner → ℕ
body_segment u main = u.tree.segment
body_segment u (routine i) = segment_of (slice_get (routines_of u) i)

-- The scope of a body in a module with these entries: it calls the procedures of the module, and the subroutines of that body in whose list
-- they are declared.
abbrev pub scope_with : List Entry → Owner → Body → Scope
scope_with es o b = record {
  names = b.here.names;
  places = b.here.places;
  procedures = procedure_index es;
  subroutines = subroutine_index o es;
}

-- the scope of a body of a unit
abbrev pub scope_in : Placed → Which → Option Scope
scope_in p w = option_map (scope_with (module_entries p.unit (body_segment p.unit (owner_of w))) (owner_of w)) (body_in p w)

abbrev pub scope_by : Option Placed → Which → Option Scope
scope_by None w = None
scope_by (Some p) w = scope_in p w

-- the scope of a body of a program, where there is one
abbrev pub scope_at : List Source → ℕ → Which → Option Scope
scope_at us n w = scope_by (unit_at us n) w

-- ---- results

-- what names on the left of := stand for as results, in a body: their kinds and places
abbrev pub Results : Type 0
Results = List ℕ → Option (Kind × Place)

abbrev pub results_in : Placed → Which → Option Results
results_in p w = option_map (λ b. b.here.results) (body_in p w)

abbrev pub results_by : Option Placed → Which → Option Results
results_by None w = None
results_by (Some p) w = results_in p w

-- the results that a body of a program may assign, where there is one
abbrev pub results_at : List Source → ℕ → Which → Option Results
results_at us n w = results_by (unit_at us n) w
