-- The bodies of a program: the main body, procedures and subroutines, each with its names, places and room.
use Rattle.std.specs.Prelude.{ℕ, ◌+◌, Bool, true, false, if◌then◌else◌, List, [], ◌∷◌, ◌++◌, Option, Some, None, is_some}
use Rattle.spl_tree.specs.declared.expressions.Kind.{Kind}
use Rattle.spl_tree.specs.DeclarationTrees.{declarations}
use Rattle.spl_tree.specs.StatementTrees as stat
use Rattle.spl_tree.specs.StatementTrees.{Statements, statements}
use Rattle.spl_meaning.specs.Stops.{declarations_stops}
use Rattle.spl_meaning.specs.Names.{Sort, Table, Formal, Profile, find, or_else, nothing_declared, same_name, parameters, formals_of, profile_of}
use Rattle.spl_meaning.specs.Tables.{Source, Routine, Subroutine, unit_table, routines_of, outer_names, routine_table, routine_names, routine_subroutines, unit_subroutines, subroutine_names}
use Rattle.spl_meaning.specs.Places.{Place, data_word, above_base, below_base, below_return, Starts, Cell, Initial, Laid, laid, sum, list_words, list_array_words}
use Rattle.spl_meaning.specs.Pending.{formal_words, formals_words, result_words, depth}
use Rattle.spl_meaning.specs.References.{Here}

-- a body to be run, with the words and cells that its entry makes
pub record Body : Type 0 where
  pub here : Here
  pub profile : Profile
  pub statements : Statements
  -- the number of its first statement in its unit
  pub number : ℕ
  -- the words of its local items and arrays
  pub words : ℕ
  -- the room that it needs above its frame
  pub depth' : ℕ
  pub cells : List Cell
  pub initials : List Initial
  -- the subroutines that it may call
  pub subroutines : List Subroutine

-- ---- places of parameters and results

-- the gap between the last word of a marker and the parameters below it
abbrev pub marker_gap : ℕ
marker_gap = 3

-- Parameters stand one behind the other below a link, which is `gap` words above the last of them.
abbrev pub parameter_places : (ℕ → Place) → ℕ → List Formal → Table Place
parameter_places below gap [] = []
parameter_places below gap (f ∷ fs) = (f.name, below (gap + formal_words f + formals_words fs)) ∷ parameter_places below gap fs

-- the result stands below the parameters
abbrev pub result_place : (ℕ → Place) → ℕ → Profile → Place
result_place below gap p = below (gap + formals_words p.formals + result_words p)

-- the result of a heading by its name
abbrev pub result_by : List ℕ → Option Kind → Place → List ℕ → Option (Kind × Place)
result_by name None place x = None
result_by name (Some k) place x = if same_name x name then Some (k, place) else None

-- the result of a procedure by its name, which its own list may hide
abbrev pub own_result : Table Sort → List ℕ → Option Kind → Place → List ℕ → Option (Kind × Place)
own_result table name k place x = if is_some (find table name) then None else result_by name k place x

-- ---- settings

-- the words below the last one of a procedure's marker: its other three, the parameters and the result
abbrev pub words_below : Profile → ℕ
words_below p = marker_gap + formals_words p.formals + result_words p

-- the words below a subroutine's return word: the parameters and the result
abbrev pub words_held : Profile → ℕ
words_held p = formals_words p.formals + result_words p

-- ---- subroutines

-- The body of a subroutine, in that around it: below its return word stand its parameters and its result.
abbrev pub subroutine_body : Body → Subroutine → Body
subroutine_body b s =
    let p = profile_of s.heading in
    let names = subroutine_names b.here.names s in
    let body = stat.Statements.and s.statement stat.Statements.none in
    record {
      here = record {
        names = names;
        places = λ x. or_else (find (parameter_places below_return 0 p.formals) x) (b.here.places x);
        results = λ x. or_else (result_by s.heading.name p.result (result_place below_return 0 p) x) (b.here.results x);
        setting = record b.here.setting { inside = true; held = words_held p };
      };
      profile = p;
      statements = body;
      number = s.before;
      words = 0;
      depth' = depth names body;
      cells = [];
      initials = [];
      subroutines = b.subroutines;
    }

-- ---- the areas of a program's data

-- the primary area has the globals of the units that are no subprograms, unit by unit, and then the OWN items of all units
abbrev pub own_table : Source → Table Sort
own_table u = if u.subprogram then [] else unit_table u

-- the procedures of all units, in order
abbrev pub all_routines : List Source → List Routine
all_routines [] = []
all_routines (u ∷ us) = routines_of u ++ all_routines us

-- the words of all globals
abbrev pub global_words : List Source → ℕ
global_words us = sum (λ u. list_words false (own_table u)) us

-- the words of all OWN items
abbrev pub own_words : List Source → ℕ
own_words us = sum (λ r. list_words true (routine_table r)) (all_routines us)

-- both make the primary area
abbrev pub primary_words : List Source → ℕ
primary_words us = global_words us + own_words us

-- the secondary area has the data of arrays in the same order
abbrev pub global_array_words : List Source → ℕ
global_array_words us = sum (λ u. list_array_words false (own_table u)) us

-- the words of OWN arrays' data
abbrev pub own_array_words : List Source → ℕ
own_array_words us = sum (λ r. list_array_words true (routine_table r)) (all_routines us)

-- all data words
abbrev pub data_words : List Source → ℕ
data_words us = primary_words us + global_array_words us + own_array_words us

-- ---- units and procedures with their places

-- a unit's list, whose words and arrays begin at these addresses
abbrev pub laid_unit : ℕ → ℕ → Source → Laid
laid_unit primary secondary u =
    laid false nothing_declared [] data_word (record { own = 0; own_arrays = 0; here = primary; here_arrays = secondary }) (unit_table u)
    (declarations u.tree.items)

-- where a procedure's OWN items and arrays begin; its others stand above the marker, its arrays behind them
abbrev pub routine_starts : ℕ → ℕ → Routine → Starts
routine_starts own own_arrays r = record {
  own = own;
  own_arrays = own_arrays;
  here = 1;
  here_arrays = 1 + list_words false (routine_table r);
}

-- a procedure's list, of items that are OWN or not
abbrev pub laid_routine : Bool → ℕ → ℕ → Routine → Laid
laid_routine kept own own_arrays r =
    laid kept (outer_names r) (parameters (formals_of r.heading)) above_base (routine_starts own own_arrays r) (routine_table r) r.items

-- the body of a procedure, in a unit with these places
abbrev pub procedure_body : Table Place → ℕ → ℕ → Routine → Body
procedure_body globals own own_arrays r =
    let p = profile_of r.heading in
    let l = laid_routine false own own_arrays r in
    let body = statements r.statements in
    record {
      here = record {
        names = routine_names r;
        places = λ x. or_else (find (parameter_places below_base marker_gap p.formals ++ l.places) x) (find globals x);
        results = own_result (routine_table r) r.heading.name p.result (result_place below_base marker_gap p);
        setting = record { split = r.heading.split; inside = false; below = words_below p; held = 0 };
      };
      profile = p;
      statements = body;
      number = r.before + declarations_stops r.items;
      words = list_words false (routine_table r) + list_array_words false (routine_table r);
      depth' = depth (routine_names r) body;
      cells = l.cells;
      initials = l.initials;
      subroutines = routine_subroutines r;
    }

-- ---- a program

-- a procedure by its name
pub record Named : Type 0 where
  pub name : List ℕ
  pub body : Body

-- a program: its procedures, its main body where it has one, and its data
pub record Program : Type 0 where
  pub procedures : List Named
  pub main : Option Body
  -- the number of its data words, with their cells and initial values
  pub words : ℕ
  pub cells : List Cell
  pub initials : List Initial

-- the procedures of a unit, whose OWN items begin at these addresses
abbrev pub named_bodies : Table Place → ℕ → ℕ → List Routine → List Named
named_bodies globals own own_arrays [] = []
named_bodies globals own own_arrays (r ∷ rs) =
    record { name = r.heading.name; body = procedure_body globals own own_arrays r }
    ∷ named_bodies globals (own + list_words true (routine_table r)) (own_arrays + list_array_words true (routine_table r)) rs

-- the cells and initial values of OWN items
abbrev pub own_cells : ℕ → ℕ → List Routine → List Cell
own_cells own own_arrays [] = []
own_cells own own_arrays (r ∷ rs) =
    (laid_routine true own own_arrays r).cells
    ++ own_cells (own + list_words true (routine_table r)) (own_arrays + list_array_words true (routine_table r)) rs

-- the initial values of OWN items
abbrev pub own_initials : ℕ → ℕ → List Routine → List Initial
own_initials own own_arrays [] = []
own_initials own own_arrays (r ∷ rs) =
    (laid_routine true own own_arrays r).initials
    ++ own_initials (own + list_words true (routine_table r)) (own_arrays + list_array_words true (routine_table r)) rs

-- the main body of a unit with these places
abbrev pub main_body : Table Place → Source → Body
main_body globals u =
    let names = find (unit_table u) in
    let body = statements u.tree.statements in
    record {
      here = record {
        names = names;
        places = find globals;
        results = λ x. None;
        setting = record { split = false; inside = false; below = marker_gap; held = 0 };
      };
      profile = record { result = None; formals = []; split = false };
      statements = body;
      number = declarations_stops (declarations u.tree.items);
      words = 0;
      depth' = depth names body;
      cells = [];
      initials = [];
      subroutines = unit_subroutines u;
    }

-- where the next unit's data begin
pub record Reached : Type 0 where
  pub primary : ℕ
  pub secondary : ℕ
  pub own : ℕ
  pub own_arrays : ℕ

-- behind a unit
abbrev pub reached_behind : Source → Reached → Reached
reached_behind u at = record {
  primary = at.primary + list_words false (own_table u);
  secondary = at.secondary + list_array_words false (own_table u);
  own = at.own + sum (λ r. list_words true (routine_table r)) (routines_of u);
  own_arrays = at.own_arrays + sum (λ r. list_array_words true (routine_table r)) (routines_of u);
}

-- a unit in front of a program's others
abbrev pub with_unit : Reached → Source → Program → Program
with_unit at u p =
    let l = laid_unit at.primary at.secondary u in
    let rs = routines_of u in
    record {
      procedures = named_bodies l.places at.own at.own_arrays rs ++ p.procedures;
      main = if u.subprogram then p.main else Some (main_body l.places u);
      words = p.words;
      cells = (if u.subprogram then [] else l.cells) ++ own_cells at.own at.own_arrays rs ++ p.cells;
      initials = (if u.subprogram then [] else l.initials) ++ own_initials at.own at.own_arrays rs ++ p.initials;
    }

-- the units from one on, where the areas have come so far
abbrev pub program_from : ℕ → Reached → List Source → Program
program_from words at [] = record { procedures = []; main = None; words = words; cells = []; initials = [] }
program_from words at (u ∷ us) = with_unit at u (program_from words (reached_behind u at) us)

-- the program of some units
abbrev pub program_of : List Source → Program
program_of us = program_from (data_words us) (record {
  primary = 0;
  secondary = primary_words us;
  own = global_words us;
  own_arrays = primary_words us + global_array_words us;
}) us

-- the procedure of this name
abbrev pub body_named : List Named → List ℕ → Option Body
body_named [] x = None
body_named (b ∷ bs) x = if same_name x b.name then Some b.body else body_named bs x
