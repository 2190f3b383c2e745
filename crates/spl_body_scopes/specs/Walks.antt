-- A walk along the declarations of a unit, from body to body, and the scopes that it finds.
use Rattle.std.specs.Prelude.{◌≡◌, ℕ, ◌+◌, true, false, List, [], ◌∷◌, ◌++◌, drop, Some}
use Rattle.std.specs.List.{slice_get}
use Rattle.spl_tree.specs.DeclarationTrees as decl
use Rattle.spl_tree.specs.DeclarationTrees.{Heading, Declaration, Declarations, declarations}
use Rattle.spl_tree.specs.StatementTrees as stat
use Rattle.spl_sorts.specs.spl_meaning.Names.{Names, Sort, Table, find, nothing_declared}
use Rattle.spl_sorts.specs.spl_meaning.Tables.{Source, Routine, routine_table, routines_of, routines_among, unit_table, with_declarations}
use Rattle.spl_sorts.specs.spl_meaning.Places.{item_words, list_words, sum}
use Rattle.spl_sorts.specs.spl_meaning.Bodies.{named_bodies}
use Rattle.spl_places.specs.spl_found.OwnNames.{behind_declaration}
use Rattle.spl_places.specs.Counters.{total_words}
use Rattle.spl_places.specs.Programs.{Each, NewInUnit, NewInRoutine, NewInAll}
use Rattle.spl_places.specs.Gathered.{items_in}
use Rattle.spl_scopes.specs.Entries.{Owner, main, routine, routines_behind, module_entries, procedure_index, subroutine_index}
use Rattle.spl_scopes.specs.Scopes.{Placed, unit_at, global_places, routine_bodies, outer, inner, scope_in}
use Rattle.spl_scopes.specs.spl_code.Calls.{Scope}
use Rattle.spl_body_scopes.specs.Levels.{Level, globals_from, routine_level, inner_level, scope_through}

-- what is known before a declaration: how many procedures stand before it, the names so far, and where the next OWN item stands
pub record State : Type 0 where
  pub count : ℕ
  pub names : Names
  pub own : ℕ

-- before a unit's first
abbrev pub first_state : Placed → State
first_state p = record { count = 0; names = nothing_declared; own = p.at.own }

-- behind one
abbrev pub behind : State → Declaration → State
behind s d =
    let names = behind_declaration nothing_declared s.names d in
    record { count = routines_behind s.count d; names = names; own = s.own + total_words true item_words (items_in names d) }

-- the words of the OWN items of procedures
abbrev pub routines_own : List Routine → ℕ
routines_own rs = sum (λ r. list_words true (routine_table r)) rs

-- the declarations that a unit has left in a state: they make the rest of its list, of its procedures and of their bodies
pub record Left (p : Placed) (s : State) (ds : Declarations) : Type 0 where
  pub table : Table Sort
  pub before : ℕ
  pub own_arrays : ℕ
  pub names : s.names ≡ find table
  pub whole : with_declarations nothing_declared table ds ≡ unit_table p.unit
  pub routines : drop s.count (routines_of p.unit) ≡ routines_among table before ds
  pub bodies : drop s.count (routine_bodies p) ≡ named_bodies (global_places p) s.own own_arrays (routines_among table before ds)
  pub new : Each NewInRoutine (routines_among table before ds)
  pub total : s.own + routines_own (routines_among table before ds) ≡ p.at.own + routines_own (routines_of p.unit)
  pub new_globals : NewInUnit p.unit

-- a unit's own level with these names: the places are those of all its globals
abbrev pub globals_in : Placed → Names → Level
globals_in p names = record { names = names; places = globals_from p.at.primary (declarations p.unit.tree.items) }

-- the scope of a body that stands in a segment, through three levels
abbrev pub module_scope : Placed → ℕ → Owner → Level → Level → Level → Scope
module_scope p g o a b c = scope_through a b c (procedure_index (module_entries p.unit g)) (subroutine_index o (module_entries p.unit g))

-- the headings of a body's subroutines, in order
abbrev pub inner_heading : Declaration → List Heading
inner_heading (decl.Declaration.subroutine h s) = h ∷ []
inner_heading d = []

abbrev pub inner_headings : Declarations → List Heading
inner_headings decl.none = []
inner_headings (decl.and d ds) = inner_heading d ++ inner_headings ds

-- ---- laws

-- before its first declaration a unit has all left
abbrev pub WalksBegin : Type 0
WalksBegin = (us : List Source) (n : ℕ) (p : Placed) → NewInAll us → unit_at us n ≡ Some p → Left p (first_state p) (declarations p.unit.tree.items)

-- behind a declaration it has those behind it left
abbrev pub WalksGoOn : Type 0
WalksGoOn = (p : Placed) (s : State) (d : Declaration) (ds : Declarations) → Left p s (decl.and d ds) → Left p (behind s d) ds

-- a procedure, the names behind whose heading are `here`, and its subroutines
abbrev pub RoutineScopes : Type 0
RoutineScopes = (p : Placed) (s : State) (here : Names) (h : Heading) (items : Declarations) (ss : List stat.Statement) (ds : Declarations)
    → Left p s (decl.and (decl.Declaration.procedure h items ss) ds)
    → here ≡ (behind s (decl.Declaration.procedure h items ss)).names
    → scope_in p (outer (routine s.count))
    ≡ Some (module_scope p h.segment (routine s.count) (routine_level here s.own h items) (routine_level here s.own h items) (globals_in p here))

abbrev pub InnerScopes : Type 0
InnerScopes = (p : Placed) (s : State) (here : Names) (h : Heading) (items : Declarations) (ss : List stat.Statement) (ds : Declarations) (j : ℕ) (sub : Heading)
    → Left p s (decl.and (decl.Declaration.procedure h items ss) ds)
    → here ≡ (behind s (decl.Declaration.procedure h items ss)).names
    → slice_get (inner_headings items) j ≡ Some sub
    → scope_in p (inner (routine s.count) j)
    ≡ Some (module_scope p h.segment (routine s.count) (inner_level sub) (routine_level here s.own h items) (globals_in p here))

-- the main body, where all declarations are behind, and its subroutines
abbrev pub MainScopes : Type 0
MainScopes = (p : Placed) (s : State) → Left p s decl.none → p.unit.subprogram ≡ false
    → scope_in p (outer main) ≡ Some (module_scope p p.unit.tree.segment main (globals_in p s.names) (globals_in p s.names) (globals_in p s.names))

abbrev pub MainInnerScopes : Type 0
MainInnerScopes = (p : Placed) (s : State) (j : ℕ) (sub : Heading) → Left p s decl.none → p.unit.subprogram ≡ false
    → slice_get (inner_headings (declarations p.unit.tree.items)) j ≡ Some sub
    → scope_in p (inner main j) ≡ Some (module_scope p p.unit.tree.segment main (inner_level sub) (globals_in p s.names) (globals_in p s.names))
