-- Whose scope it is that three levels show, with these entries: that of a procedure, of a subroutine, of a main body, of one of its subroutines.
use Rattle.std.specs.Prelude.{◌≡◌, ℕ, false, List, Option, Some, None}
use Rattle.std.specs.List.{slice_get}
use Rattle.spl_tree.specs.DeclarationTrees as decl
use Rattle.spl_tree.specs.DeclarationTrees.{Heading, Declarations, declarations}
use Rattle.spl_tree.specs.StatementTrees as stat
use Rattle.spl_sorts.specs.spl_meaning.Names.{Names, find}
use Rattle.spl_places.specs.NameMaps.{entries_of}
use Rattle.spl_code_scopes.specs.declared.scopes.Entries.{Entries}
use Rattle.spl_scopes.specs.Entries.{Owner, main, routine, module_entries, procedure_index, subroutine_index}
use Rattle.spl_scopes.specs.Scopes.{Placed, outer, inner, scope_in, results_in}
use Rattle.spl_scopes.specs.spl_code.Calls.{Scope}
use Rattle.spl_body_scopes.specs.Levels.{Level, routine_level, inner_level}
use Rattle.spl_body_scopes.specs.declared.places.Base.TheVariants as base
use Rattle.spl_body_scopes.specs.Results.{result_of, heading_result, routine_result, results_through}
use Rattle.spl_body_scopes.specs.Walks.{State, behind, Left, globals_in, inner_headings}

-- the entries that a body calls: the procedures of its segment, and its own subroutines
pub record Calls : Type 0 where
  pub procedures : List ℕ → Option ℕ
  pub subroutines : List ℕ → Option ℕ

-- as the code has them
abbrev pub calls_in : Entries → Calls
calls_in e = record { procedures = find (entries_of e.procedures.now); subroutines = find (entries_of e.subroutines.now) }

-- those of a body of a unit that stands in a segment
abbrev pub calls_of : Placed → ℕ → Owner → Calls
calls_of p g o = record { procedures = procedure_index (module_entries p.unit g); subroutines = subroutine_index o (module_entries p.unit g) }

-- of a procedure: its own level twice, and its unit's behind its heading
abbrev pub ShowsRoutine : Level → Level → Level → Calls → Scope → Type 0
ShowsRoutine a b c calls scope = (p : Placed) (s : State) (here : Names) (h : Heading) (items : Declarations) (ss : List stat.Statement) (ds : Declarations)
    → Left p s (decl.and (decl.Declaration.procedure h items ss) ds) → here ≡ (behind s (decl.Declaration.procedure h items ss)).names
    → a ≡ routine_level here s.own h items → b ≡ routine_level here s.own h items → c ≡ globals_in p here → calls ≡ calls_of p h.segment (routine s.count)
    → scope_in p (outer (routine s.count)) ≡ Some scope

-- of the j-th subroutine of a procedure: its parameters, and those two
abbrev pub ShowsInner : Level → Level → Level → Calls → Scope → Type 0
ShowsInner a b c calls scope = (p : Placed) (s : State) (here : Names) (h : Heading) (items : Declarations) (ss : List stat.Statement) (ds : Declarations)
    (j : ℕ) (sub : Heading)
    → Left p s (decl.and (decl.Declaration.procedure h items ss) ds) → here ≡ (behind s (decl.Declaration.procedure h items ss)).names
    → slice_get (inner_headings items) j ≡ Some sub
    → a ≡ inner_level sub → b ≡ routine_level here s.own h items → c ≡ globals_in p here → calls ≡ calls_of p h.segment (routine s.count)
    → scope_in p (inner (routine s.count) j) ≡ Some scope

-- of a main body: its unit's level behind all declarations
abbrev pub ShowsMain : Level → Level → Level → Calls → Scope → Type 0
ShowsMain a b c calls scope = (p : Placed) (s : State) → Left p s decl.none → p.unit.subprogram ≡ false
    → a ≡ globals_in p s.names → b ≡ globals_in p s.names → c ≡ globals_in p s.names → calls ≡ calls_of p p.unit.tree.segment main
    → scope_in p (outer main) ≡ Some scope

-- of the j-th of its subroutines
abbrev pub ShowsMainInner : Level → Level → Level → Calls → Scope → Type 0
ShowsMainInner a b c calls scope = (p : Placed) (s : State) (j : ℕ) (sub : Heading) → Left p s decl.none → p.unit.subprogram ≡ false
    → slice_get (inner_headings (declarations p.unit.tree.items)) j ≡ Some sub
    → a ≡ inner_level sub → b ≡ globals_in p s.names → c ≡ globals_in p s.names → calls ≡ calls_of p p.unit.tree.segment main
    → scope_in p (inner main j) ≡ Some scope

-- ---- results

-- a procedure's result, which its list may hide
abbrev pub RoutineResults : Type 0
RoutineResults = (p : Placed) (s : State) (here : Names) (h : Heading) (items : Declarations) (ss : List stat.Statement) (ds : Declarations)
    → Left p s (decl.and (decl.Declaration.procedure h items ss) ds) → here ≡ (behind s (decl.Declaration.procedure h items ss)).names
    → results_in p (outer (routine s.count)) ≡ Some (routine_result (routine_level here s.own h items).names h)

-- and that of its j-th subroutine before it
abbrev pub InnerResults : Type 0
InnerResults = (p : Placed) (s : State) (here : Names) (h : Heading) (items : Declarations) (ss : List stat.Statement) (ds : Declarations) (j : ℕ) (sub : Heading)
    → Left p s (decl.and (decl.Declaration.procedure h items ss) ds) → here ≡ (behind s (decl.Declaration.procedure h items ss)).names
    → slice_get (inner_headings items) j ≡ Some sub
    → results_in p (inner (routine s.count) j)
    ≡ Some (results_through (heading_result base.Return sub) (routine_result (routine_level here s.own h items).names h))

-- a main body has none, and its subroutines their own
abbrev pub MainResults : Type 0
MainResults = (p : Placed) → p.unit.subprogram ≡ false → results_in p (outer main) ≡ Some (result_of None)

abbrev pub MainInnerResults : Type 0
MainInnerResults = (p : Placed) (j : ℕ) (sub : Heading) → p.unit.subprogram ≡ false
    → slice_get (inner_headings (declarations p.unit.tree.items)) j ≡ Some sub
    → results_in p (inner main j) ≡ Some (results_through (heading_result base.Return sub) (result_of None))
