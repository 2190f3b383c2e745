-- Whose statements it is that see a scope: those of a procedure, of a subroutine, of a main body, of one of its subroutines.
use Rattle.std.specs.Prelude.{◌≡◌, ℕ, false, List, Option, Some, None, option_map}
use Rattle.std.specs.List.{slice_get}
use Rattle.spl_tree.specs.DeclarationTrees as decl
use Rattle.spl_tree.specs.DeclarationTrees.{Heading, Declarations, declarations}
use Rattle.spl_tree.specs.StatementTrees as stat
use Rattle.spl_sorts.specs.spl_meaning.Names.{Names}
use Rattle.spl_module_code.specs.spl_scopes.Entries.{main, routine, module_entries}
use Rattle.spl_module_code.specs.spl_scopes.Scopes.{Placed, Which, outer, inner, owner_of, body_in, body_segment}
use Rattle.spl_module_code.specs.spl_code.Calls.{Scope}
use Rattle.spl_module_code.specs.Bodies.{statements_scope}
use Rattle.spl_body_scopes.specs.Levels.{Level, routine_level, inner_level}
use Rattle.spl_body_scopes.specs.declared.places.Base.TheVariants as base
use Rattle.spl_body_scopes.specs.Results.{result_of, heading_result, routine_result, results_through}
use Rattle.spl_body_scopes.specs.Walks.{State, behind, Left, globals_in, inner_headings}
use Rattle.spl_body_scopes.specs.Found.{Calls, calls_of}
use Rattle.spl_statement_scopes.specs.Levels.{no_names, with_results}

-- the scope of the statements of a body of a unit, in its module
abbrev pub statements_in : Placed → Which → Option Scope
statements_in p w = option_map (statements_scope (module_entries p.unit (body_segment p.unit (owner_of w))) (owner_of w)) (body_in p w)

-- of a procedure: its result, its level, and its unit's behind its heading
abbrev pub StatesRoutine : Level → Level → Level → Calls → Scope → Type 0
StatesRoutine a b c calls scope = (p : Placed) (s : State) (here : Names) (h : Heading) (items : Declarations) (ss : List stat.Statement) (ds : Declarations)
    → Left p s (decl.and (decl.Declaration.procedure h items ss) ds) → here ≡ (behind s (decl.Declaration.procedure h items ss)).names
    → a ≡ with_results no_names b c (routine_result b.names h)
    → b ≡ routine_level here s.own h items → c ≡ globals_in p here → calls ≡ calls_of p h.segment (routine s.count)
    → statements_in p (outer (routine s.count)) ≡ Some scope

-- of the j-th subroutine of a procedure: its parameters with both results, and those two
abbrev pub StatesInner : Level → Level → Level → Calls → Scope → Type 0
StatesInner a b c calls scope = (p : Placed) (s : State) (here : Names) (h : Heading) (items : Declarations) (ss : List stat.Statement) (ds : Declarations)
    (j : ℕ) (sub : Heading)
    → Left p s (decl.and (decl.Declaration.procedure h items ss) ds) → here ≡ (behind s (decl.Declaration.procedure h items ss)).names
    → slice_get (inner_headings items) j ≡ Some sub
    → a ≡ with_results (inner_level sub) b c (results_through (heading_result base.Return sub) (routine_result b.names h))
    → b ≡ routine_level here s.own h items → c ≡ globals_in p here → calls ≡ calls_of p h.segment (routine s.count)
    → statements_in p (inner (routine s.count) j) ≡ Some scope

-- of a main body, which has no result: its unit's level behind all declarations
abbrev pub StatesMain : Level → Level → Level → Calls → Scope → Type 0
StatesMain a b c calls scope = (p : Placed) (s : State) → Left p s decl.none → p.unit.subprogram ≡ false
    → a ≡ with_results no_names b c (results_through (result_of None) (result_of None))
    → b ≡ globals_in p s.names → c ≡ globals_in p s.names → calls ≡ calls_of p p.unit.tree.segment main
    → statements_in p (outer main) ≡ Some scope

-- of the j-th of its subroutines
abbrev pub StatesMainInner : Level → Level → Level → Calls → Scope → Type 0
StatesMainInner a b c calls scope = (p : Placed) (s : State) (j : ℕ) (sub : Heading) → Left p s decl.none → p.unit.subprogram ≡ false
    → slice_get (inner_headings (declarations p.unit.tree.items)) j ≡ Some sub
    → a ≡ with_results (inner_level sub) b c (results_through (heading_result base.Return sub) (result_of None))
    → b ≡ globals_in p s.names → c ≡ globals_in p s.names → calls ≡ calls_of p p.unit.tree.segment main
    → statements_in p (inner main j) ≡ Some scope
