-- What the rules say of each body of units that break none: of a main body, of a procedure, and of the subroutines in their lists.
use Rattle.std.specs.Prelude.{◌≡◌, ℕ, Bool, true, false, List, [], Option, Some, is_some}
use Rattle.std.specs.List.{list_all, slice_get}
use Rattle.spl_shapes.specs.spl_tree.StatementTrees.{statements}
use Rattle.spl_sound_beginnings.specs.spl_meaning.Names as n
use Rattle.spl_sound_beginnings.specs.spl_meaning.Names.{Sort, Profile, find, parameters, formals_of, intrinsic_named}
use Rattle.spl_sound_beginnings.specs.spl_meaning.Tables.{Routine, Subroutine, routines_of, routine_table, routine_subroutines, unit_table, unit_subroutines}
use Rattle.spl_sound_beginnings.specs.spl_meaning.Bodies.{Named, procedure_body}
use Rattle.spl_sound_beginnings.specs.spl_meaning.ExpressionRules.{Scope}
use Rattle.spl_sound_beginnings.specs.spl_meaning.StatementRules.{body_faults}
use Rattle.spl_sound_beginnings.specs.spl_meaning.DeclarationRules.{Around, heading_faults, local_faults, procedure_scope, main_scope, subroutine_faults}
use Rattle.spl_sound_beginnings.specs.spl_scopes.Entries.{main, routine, module_entries, subroutine_index}
use Rattle.spl_sound_beginnings.specs.spl_scopes.Scopes.{Placed, body_segment, global_places}
use Rattle.spl_sound_beginnings.specs.spl_places.Programs.{Each}
use Rattle.spl_shapes.specs.Shapes.{is_shaped_statement, are_shaped_statements, are_shaped_declarations, are_local}
use Rattle.spl_sound_beginnings.specs.spl_sound_names.Known.{AreKnown, NamesAreFound}

-- ---- names

-- each parameter has a kind
abbrev pub have_kinds : Profile → Bool
have_kinds p = list_all (λ f. is_some f.kind) p.formals

-- what a name stands for is as its uses ask: what can be called has kinds of parameters, and an intrinsic has its own name
abbrev pub IsFit : List ℕ → Sort → Type 0
IsFit x (n.procedure p) = have_kinds p ≡ true
IsFit x (n.subroutine p) = have_kinds p ≡ true
IsFit x (n.intrinsic i) = intrinsic_named x ≡ Some i
IsFit x s = Unit {0}

-- so it is with all names of a list
abbrev pub AreFit : (List ℕ → Option Sort) → Type 0
AreFit names = (x : List ℕ) (s : Sort) → names x ≡ Some s → IsFit x s

-- ---- bodies

-- a subroutine of a list breaks no rule in its scope, and tokens spell it
pub record IsRuledInner (sc : Scope) (s : Subroutine) : Type 0 where
  pub none : subroutine_faults sc s.heading s.statement ≡ []
  pub shaped : is_shaped_statement s.statement ≡ true

-- so it is with each of some
abbrev pub InnersAreRuled : Scope → List Subroutine → Type 0
InnersAreRuled sc ss = Each (IsRuledInner sc) ss

-- what stands around the list of a procedure
abbrev pub around_routine : Routine → Around
around_routine r = record { names = find r.globals; in_procedure = true; split = r.heading.split; subprogram = false }

abbrev pub scope_of : Routine → Scope
scope_of r = procedure_scope r.globals r.heading r.items

-- A procedure: its heading, its list and its statements break no rule; around it names are known, none is a parameter or a subroutine.
pub record IsRuled (r : Routine) : Type 0 where
  pub heading : heading_faults r.heading.split r.heading ≡ []
  pub list : local_faults (around_routine r) (scope_of r) (parameters (formals_of r.heading)) r.items ≡ []
  pub body : body_faults (scope_of r) (statements r.statements) ≡ []
  pub known : AreKnown (λ x. false) (λ x. false) (find r.globals)
  pub fit : AreFit (find r.globals)
  pub fit_list : AreFit (find (routine_table r))
  pub inners : InnersAreRuled (scope_of r) (routine_subroutines r)
  pub shaped : are_shaped_statements (statements r.statements) ≡ true
  pub shaped_list : are_shaped_declarations r.items ≡ true
  pub local_list : are_local r.items ≡ true

-- The body of a unit's procedure by its number: which procedure it is of, and where its OWN items begin; the names that it sees are found.
pub record RoutineAt (p : Placed) (j : ℕ) (b : Named) : Type 0 where
  pub its : Routine
  pub own : ℕ
  pub own_arrays : ℕ
  pub there : slice_get (routines_of p.unit) j ≡ Some its
  pub name : b.name ≡ its.heading.name
  pub is : b.body ≡ procedure_body (global_places p) own own_arrays its
  pub ruled : IsRuled its
  pub kept : (x : List ℕ) (s : Sort) → find its.globals x ≡ Some s → find (unit_table p.unit) x ≡ Some s
  pub found : NamesAreFound (procedure_body (global_places p) own own_arrays its).here.names (procedure_body (global_places p) own own_arrays its).here.places
      (subroutine_index (routine j) (module_entries p.unit (body_segment p.unit (routine j))))

-- the main body of a unit
pub record MainAt (p : Placed) : Type 0 where
  pub body : body_faults (main_scope p.unit) (statements p.unit.tree.statements) ≡ []
  pub known : AreKnown (λ x. false) (λ x. is_some (subroutine_index main (module_entries p.unit p.unit.tree.segment) x)) (find (unit_table p.unit))
  pub fit : AreFit (find (unit_table p.unit))
  pub inners : InnersAreRuled (main_scope p.unit) (unit_subroutines p.unit)
  pub shaped : are_shaped_statements (statements p.unit.tree.statements) ≡ true
  pub found : NamesAreFound (find (unit_table p.unit)) (find (global_places p)) (subroutine_index main (module_entries p.unit p.unit.tree.segment))
