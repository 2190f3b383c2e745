-- The first broken rule of headings, declarations and units, as it is found along the tree. `here` is what names stand for in a list so far.
-- A subroutine may use all of its list, so its own rules are looked at behind the list.
use Rattle.std.specs.Prelude.{ℕ, ◌≡◌, ◌||◌, ◌++◌, not, Bool, true, false, pos, neg_ℤ, if◌then◌else◌, List, [], ◌∷◌, length, Option, Some, None, is_some}
use Rattle.spl_meaning.specs.spl_tree.declared.names_and_places.At.{At}
use Rattle.spl_meaning.specs.spl_tree.declared.expressions.Kind.{Kind}
use Rattle.spl_meaning.specs.spl_tree.Trees.{Constant}
use Rattle.spl_meaning.specs.spl_tree.StatementTrees.{Statement, statements}
use Rattle.spl_meaning.specs.spl_tree.DeclarationTrees as decl
use Rattle.spl_meaning.specs.spl_tree.DeclarationTrees.{Placed, Heading, Item, Equal, Term, Declaration, Declarations, declarations}
use Rattle.spl_meaning.specs.Names as n
use Rattle.spl_meaning.specs.Names.{Names, Profile, find, nothing_declared, parameters, formals_of, profile_of, intrinsic_named, constant_value, sum_value}
use Rattle.spl_meaning.specs.Tables.{Source, Routine, shaped, intrinsic_sort}
use Rattle.spl_meaning.specs.Bodies.{all_routines}
use Rattle.spl_meaning.specs.Faults.{Fault, unless, first_fault}
use Rattle.spl_meaning.specs.ExpressionRules.{Scope, in_range, constant_faults}
use Rattle.spl_meaning.specs.StatementRules.{has_name, repeated, all_labels}
use Rattle.spl_meaning.specs.DeclarationRules.{Around, Waiting, bounds_fit, is_base, is_double_kind, initial_faults, values_fit, may_begin, not_parameters, all_listed, array_values, without_kind, split_parameters, same_profile, gets_body, external_faults, subroutine_scope, waiting_behind, is_empty_statement, statement_place}
use Rattle.spl_meaning.specs.Sound.{first_broken}
use Rattle.spl_found.specs.FoundStatements.{found_statement, found_body}
use Rattle.spl_found.specs.OwnNames.{over, with_name, behind_declaration, behind_declarations}

-- a name is declared twice in one list
abbrev pub again : Names → List ℕ → At → List Fault
again here x at = unless (not (is_some (here x))) 2 at

-- ---- items

-- the base of a view
abbrev pub found_base : Names → Names → Bool → Kind → List ℕ → At → Option Fault → Option Fault
found_base outer here own k base at f =
    first_fault (first_fault (first_fault f (unless (is_some (over here outer base)) 1 at))
    (unless (not (is_some (over here outer base)) || is_base own (here base)) 16 at)) (unless (not (is_double_kind k)) 16 at)

-- the shape of an item
abbrev pub found_shape : Around → Names → Bool → Kind → decl.Shape → At → Option Fault → Option Fault
found_shape a here own k decl.Shape.simple at f = f
found_shape a here own k (decl.Shape.array low high) at f =
    first_fault (first_fault (first_fault (first_fault f (constant_faults (over here a.names) at low)) (constant_faults (over here a.names) at high))
    (unless (bounds_fit (constant_value (over here a.names) low) (constant_value (over here a.names) high)) 15 at)) (unless (not a.split) 27 at)
found_shape a here own k (decl.Shape.view base) at f = first_fault (found_base a.names here own k base at f) (unless (not a.split) 27 at)
found_shape a here own k decl.Shape.pointer at f = f

-- initial values in order
abbrev pub found_initials : Names → Kind → At → List Constant → Option Fault → Option Fault
found_initials names k at [] f = f
found_initials names k at (c ∷ cs) f = found_initials names k at cs (first_fault f (initial_faults names k at c))

-- what stands behind an item's initial values
abbrev pub found_given : Around → Names → Bool → Item → Option Fault → Option Fault
found_given a here own i f =
    first_fault (first_fault (first_fault (first_fault (first_fault f (unless (values_fit (over here a.names) i.shape (length i.first)) 15 i.at))
    (unless (may_begin a own i.shape (length i.first)) 17 i.at)) (unless (not own || a.in_procedure) 17 i.at)) (unless (not own || not a.split) 27 i.at))
    (unless (not a.subprogram) 28 i.at)

-- an item of a declaration, behind those before it
abbrev pub found_item : Around → Names → Bool → Kind → Item → Option Fault → Option Fault
found_item a here own k i f = found_given a here own i (found_initials (over here a.names) k i.at i.first
    (found_shape a here own k i.shape i.at (first_fault f (again here i.name i.at))))

-- the items of a declaration
abbrev pub found_items : Around → Names → Bool → Kind → List Item → Option Fault → Option Fault
found_items a here own k [] f = f
found_items a here own k (i ∷ is) f =
    found_items a (with_name here i.name (shaped (over here a.names) own k i.shape)) own k is (found_item a here own k i f)

-- ---- EQUATE, INTRINSIC and LABEL

-- the constants in a sum
abbrev pub found_terms : Names → At → List Term → Option Fault → Option Fault
found_terms names at [] f = f
found_terms names at (t ∷ ts) f = found_terms names at ts (first_fault f (constant_faults names at t.value))

-- an item of an EQUATE
abbrev pub found_equate : Around → Names → Equal → Option Fault → Option Fault
found_equate a here e f = first_fault (found_terms (over here a.names) e.at e.terms (first_fault f (again here e.name e.at)))
    (unless (in_range (neg_ℤ (pos 32768)) (pos 65535) (sum_value (over here a.names) e.terms)) 14 e.at)

-- the items of an EQUATE
abbrev pub found_equates : Around → Names → List Equal → Option Fault → Option Fault
found_equates a here [] f = f
found_equates a here (e ∷ es) f =
    found_equates a (with_name here e.name (n.equate (n.kept_value (sum_value (over here a.names) e.terms)))) es (found_equate a here e f)

-- the names of an INTRINSIC
abbrev pub found_intrinsics : Names → List Placed → Option Fault → Option Fault
found_intrinsics here [] f = f
found_intrinsics here (x ∷ xs) f = found_intrinsics (with_name here x.letters (intrinsic_sort (intrinsic_named x.letters))) xs
    (first_fault (first_fault f (again here x.letters x.at)) (unless (is_some (intrinsic_named x.letters)) 26 x.at))

-- the names of a LABEL
abbrev pub found_labels : Names → List Placed → Option Fault → Option Fault
found_labels here [] f = f
found_labels here (x ∷ xs) f = found_labels (with_name here x.letters n.label) xs (first_fault f (again here x.letters x.at))

-- ---- headings and subroutines

-- a heading
abbrev pub found_heading : Bool → Heading → Option Fault → Option Fault
found_heading split h f =
    first_fault (first_fault (first_fault (first_fault (first_fault (first_fault (first_fault f (repeated 2 [] h.names)) (not_parameters h.names h.values))
    (not_parameters h.names (all_listed h.specs))) (array_values h.specs h.values)) (without_kind h.specs h.names)) (repeated 18 [] (all_listed h.specs)))
    (split_parameters split (formals_of h))

-- the name of a subroutine in a list
abbrev pub found_declared : Around → Names → Heading → Option Fault → Option Fault
found_declared a here h f = first_fault (first_fault f (again here h.name h.at)) (unless (not a.subprogram) 28 h.at)

-- a subroutine's own rules, in the scope of its list
abbrev pub found_subroutine : Scope → Heading → Statement → Option Fault → Option Fault
found_subroutine sc h s f = first_fault (found_statement (subroutine_scope sc h) (has_name []) false s (found_heading sc.split h f)) (repeated 20 [] (all_labels s))

-- those of a declaration, where it is a subroutine
abbrev pub found_inner : Scope → Declaration → Option Fault → Option Fault
found_inner sc (decl.Declaration.subroutine h s) f = found_subroutine sc h s f
found_inner sc d f = f

-- the subroutines of a list
abbrev pub found_subroutines : Scope → Declarations → Option Fault → Option Fault
found_subroutines sc decl.none f = f
found_subroutines sc (decl.and d ds) f = found_subroutines sc ds (found_inner sc d f)

-- ---- procedures

-- a declaration of a procedure's body, but for a subroutine's own rules
abbrev pub found_local : Around → Names → Declaration → Option Fault → Option Fault
found_local a here (decl.Declaration.data_items own k items) f = found_items a here own k items f
found_local a here (decl.Declaration.equate es) f = found_equates a here es f
found_local a here (decl.Declaration.intrinsic xs) f = found_intrinsics here xs f
found_local a here (decl.Declaration.label xs) f = found_labels here xs f
found_local a here (decl.Declaration.subroutine h s) f = found_declared a here h f
found_local a here d f = f

-- the declarations of a procedure's body, but for their subroutines' own rules
abbrev pub found_locals : Around → Names → Declarations → Option Fault → Option Fault
found_locals a here decl.none f = f
found_locals a here (decl.and d ds) f = found_locals a (behind_declaration a.names here d) ds (found_local a here d f)

-- what stands around the list of a procedure
abbrev pub around_procedure : Names → Heading → Around
around_procedure globals h = record { names = globals; in_procedure = true; split = h.split; subprogram = false }

-- the whole list of a procedure, behind its parameters
abbrev pub procedure_names : Names → Heading → Declarations → Names
procedure_names globals h items = behind_declarations globals (find (parameters (formals_of h))) items

-- the scope in a procedure
abbrev pub scope_in_procedure : Names → Heading → Declarations → Scope
scope_in_procedure globals h items = record {
  names = over (procedure_names globals h items) globals;
  is_local = λ x. is_some (procedure_names globals h items x);
  results = if is_some (procedure_names globals h items h.name) then [] else h.name ∷ [];
  split = h.split;
  is_main = false;
}

-- a procedure's own rules: its heading, its list, the subroutines of the list, its statements
abbrev pub found_procedure : Names → Heading → Declarations → List Statement → Option Fault → Option Fault
found_procedure globals h items ss f = found_body (scope_in_procedure globals h items) (statements ss)
    (found_subroutines (scope_in_procedure globals h items) items
    (found_locals (around_procedure globals h) (find (parameters (formals_of h))) items (found_heading h.split h f)))

-- ---- units

-- a heading that a FORWARD may stand for, or a name more
abbrev pub procedure_by : Names → Option Profile → Heading → List Fault
procedure_by here (Some p) h = unless (same_profile p (profile_of h)) 19 h.at
procedure_by here None h = again here h.name h.at

-- a declaration of a unit, with the procedures of the other units, but for a subroutine's own rules
abbrev pub found_global : Around → List Routine → Waiting → Names → Declaration → Declarations → Option Fault → Option Fault
found_global a others waiting here (decl.Declaration.data_items own k items) ds f = found_items a here own k items f
found_global a others waiting here (decl.Declaration.equate es) ds f = found_equates a here es f
found_global a others waiting here (decl.Declaration.intrinsic xs) ds f = found_intrinsics here xs f
found_global a others waiting here (decl.Declaration.label xs) ds f = found_labels here xs f
found_global a others waiting here (decl.Declaration.forward h) ds f =
    first_fault (found_heading h.split h (first_fault f (again here h.name h.at))) (unless (gets_body ds h.name) 19 h.at)
found_global a others waiting here (decl.Declaration.external h) ds f =
    first_fault (found_heading h.split h (first_fault f (again here h.name h.at))) (external_faults h others)
found_global a others waiting here (decl.Declaration.procedure h items ss) ds f =
    found_procedure (with_name here h.name (n.procedure (profile_of h))) h items ss (first_fault f (procedure_by here (find waiting h.name) h))
found_global a others waiting here (decl.Declaration.subroutine h s) ds f = found_declared a here h f

-- the declarations of a unit, but for their subroutines' own rules
abbrev pub found_globals : Around → List Routine → Waiting → Names → Declarations → Option Fault → Option Fault
found_globals a others waiting here decl.none f = f
found_globals a others waiting here (decl.and d ds) f =
    found_globals a others (waiting_behind waiting d) (behind_declaration nothing_declared here d) ds (found_global a others waiting here d ds f)

-- the statements of a subprogram
abbrev pub found_silent : At → List Statement → Option Fault → Option Fault
found_silent unit [] f = f
found_silent unit (s ∷ ss) f = found_silent unit ss (first_fault f (unless (is_empty_statement s) 28 (statement_place unit s)))

-- what stands around the list of a unit
abbrev pub around_unit : Source → Around
around_unit u = record { names = nothing_declared; in_procedure = false; split = false; subprogram = u.subprogram }

-- the whole list of a unit
abbrev pub unit_names : Source → Names
unit_names u = behind_declarations nothing_declared nothing_declared (declarations u.tree.items)

-- the scope of its main body
abbrev pub scope_in_main : Source → Scope
scope_in_main u = record { names = unit_names u; is_local = λ x. true; results = []; split = false; is_main = true }

-- a unit, with the procedures of the others: its list, the subroutines of the list, its statements
abbrev pub found_unit : List Routine → Source → Option Fault → Option Fault
found_unit others u f =
    let g = found_body (scope_in_main u) (statements u.tree.statements) (found_subroutines (scope_in_main u) (declarations u.tree.items)
    (found_globals (around_unit u) others [] nothing_declared (declarations u.tree.items) f)) in
    if u.subprogram then found_silent u.tree.at u.tree.statements g else g

-- units behind others
abbrev pub found_units : List Source → List Source → Option Fault → Option Fault
found_units before [] f = f
found_units before (u ∷ us) f = found_units (before ++ u ∷ []) us (found_unit (all_routines before ++ all_routines us) u f)

-- the first rule that units break is what is found along their trees
abbrev pub FirstRulesAreFound : Type 0
FirstRulesAreFound = (us : List Source) → found_units [] us None ≡ first_broken us
