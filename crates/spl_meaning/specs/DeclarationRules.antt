-- The rules that headings, declarations and units may break.
use Rattle.std.specs.Prelude.{ℕ, ◌==◌, ◌&&◌, ◌||◌, not, Bool, true, false, nat_le, ℤ, pos, neg_ℤ, int_le, if◌then◌else◌, List, [], ◌∷◌, ◌++◌, length, Option, Some, None, is_some}
use Rattle.spl_tree.specs.declared.names_and_places.At.{At}
use Rattle.spl_tree.specs.declared.expressions.Kind.{Kind}
use Rattle.spl_tree.specs.declared.expressions.Kind.TheVariants as kind
use Rattle.spl_tree.specs.Trees as tree
use Rattle.spl_tree.specs.Trees.{Constant}
use Rattle.spl_tree.specs.StatementTrees as stat
use Rattle.spl_tree.specs.StatementTrees.{Statement, Statements, statements}
use Rattle.spl_tree.specs.DeclarationTrees as decl
use Rattle.spl_tree.specs.DeclarationTrees.{Placed, Spec, Heading, Item, Equal, Term, Declaration, Declarations, declarations}
use Rattle.spl_meaning.specs.Names as n
use Rattle.spl_meaning.specs.Names.{Names, Sort, Table, Formal, Profile, find, within, nothing_declared, same_name, parameters, formals_of, profile_of, same_flag, lists, spec_of, is_array_in, intrinsic_named, constant_value, sum_value}
use Rattle.spl_meaning.specs.Tables.{Source, Routine, declared, shaped, with_equates, with_intrinsics, with_labels, with_declaration, with_declarations, unit_table}
use Rattle.spl_meaning.specs.Places.{elements, is_byte_kind}
use Rattle.spl_meaning.specs.Pending.{by_value}
use Rattle.spl_meaning.specs.Faults.{Fault, unless}
use Rattle.spl_meaning.specs.ExpressionRules.{Scope, is_equate, in_range, constant_place, constant_faults}
use Rattle.spl_meaning.specs.StatementRules.{repeated, body_faults, statement_faults, all_labels}

-- What stands around a list of declarations: the names outside, whether it is a procedure's, a split one's, or a subprogram's.
pub record Around : Type 0 where
  pub names : Names
  pub in_procedure : Bool
  pub split : Bool
  pub subprogram : Bool

-- 2: a name is declared twice in one list
abbrev pub twice : Table Sort → List ℕ → At → List Fault
twice table x at = unless (not (is_some (find table x))) 2 at

-- ---- items

-- the most elements of an array
abbrev pub most_elements : ℕ
most_elements = 64000

-- 15: bounds are reversed or span more elements
abbrev pub bounds_fit : Option ℤ → Option ℤ → Bool
bounds_fit (Some low) (Some high) = int_le low high && nat_le (elements low high) most_elements
bounds_fit _ _ = true

-- 16: the base of a view is no array with bounds in the same list, or is BYTE, or the view is OWN and its base is not
abbrev pub is_base : Bool → Option Sort → Bool
is_base own (Some (n.array k base_own low high)) = not (is_byte_kind k) && (not own || base_own)
is_base own _ = false

-- whether a kind is DOUBLE
abbrev pub is_double_kind : Kind → Bool
is_double_kind kind.Double = true
is_double_kind _ = false

-- the base is not declared at all, or is no base
abbrev pub base_faults : Names → Table Sort → Bool → Kind → List ℕ → At → List Fault
base_faults outer table own k base at =
    unless (is_some (within table outer base)) 1 at
    ++ unless (not (is_some (within table outer base)) || is_base own (find table base)) 16 at ++ unless (not (is_double_kind k)) 16 at

-- the shape of an item
-- 15: the lower bound of an array above its upper one. 27: an array or a view in a split procedure.
abbrev pub shape_faults : Around → Table Sort → Bool → Kind → decl.Shape → At → List Fault
shape_faults a table own k decl.Shape.simple at = []
shape_faults a table own k (decl.Shape.array low high) at =
    constant_faults (within table a.names) at low ++ constant_faults (within table a.names) at high
    ++ unless (bounds_fit (constant_value (within table a.names) low) (constant_value (within table a.names) high)) 15 at
    ++ unless (not a.split) 27 at
shape_faults a table own k (decl.Shape.view base) at = base_faults a.names table own k base at ++ unless (not a.split) 27 at
shape_faults a table own k decl.Shape.pointer at = []

-- a wide constant
abbrev pub is_wide : Constant → Bool
is_wide (tree.Constant.wide minus v) = true
is_wide _ = false

-- an initial value fits a DOUBLE: a wide constant does, and nothing is said of a name that stands for no constant
abbrev pub fits_double : Names → Constant → Bool
fits_double names (tree.Constant.wide minus v) = true
fits_double names (tree.Constant.name x at) = not (is_equate (names x))
fits_double names _ = false

-- an initial value of a kind
-- 14: a wide constant for a word. 15: a constant of one word for a DOUBLE.
abbrev pub initial_faults : Names → Kind → At → Constant → List Fault
initial_faults names kind.Double at c = constant_faults names at c ++ unless (fits_double names c) 15 (constant_place at c)
initial_faults names _ at c = constant_faults names at c ++ unless (not (is_wide c)) 14 at

-- initial values in order
abbrev pub initials_faults : Names → Kind → At → List Constant → List Fault
initials_faults names k at [] = []
initials_faults names k at (c ∷ cs) = initial_faults names k at c ++ initials_faults names k at cs

-- no more values than elements, where the bounds have values
abbrev pub elements_fit : Option ℤ → Option ℤ → ℕ → Bool
elements_fit (Some low) (Some high) given = nat_le given (elements low high)
elements_fit _ _ given = true

-- an item may have so many initial values
abbrev pub values_fit : Names → decl.Shape → ℕ → Bool
values_fit names (decl.Shape.array low high) given = elements_fit (constant_value names low) (constant_value names high) given
values_fit names _ given = true

-- 17: an initial value on a local array or on a view
abbrev pub may_begin : Around → Bool → decl.Shape → ℕ → Bool
may_begin a own (decl.Shape.array low high) given = given == 0 || own || not a.in_procedure
may_begin a own (decl.Shape.view base) given = given == 0
may_begin a own _ given = true

-- an item of a declaration, behind those in the table
abbrev pub item_faults : Around → Table Sort → Bool → Kind → Item → List Fault
item_faults a table own k i =
    twice table i.name i.at ++ shape_faults a table own k i.shape i.at
    ++ initials_faults (within table a.names) k i.at i.first
    ++ unless (values_fit (within table a.names) i.shape (length i.first)) 15 i.at
    ++ unless (may_begin a own i.shape (length i.first)) 17 i.at
    ++ unless (not own || a.in_procedure) 17 i.at ++ unless (not own || not a.split) 27 i.at ++ unless (not a.subprogram) 28 i.at

-- the items of a declaration
abbrev pub items_faults : Around → Table Sort → Bool → Kind → List Item → List Fault
items_faults a table own k [] = []
items_faults a table own k (i ∷ is) =
    item_faults a table own k i ++ items_faults a (declared table i.name (shaped (within table a.names) own k i.shape)) own k is

-- ---- EQUATE, INTRINSIC and LABEL

-- the constants in a sum
abbrev pub terms_faults : Names → At → List Term → List Fault
terms_faults names at [] = []
terms_faults names at (t ∷ ts) = constant_faults names at t.value ++ terms_faults names at ts

-- 14: an EQUATE is outside -32,768 to 65,535
abbrev pub equate_faults : Names → Table Sort → Equal → List Fault
equate_faults names table e =
    twice table e.name e.at ++ terms_faults names e.at e.terms
    ++ unless (in_range (neg_ℤ (pos 32768)) (pos 65535) (sum_value names e.terms)) 14 e.at

-- the items of an EQUATE
abbrev pub equates_faults : Around → Table Sort → List Equal → List Fault
equates_faults a table [] = []
equates_faults a table (e ∷ es) =
    equate_faults (within table a.names) table e ++ equates_faults a (with_equates a.names table (e ∷ [])) es

-- 26: INTRINSIC names none
abbrev pub intrinsics_faults : Table Sort → List Placed → List Fault
intrinsics_faults table [] = []
intrinsics_faults table (x ∷ xs) =
    twice table x.letters x.at ++ unless (is_some (intrinsic_named x.letters)) 26 x.at ++ intrinsics_faults (with_intrinsics table (x ∷ [])) xs

-- the names of a LABEL
abbrev pub labels_faults : Table Sort → List Placed → List Fault
labels_faults table [] = []
labels_faults table (x ∷ xs) = twice table x.letters x.at ++ labels_faults (with_labels table (x ∷ [])) xs

-- ---- headings

-- 18: a listed name is no parameter
abbrev pub not_parameters : List Placed → List Placed → List Fault
not_parameters names [] = []
not_parameters names (x ∷ xs) = unless (lists names x.letters) 18 x.at ++ not_parameters names xs

-- all names in lists of kinds, in order
abbrev pub all_listed : List Spec → List Placed
all_listed [] = []
all_listed (l ∷ ls) = l.names ++ all_listed ls

-- VALUE names an array
abbrev pub array_values : List Spec → List Placed → List Fault
array_values specs [] = []
array_values specs (x ∷ xs) = unless (not (is_array_in (spec_of specs x.letters))) 18 x.at ++ array_values specs xs

-- a parameter stands in no list of kinds
abbrev pub without_kind : List Spec → List Placed → List Fault
without_kind specs [] = []
without_kind specs (x ∷ xs) = unless (is_some (spec_of specs x.letters)) 18 x.at ++ without_kind specs xs

-- 27: a parameter by reference of a split procedure
abbrev pub split_parameters : Bool → List Formal → List Fault
split_parameters split [] = []
split_parameters split (f ∷ fs) = unless (not split || by_value f || not (is_some f.kind)) 27 f.at ++ split_parameters split fs

-- 2: a parameter stands twice. 18: lists and parameters do not agree.
abbrev pub heading_faults : Bool → Heading → List Fault
heading_faults split h =
    repeated 2 [] h.names ++ not_parameters h.names h.values ++ not_parameters h.names (all_listed h.specs) ++ array_values h.specs h.values
    ++ without_kind h.specs h.names ++ repeated 18 [] (all_listed h.specs) ++ split_parameters split (formals_of h)

-- ---- headings that differ

-- kinds by numbers, 0 for none
abbrev pub kind_number : Option Kind → ℕ
kind_number None = 0
kind_number (Some kind.Integer) = 1
kind_number (Some kind.Logical) = 2
kind_number (Some kind.Byte) = 3
kind_number (Some kind.Double) = 4

-- parameters alike, one by one
abbrev pub same_formals : List Formal → List Formal → Bool
same_formals [] [] = true
same_formals (f ∷ fs) (g ∷ gs) =
    kind_number f.kind == kind_number g.kind && same_flag f.array g.array && same_flag f.value g.value && same_formals fs gs
same_formals _ _ = false

-- the same result, parameters alike in kind, array or not, VALUE or not, and both split or neither
abbrev pub same_profile : Profile → Profile → Bool
same_profile p q = kind_number p.result == kind_number q.result && same_flag p.split q.split && same_formals p.formals q.formals

-- FORWARDs that have no body yet
abbrev pub Waiting : Type 0
Waiting = Table Profile

-- a name taken off those that wait
abbrev pub without : Waiting → List ℕ → Waiting
without [] x = []
without (w ∷ ws) x = if same_name x w.0 then without ws x else w ∷ without ws x

-- whether a procedure of this name has its body among these declarations
abbrev pub gets_body : Declarations → List ℕ → Bool
gets_body decl.none x = false
gets_body (decl.and (decl.Declaration.procedure h items ss) ds) x = if same_name x h.name then true else gets_body ds x
gets_body (decl.and d ds) x = gets_body ds x

-- 19: a heading differs from its FORWARD. 2: the procedure is declared, and no FORWARD waits for it.
abbrev pub procedure_by : Table Sort → Option Profile → Heading → List Fault
procedure_by table (Some p) h = unless (same_profile p (profile_of h)) 19 h.at
procedure_by table None h = twice table h.name h.at

-- 19: a heading differs from a procedure of another unit that EXTERNAL names
abbrev pub external_faults : Heading → List Routine → List Fault
external_faults h [] = []
external_faults h (r ∷ rs) =
    unless (not (same_name h.name r.heading.name) || same_profile (profile_of h) (profile_of r.heading)) 19 h.at ++ external_faults h rs

-- ---- subroutines, procedures

-- the scope in a subroutine, in the scope of the list that has it
abbrev pub subroutine_scope : Scope → Heading → Scope
subroutine_scope sc h = record {
  names = within (parameters (formals_of h)) sc.names;
  is_local = λ x. if is_some (find (parameters (formals_of h)) x) then true else sc.is_local x;
  results = h.name ∷ sc.results;
  split = sc.split;
  is_main = false;
}

-- a subroutine in a scope
abbrev pub subroutine_faults : Scope → Heading → Statement → List Fault
subroutine_faults sc h s =
    heading_faults sc.split h ++ statement_faults (subroutine_scope sc h) [] false s ++ repeated 20 [] (all_labels s)

-- 28: a subroutine in a subprogram
abbrev pub declared_subroutine : Around → Table Sort → Scope → Heading → Statement → List Fault
declared_subroutine a table sc h s = twice table h.name h.at ++ unless (not a.subprogram) 28 h.at ++ subroutine_faults sc h s

-- a declaration of a procedure's body; no procedure stands there
abbrev pub local_faults_of : Around → Scope → Table Sort → Declaration → List Fault
local_faults_of a sc table (decl.Declaration.data_items own k items) = items_faults a table own k items
local_faults_of a sc table (decl.Declaration.equate es) = equates_faults a table es
local_faults_of a sc table (decl.Declaration.intrinsic xs) = intrinsics_faults table xs
local_faults_of a sc table (decl.Declaration.label xs) = labels_faults table xs
local_faults_of a sc table (decl.Declaration.subroutine h s) = declared_subroutine a table sc h s
local_faults_of a sc table d = []

-- the declarations of a procedure's body; `sc` is the scope of the whole list
abbrev pub local_faults : Around → Scope → Table Sort → Declarations → List Fault
local_faults a sc table decl.none = []
local_faults a sc table (decl.and d ds) = local_faults_of a sc table d ++ local_faults a sc (with_declaration a.names table d) ds

-- the results that may be assigned in a procedure: its own, where its own list does not hide its name
abbrev pub own_results : Table Sort → List ℕ → List (List ℕ)
own_results table name = if is_some (find table name) then [] else name ∷ []

-- the scope in a procedure, behind the list of its unit up to its heading
abbrev pub procedure_scope : Table Sort → Heading → Declarations → Scope
procedure_scope globals h items =
    let table = with_declarations (find globals) (parameters (formals_of h)) items in
    record {
      names = within table (find globals);
      is_local = λ x. is_some (find table x);
      results = own_results table h.name;
      split = h.split;
      is_main = false;
    }

-- a procedure's own faults
abbrev pub procedure_faults : Table Sort → Heading → Declarations → List Statement → List Fault
procedure_faults globals h items ss =
    heading_faults h.split h
    ++ local_faults (record { names = find globals; in_procedure = true; split = h.split; subprogram = false })
    (procedure_scope globals h items) (parameters (formals_of h)) items
    ++ body_faults (procedure_scope globals h items) (statements ss)

-- ---- units

-- a declaration of a unit, with the procedures of the other units and the scope of the main body
abbrev pub global_faults : Around → Scope → List Routine → Waiting → Table Sort → Declaration → Declarations → List Fault
global_faults a sc others waiting table (decl.Declaration.data_items own k items) ds = items_faults a table own k items
global_faults a sc others waiting table (decl.Declaration.equate es) ds = equates_faults a table es
global_faults a sc others waiting table (decl.Declaration.intrinsic xs) ds = intrinsics_faults table xs
global_faults a sc others waiting table (decl.Declaration.label xs) ds = labels_faults table xs
-- 19: a FORWARD never gets its body
global_faults a sc others waiting table (decl.Declaration.forward h) ds =
    twice table h.name h.at ++ heading_faults h.split h ++ unless (gets_body ds h.name) 19 h.at
global_faults a sc others waiting table (decl.Declaration.external h) ds =
    twice table h.name h.at ++ heading_faults h.split h ++ external_faults h others
global_faults a sc others waiting table (decl.Declaration.procedure h items ss) ds =
    procedure_by table (find waiting h.name) h
    ++ procedure_faults (with_declaration nothing_declared table (decl.Declaration.procedure h items ss)) h items ss
global_faults a sc others waiting table (decl.Declaration.subroutine h s) ds = declared_subroutine a table sc h s

-- the FORWARDs that wait behind a declaration
abbrev pub waiting_behind : Waiting → Declaration → Waiting
waiting_behind waiting (decl.Declaration.forward h) = (h.name, profile_of h) ∷ waiting
waiting_behind waiting (decl.Declaration.procedure h items ss) = without waiting h.name
waiting_behind waiting d = waiting

-- the declarations of a unit
abbrev pub globals_faults : Around → Scope → List Routine → Waiting → Table Sort → Declarations → List Fault
globals_faults a sc others waiting table decl.none = []
globals_faults a sc others waiting table (decl.and d ds) =
    global_faults a sc others waiting table d ds
    ++ globals_faults a sc others (waiting_behind waiting d) (with_declaration nothing_declared table d) ds

-- 28: a statement of a subprogram that is not empty, at its place, or at the unit's where it has none
abbrev pub statement_place : At → Statement → At
statement_place unit (stat.Statement.labelled x at s) = at
statement_place unit (stat.Statement.if_test q then_part else_part at) = at
statement_place unit (stat.Statement.while_true e s at) = at
statement_place unit (stat.Statement.until_true s e at) = at
statement_place unit (stat.Statement.for_values x first step last s at) = at
statement_place unit (stat.Statement.case_of e ss at) = at
statement_place unit (stat.Statement.go_to x at) = at
statement_place unit (stat.Statement.return at) = at
statement_place unit (stat.Statement.assign to e at) = at
statement_place unit (stat.Statement.assign_effect to e at) = at
statement_place unit (stat.Statement.do_effect e at) = at
statement_place unit (stat.Statement.call x es at) = at
statement_place unit _ = unit

-- whether a statement is empty
abbrev pub is_empty_statement : Statement → Bool
is_empty_statement stat.Statement.empty = true
is_empty_statement _ = false

-- the statements of a subprogram
abbrev pub silent_faults : At → List Statement → List Fault
silent_faults unit [] = []
silent_faults unit (s ∷ ss) = unless (is_empty_statement s) 28 (statement_place unit s) ++ silent_faults unit ss

-- the scope of a main body
abbrev pub main_scope : Source → Scope
main_scope u = record { names = find (unit_table u); is_local = λ x. true; results = []; split = false; is_main = true }

-- the faults of a unit, with the procedures of the others
abbrev pub unit_faults : List Routine → Source → List Fault
unit_faults others u =
    globals_faults (record { names = nothing_declared; in_procedure = false; split = false; subprogram = u.subprogram }) (main_scope u) others [] []
    (declarations u.tree.items)
    ++ body_faults (main_scope u) (statements u.tree.statements)
    ++ (if u.subprogram then silent_faults u.tree.at u.tree.statements else [])
