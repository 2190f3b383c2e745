-- What is found along declarations and units is the first of their faults.
use Rattle.std.proofs.Common.{◌≡◌, not, Bool, true, false, List, [], ◌∷◌, ◌++◌, Option, Some, None, refl, sym, ap, ◌∙◌, append-nil}
use Rattle.std.specs.Prelude.{if◌then◌else◌, is_some, pos, neg_ℤ}
use Rattle.spl_meaning.specs.spl_tree.declared.names_and_places.At.{At}
use Rattle.spl_meaning.specs.spl_tree.declared.expressions.Kind.{Kind}
use Rattle.spl_meaning.specs.spl_tree.Trees.{Constant}
use Rattle.spl_meaning.specs.spl_tree.StatementTrees.{Statement, statements}
use Rattle.spl_meaning.specs.spl_tree.DeclarationTrees as decl
use Rattle.spl_meaning.specs.spl_tree.DeclarationTrees.{Placed, Heading, Item, Equal, Term, Declaration, Declarations, declarations}
use Rattle.spl_meaning.specs.Names as n
use Rattle.spl_meaning.specs.Names.{Names, Sort, Table, Profile, find, within, nothing_declared, parameters, formals_of, profile_of, intrinsic_named, sum_value}
use Rattle.spl_meaning.specs.Tables.{Source, Routine, declared, shaped, intrinsic_sort, with_declaration}
use Rattle.spl_meaning.specs.Bodies.{all_routines}
use Rattle.spl_meaning.specs.Faults.{Fault, unless, first_fault}
use Rattle.spl_meaning.specs.ExpressionRules.{Scope, in_range}
use Rattle.spl_meaning.specs.StatementRules.{has_name, repeated, all_labels, statement_faults, body_faults}
use Rattle.spl_meaning.specs.DeclarationRules as dr
use Rattle.spl_meaning.specs.DeclarationRules.{Around, Waiting}
use Rattle.spl_meaning.specs.Sound.{faults_behind}
use Rattle.spl_found.specs.FoundStatements.{found_statement, found_body}
use Rattle.spl_found.specs.OwnNames.{behind_declaration}
use Rattle.spl_found.specs.FoundDeclarations.{found_shape, found_initials, found_given, found_item, found_items, found_terms, found_equate, found_equates, found_intrinsics, found_labels, found_heading, found_subroutine, found_inner, found_subroutines, found_local, found_locals, around_procedure, found_procedure, procedure_by, found_global, found_globals, found_silent, around_unit, scope_in_main, found_unit, found_units, FirstRulesAreFound}
use Rattle.spl_found.proofs.Order.{first_then, turn}
use Rattle.spl_found.proofs.OwnNames.{find_declared, find_declaration, find_declarations, scope_is}
use Rattle.spl_found.proofs.FoundExpressions.{chosen}
use Rattle.spl_found.proofs.FoundStatements.{behind, noted, statement_is, body_is}

initials_is : (names : Names) (k : Kind) (at : At) (cs : List Constant) (f : Option Fault)
    → found_initials names k at cs f ≡ first_fault f (dr.initials_faults names k at cs)
initials_is names k at [] f = refl
initials_is names k at (c ∷ cs) f = initials_is names k at cs _ ∙ simp first_then refl

shape_is : (a : Around) (t : Table Sort) (own : Bool) (k : Kind) (s : decl.Shape) (at : At) (f : Option Fault)
    → found_shape a (find t) own k s at f ≡ first_fault f (dr.shape_faults a t own k s at)
shape_is a t own k decl.Shape.simple at f = refl
shape_is a t own k (decl.Shape.array low high) at f = simp first_then refl
shape_is a t own k (decl.Shape.view base) at f = simp first_then refl
shape_is a t own k decl.Shape.pointer at f = refl

item_is : (a : Around) (t : Table Sort) (own : Bool) (k : Kind) (i : Item) (f : Option Fault)
    → found_item a (find t) own k i f ≡ first_fault f (dr.item_faults a t own k i)
item_is a t own k i f = ap (λ (g : Option Fault). found_given a (find t) own i (found_initials (within t a.names) k i.at i.first g)) (shape_is a t own k i.shape i.at _)
    ∙ ap (found_given a (find t) own i) (initials_is (within t a.names) k i.at i.first _) ∙ simp first_then refl

items_is : (a : Around) (t : Table Sort) (own : Bool) (k : Kind) (is : List Item) (f : Option Fault)
    → found_items a (find t) own k is f ≡ first_fault f (dr.items_faults a t own k is)
items_is a t own k [] f = refl
items_is a t own k (i ∷ is) f =
    let s = shaped (within t a.names) own k i.shape in
    ap (λ (here : Names). found_items a here own k is (found_item a (find t) own k i f)) (sym (find_declared t i.name s))
    ∙ behind _ f (dr.item_faults a t own k i) (found_items a (find (declared t i.name s)) own k is) (dr.items_faults a (declared t i.name s) own k is)
    (items_is a (declared t i.name s) own k is) (item_is a t own k i f)

terms_is : (names : Names) (at : At) (ts : List Term) (f : Option Fault) → found_terms names at ts f ≡ first_fault f (dr.terms_faults names at ts)
terms_is names at [] f = refl
terms_is names at (t ∷ ts) f = terms_is names at ts _ ∙ simp first_then refl

equate_is : (a : Around) (t : Table Sort) (e : Equal) (f : Option Fault) → found_equate a (find t) e f ≡ first_fault f (dr.equate_faults (within t a.names) t e)
equate_is a t e f = ap (λ (g : Option Fault). first_fault g (unless (in_range (neg_ℤ (pos 32768)) (pos 65535) (sum_value (within t a.names) e.terms)) 14 e.at))
    (terms_is (within t a.names) e.at e.terms _) ∙ simp first_then refl

equates_is : (a : Around) (t : Table Sort) (es : List Equal) (f : Option Fault) → found_equates a (find t) es f ≡ first_fault f (dr.equates_faults a t es)
equates_is a t [] f = refl
equates_is a t (e ∷ es) f =
    let s = n.equate (n.kept_value (sum_value (within t a.names) e.terms)) in
    ap (λ (here : Names). found_equates a here es (found_equate a (find t) e f)) (sym (find_declared t e.name s))
    ∙ behind _ f (dr.equate_faults (within t a.names) t e) (found_equates a (find (declared t e.name s)) es) (dr.equates_faults a (declared t e.name s) es)
    (equates_is a (declared t e.name s) es) (equate_is a t e f)

intrinsics_is : (t : Table Sort) (xs : List Placed) (f : Option Fault) → found_intrinsics (find t) xs f ≡ first_fault f (dr.intrinsics_faults t xs)
intrinsics_is t [] f = refl
intrinsics_is t (x ∷ xs) f =
    let s = intrinsic_sort (intrinsic_named x.letters) in
    let g = first_fault (first_fault f (dr.twice t x.letters x.at)) (unless (is_some (intrinsic_named x.letters)) 26 x.at) in
    ap (λ (here : Names). found_intrinsics here xs g) (sym (find_declared t x.letters s)) ∙ intrinsics_is (declared t x.letters s) xs g ∙ simp first_then refl

labels_is : (t : Table Sort) (xs : List Placed) (f : Option Fault) → found_labels (find t) xs f ≡ first_fault f (dr.labels_faults t xs)
labels_is t [] f = refl
labels_is t (x ∷ xs) f =
    let g = first_fault f (dr.twice t x.letters x.at) in
    ap (λ (here : Names). found_labels here xs g) (sym (find_declared t x.letters n.label)) ∙ labels_is (declared t x.letters n.label) xs g ∙ simp first_then refl

heading_is : (split : Bool) (h : Heading) (f : Option Fault) → found_heading split h f ≡ first_fault f (dr.heading_faults split h)
heading_is split h f = simp first_then refl

-- ---- subroutines, behind their list

subroutine_is : (sc : Scope) (h : Heading) (s : Statement) (f : Option Fault) → found_subroutine sc h s f ≡ first_fault f (dr.subroutine_faults sc h s)
subroutine_is sc h s f = noted _ f (dr.heading_faults sc.split h ++ statement_faults (dr.subroutine_scope sc h) [] false s) (repeated 20 [] (all_labels s))
    (behind _ f (dr.heading_faults sc.split h) (found_statement (dr.subroutine_scope sc h) (has_name []) false s) (statement_faults (dr.subroutine_scope sc h) [] false s)
    (statement_is (dr.subroutine_scope sc h) [] false s) (heading_is sc.split h f)) ∙ simp first_then refl

-- the faults of a subroutine's own rules
inner : Scope → Declaration → List Fault
inner sc (decl.Declaration.subroutine h s) = dr.subroutine_faults sc h s
inner sc d = []

inner_is : (sc : Scope) (d : Declaration) (f : Option Fault) → found_inner sc d f ≡ first_fault f (inner sc d)
unfolding inner
inner_is sc (decl.Declaration.data_items own k items) f = refl
inner_is sc (decl.Declaration.equate es) f = refl
inner_is sc (decl.Declaration.intrinsic xs) f = refl
inner_is sc (decl.Declaration.label xs) f = refl
inner_is sc (decl.Declaration.forward h) f = refl
inner_is sc (decl.Declaration.external h) f = refl
inner_is sc (decl.Declaration.procedure h items ss) f = refl
inner_is sc (decl.Declaration.subroutine h s) f = subroutine_is sc h s f

-- faults that are known before those of subroutines may come behind them
inners_last : (sc : Scope) (ds : Declarations) (f : Option Fault) (fs : List Fault)
    → found_subroutines sc ds (first_fault f fs) ≡ first_fault (found_subroutines sc ds f) fs
inners_last sc decl.none f fs = refl
inners_last sc (decl.and d ds) f fs =
    ap (found_subroutines sc ds) (inner_is sc d (first_fault f fs) ∙ turn f fs (inner sc d) ∙ ap (λ (g : Option Fault). first_fault g fs) (sym (inner_is sc d f)))
    ∙ inners_last sc ds (found_inner sc d f) fs

-- A walk over a list and then over its subroutines is one over both, where the walk from here on is some list of faults.
both_walks : (sc : Scope) (d : Declaration) (ds : Declarations) (walk : Option Fault → Option Fault) (fs gs : List Fault) (g f : Option Fault)
    → ((e : Option Fault) → found_subroutines sc ds (walk e) ≡ first_fault e fs) → first_fault g (inner sc d) ≡ first_fault f gs
    → ((e : Option Fault) (hs : List Fault) → walk (first_fault e hs) ≡ first_fault (walk e) hs)
    → found_subroutines sc ds (found_inner sc d (walk g)) ≡ first_fault f (gs ++ fs)
both_walks sc d ds walk fs gs g f rest one last =
    ap (found_subroutines sc ds) (inner_is sc d (walk g) ∙ sym (last g (inner sc d)))
    ∙ rest (first_fault g (inner sc d)) ∙ ap (λ (e : Option Fault). first_fault e fs) one ∙ sym (first_then f gs fs)

-- faults that are known before may come behind what adds a list of faults
adds_last : (step : Option Fault → Option Fault) (own : List Fault) → ((f : Option Fault) → step f ≡ first_fault f own)
    → (f : Option Fault) (fs : List Fault) → step (first_fault f fs) ≡ first_fault (step f) fs
adds_last step own is f fs = is (first_fault f fs) ∙ turn f fs own ∙ ap (λ (g : Option Fault). first_fault g fs) (sym (is f))

-- ---- procedures

-- the faults of a declaration of a procedure's body, but for a subroutine's own
local : Around → Table Sort → Declaration → List Fault
local a t (decl.Declaration.data_items own k items) = dr.items_faults a t own k items
local a t (decl.Declaration.equate es) = dr.equates_faults a t es
local a t (decl.Declaration.intrinsic xs) = dr.intrinsics_faults t xs
local a t (decl.Declaration.label xs) = dr.labels_faults t xs
local a t (decl.Declaration.subroutine h s) = dr.twice t h.name h.at ++ unless (not a.subprogram) 28 h.at
local a t d = []

local_is : (a : Around) (t : Table Sort) (d : Declaration) (f : Option Fault) → found_local a (find t) d f ≡ first_fault f (local a t d)
unfolding local
local_is a t (decl.Declaration.data_items own k items) f = items_is a t own k items f
local_is a t (decl.Declaration.equate es) f = equates_is a t es f
local_is a t (decl.Declaration.intrinsic xs) f = intrinsics_is t xs f
local_is a t (decl.Declaration.label xs) f = labels_is t xs f
local_is a t (decl.Declaration.forward h) f = refl
local_is a t (decl.Declaration.external h) f = refl
local_is a t (decl.Declaration.procedure h items ss) f = refl
local_is a t (decl.Declaration.subroutine h s) f = simp first_then refl

-- with a subroutine's own they are those of the declaration
whole_local : (a : Around) (sc : Scope) (t : Table Sort) (d : Declaration) → local a t d ++ inner sc d ≡ dr.local_faults_of a sc t d
unfolding local inner
whole_local a sc t (decl.Declaration.data_items own k items) = append-nil _
whole_local a sc t (decl.Declaration.equate es) = append-nil _
whole_local a sc t (decl.Declaration.intrinsic xs) = append-nil _
whole_local a sc t (decl.Declaration.label xs) = append-nil _
whole_local a sc t (decl.Declaration.forward h) = refl
whole_local a sc t (decl.Declaration.external h) = refl
whole_local a sc t (decl.Declaration.procedure h items ss) = refl
whole_local a sc t (decl.Declaration.subroutine h s) = refl

-- the rest of a list, behind a declaration
rest_of_locals : (a : Around) (t : Table Sort) (d : Declaration) (ds : Declarations) (g : Option Fault)
    → found_locals a (behind_declaration a.names (find t) d) ds g ≡ found_locals a (find (with_declaration a.names t d)) ds g
rest_of_locals a t d ds g = ap (λ (here : Names). found_locals a here ds g) (sym (find_declaration a.names t d))

locals_last : (a : Around) (t : Table Sort) (ds : Declarations) (f : Option Fault) (fs : List Fault)
    → found_locals a (find t) ds (first_fault f fs) ≡ first_fault (found_locals a (find t) ds f) fs
locals_last a t decl.none f fs = refl
locals_last a t (decl.and d ds) f fs =
    let u = with_declaration a.names t d in
    rest_of_locals a t d ds (found_local a (find t) d (first_fault f fs))
    ∙ ap (found_locals a (find u) ds) (adds_last (found_local a (find t) d) (local a t d) (local_is a t d) f fs)
    ∙ locals_last a u ds (found_local a (find t) d f) fs
    ∙ ap (λ (g : Option Fault). first_fault g fs) (sym (rest_of_locals a t d ds (found_local a (find t) d f)))

locals_is : (a : Around) (sc : Scope) (t : Table Sort) (ds : Declarations) (f : Option Fault)
    → found_subroutines sc ds (found_locals a (find t) ds f) ≡ first_fault f (dr.local_faults a sc t ds)
locals_is a sc t decl.none f = refl
locals_is a sc t (decl.and d ds) f =
    let u = with_declaration a.names t d in
    let g = found_local a (find t) d f in
    ap (λ (e : Option Fault). found_subroutines sc ds (found_inner sc d e)) (rest_of_locals a t d ds g)
    ∙ both_walks sc d ds (found_locals a (find u) ds) (dr.local_faults a sc u ds) (dr.local_faults_of a sc t d) g f (locals_is a sc u ds)
    (ap (λ (e : Option Fault). first_fault e (inner sc d)) (local_is a t d f) ∙ sym (first_then f (local a t d) (inner sc d))
    ∙ ap (first_fault f) (whole_local a sc t d))
    (locals_last a u ds)

procedure_is : (globals : Table Sort) (h : Heading) (items : Declarations) (ss : List Statement) (f : Option Fault)
    → found_procedure (find globals) h items ss f ≡ first_fault f (dr.procedure_faults globals h items ss)
procedure_is globals h items ss f =
    let sc = dr.procedure_scope globals h items in
    let own = found_locals (around_procedure (find globals) h) (find (parameters (formals_of h))) items (found_heading h.split h f) in
    ap (λ (s : Scope). found_body s (statements ss) (found_subroutines s items own)) (scope_is globals h items)
    ∙ behind _ f (dr.heading_faults h.split h ++ dr.local_faults (around_procedure (find globals) h) sc (parameters (formals_of h)) items)
    (found_body sc (statements ss)) (body_faults sc (statements ss)) (body_is sc (statements ss))
    (behind _ f (dr.heading_faults h.split h)
    (λ (e : Option Fault). found_subroutines sc items (found_locals (around_procedure (find globals) h) (find (parameters (formals_of h))) items e))
    (dr.local_faults (around_procedure (find globals) h) sc (parameters (formals_of h)) items)
    (locals_is (around_procedure (find globals) h) sc (parameters (formals_of h)) items) (heading_is h.split h f)) ∙ simp first_then refl

-- ---- units

by_procedure : (t : Table Sort) (p : Option Profile) (h : Heading) → procedure_by (find t) p h ≡ dr.procedure_by t p h
by_procedure t None h = refl
by_procedure t (Some p) h = refl

-- the faults of a declaration of a unit, but for a subroutine's own
global : Around → List Routine → Waiting → Table Sort → Declaration → Declarations → List Fault
global a others waiting t (decl.Declaration.data_items own k items) ds = dr.items_faults a t own k items
global a others waiting t (decl.Declaration.equate es) ds = dr.equates_faults a t es
global a others waiting t (decl.Declaration.intrinsic xs) ds = dr.intrinsics_faults t xs
global a others waiting t (decl.Declaration.label xs) ds = dr.labels_faults t xs
global a others waiting t (decl.Declaration.forward h) ds = dr.twice t h.name h.at ++ dr.heading_faults h.split h ++ unless (dr.gets_body ds h.name) 19 h.at
global a others waiting t (decl.Declaration.external h) ds = dr.twice t h.name h.at ++ dr.heading_faults h.split h ++ dr.external_faults h others
global a others waiting t (decl.Declaration.procedure h items ss) ds =
    dr.procedure_by t (find waiting h.name) h ++ dr.procedure_faults (with_declaration nothing_declared t (decl.Declaration.procedure h items ss)) h items ss
global a others waiting t (decl.Declaration.subroutine h s) ds = dr.twice t h.name h.at ++ unless (not a.subprogram) 28 h.at

global_is : (a : Around) (others : List Routine) (waiting : Waiting) (t : Table Sort) (d : Declaration) (ds : Declarations) (f : Option Fault)
    → found_global a others waiting (find t) d ds f ≡ first_fault f (global a others waiting t d ds)
unfolding global
global_is a others waiting t (decl.Declaration.data_items own k items) ds f = items_is a t own k items f
global_is a others waiting t (decl.Declaration.equate es) ds f = equates_is a t es f
global_is a others waiting t (decl.Declaration.intrinsic xs) ds f = intrinsics_is t xs f
global_is a others waiting t (decl.Declaration.label xs) ds f = labels_is t xs f
global_is a others waiting t (decl.Declaration.forward h) ds f = simp first_then refl
global_is a others waiting t (decl.Declaration.external h) ds f = simp first_then refl
global_is a others waiting t (decl.Declaration.procedure h items ss) ds f =
    let u = with_declaration nothing_declared t (decl.Declaration.procedure h items ss) in
    let by = procedure_by (find t) (find waiting h.name) h in
    ap (λ (globals : Names). found_procedure globals h items ss (first_fault f by)) (sym (find_declared t h.name (n.procedure (profile_of h))))
    ∙ procedure_is u h items ss (first_fault f by)
    ∙ ap (λ (gs : List Fault). first_fault (first_fault f gs) (dr.procedure_faults u h items ss)) (by_procedure t (find waiting h.name) h)
    ∙ sym (first_then f (dr.procedure_by t (find waiting h.name) h) (dr.procedure_faults u h items ss))
global_is a others waiting t (decl.Declaration.subroutine h s) ds f = simp first_then refl

whole_global : (a : Around) (sc : Scope) (others : List Routine) (waiting : Waiting) (t : Table Sort) (d : Declaration) (ds : Declarations)
    → global a others waiting t d ds ++ inner sc d ≡ dr.global_faults a sc others waiting t d ds
unfolding global inner
whole_global a sc others waiting t (decl.Declaration.data_items own k items) ds = append-nil _
whole_global a sc others waiting t (decl.Declaration.equate es) ds = append-nil _
whole_global a sc others waiting t (decl.Declaration.intrinsic xs) ds = append-nil _
whole_global a sc others waiting t (decl.Declaration.label xs) ds = append-nil _
whole_global a sc others waiting t (decl.Declaration.forward h) ds = append-nil _
whole_global a sc others waiting t (decl.Declaration.external h) ds = append-nil _
whole_global a sc others waiting t (decl.Declaration.procedure h items ss) ds = append-nil _
whole_global a sc others waiting t (decl.Declaration.subroutine h s) ds = refl

-- the rest of a list, behind a declaration
pub rest_of_globals : (a : Around) (others : List Routine) (waiting : Waiting) (t : Table Sort) (d : Declaration) (ds : Declarations) (g : Option Fault)
    → found_globals a others waiting (behind_declaration nothing_declared (find t) d) ds g
    ≡ found_globals a others waiting (find (with_declaration nothing_declared t d)) ds g
rest_of_globals a others waiting t d ds g = ap (λ (here : Names). found_globals a others waiting here ds g) (sym (find_declaration nothing_declared t d))

pub globals_last : (a : Around) (others : List Routine) (waiting : Waiting) (t : Table Sort) (ds : Declarations) (f : Option Fault) (fs : List Fault)
    → found_globals a others waiting (find t) ds (first_fault f fs) ≡ first_fault (found_globals a others waiting (find t) ds f) fs
globals_last a others waiting t decl.none f fs = refl
globals_last a others waiting t (decl.and d ds) f fs =
    let u = with_declaration nothing_declared t d in
    let w = dr.waiting_behind waiting d in
    let step = λ (e : Option Fault). found_global a others waiting (find t) d ds e in
    rest_of_globals a others w t d ds (step (first_fault f fs))
    ∙ ap (found_globals a others w (find u) ds) (adds_last step (global a others waiting t d ds) (global_is a others waiting t d ds) f fs)
    ∙ globals_last a others w u ds (step f) fs
    ∙ ap (λ (g : Option Fault). first_fault g fs) (sym (rest_of_globals a others w t d ds (step f)))

globals_is : (a : Around) (sc : Scope) (others : List Routine) (waiting : Waiting) (t : Table Sort) (ds : Declarations) (f : Option Fault)
    → found_subroutines sc ds (found_globals a others waiting (find t) ds f) ≡ first_fault f (dr.globals_faults a sc others waiting t ds)
globals_is a sc others waiting t decl.none f = refl
globals_is a sc others waiting t (decl.and d ds) f =
    let u = with_declaration nothing_declared t d in
    let w = dr.waiting_behind waiting d in
    let g = found_global a others waiting (find t) d ds f in
    ap (λ (e : Option Fault). found_subroutines sc ds (found_inner sc d e)) (rest_of_globals a others w t d ds g)
    ∙ both_walks sc d ds (found_globals a others w (find u) ds) (dr.globals_faults a sc others w u ds) (dr.global_faults a sc others waiting t d ds) g f
    (globals_is a sc others w u ds)
    (ap (λ (e : Option Fault). first_fault e (inner sc d)) (global_is a others waiting t d ds f) ∙ sym (first_then f (global a others waiting t d ds) (inner sc d))
    ∙ ap (first_fault f) (whole_global a sc others waiting t d ds))
    (globals_last a others w u ds)

silent_is : (unit : At) (ss : List Statement) (f : Option Fault) → found_silent unit ss f ≡ first_fault f (dr.silent_faults unit ss)
silent_is unit [] f = refl
silent_is unit (s ∷ ss) f = silent_is unit ss _ ∙ simp first_then refl

-- a main body's scope by its names
abbrev main_with : Names → Scope
main_with names = record { names = names; is_local = λ x. true; results = []; split = false; is_main = true }

-- the scope of a main body
main_is : (u : Source) → scope_in_main u ≡ dr.main_scope u
main_is u = ap (λ (names : Names). main_with names) (sym (find_declarations nothing_declared [] (declarations u.tree.items)))

unit_is : (others : List Routine) (u : Source) (f : Option Fault) → found_unit others u f ≡ first_fault f (dr.unit_faults others u)
unit_is others u f =
    let sc = dr.main_scope u in
    let items = declarations u.tree.items in
    let list = dr.globals_faults (around_unit u) sc others [] [] items in
    let body = body_faults sc (statements u.tree.statements) in
    let silent = dr.silent_faults u.tree.at u.tree.statements in
    let first = found_globals (around_unit u) others [] nothing_declared items f in
    let by = λ (s : Scope). found_body s (statements u.tree.statements) (found_subroutines s items first) in
    let whole : by sc ≡ first_fault f (list ++ body) =
    behind _ f list (found_body sc (statements u.tree.statements)) body (body_is sc (statements u.tree.statements))
    (globals_is (around_unit u) sc others [] [] items f) in
    ap (λ (s : Scope). if u.subprogram then found_silent u.tree.at u.tree.statements (by s) else by s) (main_is u)
    ∙ chosen u.subprogram (by sc) _ _ silent [] (silent_is u.tree.at u.tree.statements (by sc)) refl
    ∙ noted (by sc) f (list ++ body) (if u.subprogram then silent else []) whole ∙ simp first_then refl

units_is : (before us : List Source) (f : Option Fault) → found_units before us f ≡ first_fault f (faults_behind before us)
units_is before [] f = refl
units_is before (u ∷ us) f = behind _ f (dr.unit_faults (all_routines before ++ all_routines us) u) (found_units (before ++ u ∷ []) us) (faults_behind (before ++ u ∷ []) us)
    (units_is (before ++ u ∷ []) us) (unit_is (all_routines before ++ all_routines us) u f)

pub first_found : FirstRulesAreFound
first_found us = units_is [] us None
