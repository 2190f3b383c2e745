-- What names stand for is as their uses ask, declaration by declaration, where these break no rule.
-- 1. headings                                      (kinds_fit)
-- 2. lists of declarations, whatever is said        (all_items ..)
-- 3. lists of procedures that break no rule        (fit_locals)
-- 4. lists of units                                 (fit_globals)
use Rattle.std.proofs.Common.{◌≡◌, ℕ, not, Bool, true, false, if◌then◌else◌, List, [], ◌∷◌, ◌++◌, Option, Some, None, is_some, refl, subst}
use Rattle.std.specs.List.{list_all}
use Rattle.std.proofs.lemmas.Bool.{and_from, and_parts}
use Rattle.spl_shapes.specs.spl_tree.declared.expressions.Kind.{Kind}
use Rattle.spl_shapes.specs.spl_tree.DeclarationTrees as decl
use Rattle.spl_shapes.specs.spl_tree.DeclarationTrees.{Placed, Spec, Item, Equal, Heading, Declaration, Declarations}
use Rattle.spl_shapes.specs.spl_tree.StatementTrees.{Statement}
use Rattle.spl_sound_beginnings.specs.spl_meaning.Names as n
use Rattle.spl_sound_beginnings.specs.spl_meaning.Names.{Names, Sort, Table, find, within, nothing_declared, parameters, formals_among, formals_of, profile_of, spec_of, kind_in, intrinsic_named, sum_value, sort_by}
use Rattle.spl_sound_beginnings.specs.spl_meaning.Tables.{Routine, declared, shaped, intrinsic_sort, with_items, with_equates, with_intrinsics, with_labels, with_declaration, with_declarations}
use Rattle.spl_sound_beginnings.specs.spl_meaning.Faults.{unless}
use Rattle.spl_sound_beginnings.specs.spl_meaning.ExpressionRules.{Scope}
use Rattle.spl_sound_beginnings.specs.spl_meaning.StatementRules.{body_faults, statement_faults, repeated, all_labels}
use Rattle.spl_shapes.specs.spl_tree.StatementTrees.{statements}
use Rattle.spl_sound_beginnings.specs.spl_meaning.DeclarationRules.{Around, Waiting, twice, gets_body, external_faults, without_kind, heading_faults, procedure_by, procedure_scope, procedure_faults, subroutine_scope, subroutine_faults, declared_subroutine, local_faults_of, local_faults, global_faults, globals_faults, waiting_behind}
use Rattle.spl_sound_beginnings.proofs.spl_sound_names_proofs.Tables.{left_none, right_none, unless_none, never, all_declared}
use Rattle.spl_sound_beginnings.proofs.spl_sound_names_proofs.Units.{kinds_none}
use Rattle.spl_sound_beginnings.proofs.spl_sound_names_proofs.Walks.{around_unit}
use Rattle.spl_shapes.specs.Shapes.{is_local, are_local}
use Rattle.spl_sound_beginnings.proofs.spl_sound_names_proofs.Levels.{some_same}
use Rattle.spl_ruled_bodies.specs.Ruled.{have_kinds, IsFit, AreFit}

-- ---- 1. headings

-- a parameter that a specification names has its kind
kind_there : (o : Option Spec) → is_some o ≡ true → is_some (kind_in o) ≡ true
kind_there (Some l) is = refl
kind_there None is = never is

-- so have all of them, where none is without one
kinds_among : (h : Heading) (ns : List Placed) → without_kind h.specs ns ≡ [] → list_all (λ f. is_some f.kind) (formals_among h ns) ≡ true
kinds_among h [] none = refl
kinds_among h (p ∷ ps) none =
    let has = is_some (spec_of h.specs p.letters) in
    and_from (is_some (kind_in (spec_of h.specs p.letters))) (list_all (λ f. is_some f.kind) (formals_among h ps))
    (kind_there (spec_of h.specs p.letters) (unless_none has 18 p.at (left_none (unless has 18 p.at) (without_kind h.specs ps) none)))
    (kinds_among h ps (right_none (unless has 18 p.at) (without_kind h.specs ps) none))

-- the parameters of a heading that breaks no rule have kinds
pub kinds_fit : (split : Bool) (h : Heading) → heading_faults split h ≡ [] → have_kinds (profile_of h) ≡ true
kinds_fit split h none = kinds_among h h.names (kinds_none split h none)

-- ---- 2. lists of declarations

-- so it is with what each name of a list stands for
abbrev pub All : (List ℕ → Sort → Type 0) → Table Sort → Type 0
All P t = (x : List ℕ) (s : Sort) → find t x ≡ Some s → P x s

-- so it stays behind items, names for constants, intrinsics and labels, where what these declare is so
pub all_items : (P : List ℕ → Sort → Type 0) (outer : Names) (own : Bool) (k : Kind) (t : Table Sort) (is : List Item)
    → ((x : List ℕ) (names : Names) (shape : decl.Shape) → P x (shaped names own k shape)) → All P t → All P (with_items outer own k t is)
all_items P outer own k t [] one all = all
all_items P outer own k t (i ∷ is) one all =
    all_items P outer own k (declared t i.name (shaped (within t outer) own k i.shape)) is one
    (all_declared P t i.name (shaped (within t outer) own k i.shape) all (one i.name (within t outer) i.shape))

pub all_equates : (P : List ℕ → Sort → Type 0) (outer : Names) (t : Table Sort) (es : List Equal) → ((x : List ℕ) (v : Option _) → P x (n.equate v)) → All P t
    → All P (with_equates outer t es)
all_equates P outer t [] one all = all
all_equates P outer t (e ∷ es) one all =
    let s = n.equate (n.kept_value (sum_value (within t outer) e.terms)) in
    all_equates P outer (declared t e.name s) es one (all_declared P t e.name s all (one e.name (n.kept_value (sum_value (within t outer) e.terms))))

pub all_intrinsics : (P : List ℕ → Sort → Type 0) (t : Table Sort) (xs : List Placed) → ((x : List ℕ) → P x (intrinsic_sort (intrinsic_named x))) → All P t
    → All P (with_intrinsics t xs)
all_intrinsics P t [] one all = all
all_intrinsics P t (x ∷ xs) one all =
    let s = intrinsic_sort (intrinsic_named x.letters) in
    all_intrinsics P (declared t x.letters s) xs one (all_declared P t x.letters s all (one x.letters))

pub all_labels_of : (P : List ℕ → Sort → Type 0) (t : Table Sort) (xs : List Placed) → ((x : List ℕ) → P x n.label) → All P t → All P (with_labels t xs)
all_labels_of P t [] one all = all
all_labels_of P t (x ∷ xs) one all = all_labels_of P (declared t x.letters n.label) xs one (all_declared P t x.letters n.label all (one x.letters))

-- ---- 3. lists that break no rule

-- nothing is asked of an item
shaped_fit : (x : List ℕ) (names : Names) (own : Bool) (k : Kind) (shape : decl.Shape) → IsFit x (shaped names own k shape)
shaped_fit x names own k decl.Shape.simple = tt
shaped_fit x names own k (decl.Shape.array low high) = tt
shaped_fit x names own k (decl.Shape.view base) = tt
shaped_fit x names own k decl.Shape.pointer = tt

-- an intrinsic is declared by its own name
intrinsic_fit : (x : List ℕ) → IsFit x (intrinsic_sort (intrinsic_named x))
intrinsic_fit x = by (intrinsic_named x) refl
  where
    by : (o : Option _) → intrinsic_named x ≡ o → IsFit x (intrinsic_sort o)
    by (Some i) is = is
    by None is = tt

-- parameters
sorted_fit : (x : List ℕ) (k : Option Kind) (array value : Bool) → IsFit x (sort_by k array value)
sorted_fit x None array value = tt
sorted_fit x (Some k) true value = tt
sorted_fit x (Some k) false true = tt
sorted_fit x (Some k) false false = tt

pub fit_parameters : (fs : List n.Formal) → AreFit (find (parameters fs))
fit_parameters [] x s is = cc
fit_parameters (f ∷ fs) x s is = by (n.same_name x f.name) (λ there. fit_parameters fs x s there) is
  where
    by : (b : Bool) → (find (parameters fs) x ≡ Some s → IsFit x s) → (if b then Some (sort_by f.kind f.array f.value) else find (parameters fs) x) ≡ Some s → IsFit x s
    by true others there = subst (IsFit x) (some_same (sort_by f.kind f.array f.value) s there) (sorted_fit x f.kind f.array f.value)
    by false others there = others there

-- the heading of a subroutine that breaks no rule
pub inner_heading : (a : Around) (t : Table Sort) (sc : Scope) (h : Heading) (s : Statement) → declared_subroutine a t sc h s ≡ [] → subroutine_faults sc h s ≡ []
inner_heading a t sc h s none = right_none (twice t h.name h.at ++ unless (not a.subprogram) 28 h.at) (subroutine_faults sc h s) none

-- so its parameters have kinds
inner_kinds : (sc : Scope) (h : Heading) (s : Statement) → subroutine_faults sc h s ≡ [] → have_kinds (profile_of h) ≡ true
inner_kinds sc h s none =
    let statement = statement_faults (subroutine_scope sc h) [] false s in
    kinds_fit sc.split h
    (left_none (heading_faults sc.split h) statement (left_none (heading_faults sc.split h ++ statement) (repeated 20 [] (all_labels s)) none))

-- a procedure or a subroutine more
fit_called : (t : Table Sort) (h : Heading) → AreFit (find t) → have_kinds (profile_of h) ≡ true → AreFit (find (declared t h.name (n.procedure (profile_of h))))
fit_called t h all kinds = all_declared IsFit t h.name (n.procedure (profile_of h)) all kinds

fit_inner : (t : Table Sort) (h : Heading) → AreFit (find t) → have_kinds (profile_of h) ≡ true → AreFit (find (declared t h.name (n.subroutine (profile_of h))))
fit_inner t h all kinds = all_declared IsFit t h.name (n.subroutine (profile_of h)) all kinds

-- behind one declaration of a procedure
fit_local : (a : Around) (sc : Scope) (t : Table Sort) (d : Declaration) → is_local d ≡ true → AreFit (find t) → local_faults_of a sc t d ≡ []
    → AreFit (find (with_declaration a.names t d))
fit_local a sc t (decl.Declaration.data_items own k items) local all none = all_items IsFit a.names own k t items (λ x names shape. shaped_fit x names own k shape) all
fit_local a sc t (decl.Declaration.equate es) local all none = all_equates IsFit a.names t es (λ x v. tt) all
fit_local a sc t (decl.Declaration.intrinsic xs) local all none = all_intrinsics IsFit t xs intrinsic_fit all
fit_local a sc t (decl.Declaration.label xs) local all none = all_labels_of IsFit t xs (λ x. tt) all
fit_local a sc t (decl.Declaration.forward h) local all none = never local
fit_local a sc t (decl.Declaration.external h) local all none = never local
fit_local a sc t (decl.Declaration.procedure h items ss) local all none = never local
fit_local a sc t (decl.Declaration.subroutine h s) local all none = fit_inner t h all (inner_kinds sc h s (inner_heading a t sc h s none))

-- behind all of them
pub fit_locals : (a : Around) (sc : Scope) (t : Table Sort) (ds : Declarations) → are_local ds ≡ true → AreFit (find t) → local_faults a sc t ds ≡ []
    → AreFit (find (with_declarations a.names t ds))
fit_locals a sc t decl.none local all none = all
fit_locals a sc t (decl.and d ds) local all none =
    let behind = with_declaration a.names t d in
    let both = and_parts (is_local d) (are_local ds) local in
    fit_locals a sc behind ds both.1 (fit_local a sc t d both.0 all (left_none (local_faults_of a sc t d) (local_faults a sc behind ds) none))
    (right_none (local_faults_of a sc t d) (local_faults a sc behind ds) none)

-- ---- 4. the list of a unit

-- the heading, the list and the statements of a procedure
pub record ProcedureNone (globals : Table Sort) (h : Heading) (items : Declarations) (ss : List Statement) : Type 0 where
  pub heading : heading_faults h.split h ≡ []
  pub list :
      local_faults (record { names = find globals; in_procedure = true; split = h.split; subprogram = false }) (procedure_scope globals h items)
      (parameters (formals_of h)) items ≡ []
  pub body : body_faults (procedure_scope globals h items) (statements ss) ≡ []

-- they break no rule where their procedure breaks none
pub procedure_none : (globals : Table Sort) (h : Heading) (items : Declarations) (ss : List Statement) → procedure_faults globals h items ss ≡ []
    → ProcedureNone globals h items ss
procedure_none globals h items ss none =
    let head = heading_faults h.split h in
    let local = local_faults (record { names = find globals; in_procedure = true; split = h.split; subprogram = false }) (procedure_scope globals h items)
    (parameters (formals_of h)) items in
    let body = body_faults (procedure_scope globals h items) (statements ss) in
    let both = left_none (head ++ local) body none in
    record { heading = left_none head local both; list = right_none head local both; body = right_none (head ++ local) body none }

-- behind one declaration of a unit
pub fit_global : (sub : Bool) (sc : Scope) (others : List Routine) (w : Waiting) (t : Table Sort) (d : Declaration) (ds : Declarations) → AreFit (find t)
    → global_faults (around_unit sub) sc others w t d ds ≡ [] → AreFit (find (with_declaration nothing_declared t d))
fit_global sub sc others w t (decl.Declaration.data_items own k items) ds all none =
    all_items IsFit nothing_declared own k t items (λ x names shape. shaped_fit x names own k shape) all
fit_global sub sc others w t (decl.Declaration.equate es) ds all none = all_equates IsFit nothing_declared t es (λ x v. tt) all
fit_global sub sc others w t (decl.Declaration.intrinsic xs) ds all none = all_intrinsics IsFit t xs intrinsic_fit all
fit_global sub sc others w t (decl.Declaration.label xs) ds all none = all_labels_of IsFit t xs (λ x. tt) all
fit_global sub sc others w t (decl.Declaration.forward h) ds all none =
    let first = twice t h.name h.at in
    let head = heading_faults h.split h in
    fit_called t h all (kinds_fit h.split h (right_none first head (left_none (first ++ head) (unless (gets_body ds h.name) 19 h.at) none)))
fit_global sub sc others w t (decl.Declaration.external h) ds all none =
    let first = twice t h.name h.at in
    let head = heading_faults h.split h in
    fit_called t h all (kinds_fit h.split h (right_none first head (left_none (first ++ head) (external_faults h others) none)))
fit_global sub sc others w t (decl.Declaration.procedure h items ss) ds all none =
    let globals = with_declaration nothing_declared t (decl.Declaration.procedure h items ss) in
    fit_called t h all (kinds_fit h.split h
    (procedure_none globals h items ss (right_none (procedure_by t (find w h.name) h) (procedure_faults globals h items ss) none)).heading)
fit_global sub sc others w t (decl.Declaration.subroutine h s) ds all none =
    fit_inner t h all (inner_kinds sc h s (inner_heading (around_unit sub) t sc h s none))

-- behind all of them
pub fit_globals : (sub : Bool) (sc : Scope) (others : List Routine) (w : Waiting) (t : Table Sort) (ds : Declarations) → AreFit (find t)
    → globals_faults (around_unit sub) sc others w t ds ≡ [] → AreFit (find (with_declarations nothing_declared t ds))
fit_globals sub sc others w t decl.none all none = all
fit_globals sub sc others w t (decl.and d ds) all none =
    let behind = with_declaration nothing_declared t d in
    let of_d = global_faults (around_unit sub) sc others w t d ds in
    let of_rest = globals_faults (around_unit sub) sc others (waiting_behind w d) behind ds in
    fit_globals sub sc others (waiting_behind w d) behind ds (fit_global sub sc others w t d ds all (left_none of_d of_rest none)) (right_none of_d of_rest none)
