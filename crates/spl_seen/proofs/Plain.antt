-- What the list of a split procedure declares has no elements but those of a pointer.
use Rattle.std.proofs.Common.{◌≡◌, ℕ, ◌||◌, not, Bool, true, false, if◌then◌else◌, List, [], ◌∷◌, ◌++◌, length, Option, Some, None, is_some, refl, sym, ap, ◌∙◌}
use Rattle.spl_ruled_bodies.specs.spl_tree.declared.expressions.Kind.{Kind}
use Rattle.spl_ruled_bodies.specs.spl_tree.DeclarationTrees as decl
use Rattle.spl_ruled_bodies.specs.spl_tree.DeclarationTrees.{Item, Heading, Declaration, Declarations}
use Rattle.spl_ruled_bodies.specs.spl_meaning.Names as n
use Rattle.spl_ruled_bodies.specs.spl_meaning.Names.{Names, Sort, Table, Formal, find, within, same_name, parameters, formals_of, profile_of, intrinsic_named, sort_by}
use Rattle.spl_ruled_bodies.specs.spl_meaning.Tables.{declared, shaped, intrinsic_sort, with_items, with_declaration, with_declarations}
use Rattle.spl_ruled_bodies.specs.spl_meaning.Pending.{by_value}
use Rattle.spl_ruled_bodies.specs.spl_meaning.Faults.{unless}
use Rattle.spl_ruled_bodies.specs.spl_meaning.StatementRules.{repeated}
use Rattle.spl_ruled_bodies.specs.spl_meaning.ExpressionRules.{Scope, constant_faults}
use Rattle.spl_ruled_bodies.specs.spl_meaning.DeclarationRules.{Around, twice, bounds_fit, base_faults, shape_faults, initials_faults, values_fit, may_begin, item_faults, items_faults, local_faults_of, local_faults, heading_faults, split_parameters, not_parameters, array_values, without_kind, all_listed}
use Rattle.spl_ruled_bodies.specs.spl_meaning.Names.{constant_value}
use Rattle.spl_ruled_bodies.proofs.spl_sound_names_proofs.Tables.{left_none, right_none, unless_none, never, all_declared}
use Rattle.spl_ruled_bodies.proofs.spl_sound_names_proofs.Levels.{some_same}
use Rattle.spl_ruled_bodies.proofs.Fit.{All, all_equates, all_intrinsics, all_labels_of}
use Rattle.spl_sound_values.specs.Seen.{is_plain_sort}

-- what a split procedure may declare
abbrev IsPlain : List ℕ → Sort → Type 0
IsPlain x s = is_plain_sort s ≡ true

-- a rule for procedures that are not split
no_split : {A : Type 0} (a : Around) → a.split ≡ true → not a.split ≡ true → A
no_split a split none = never (ap not (sym split) ∙ none)

-- ---- items

-- arrays are refused there
shape_plain : (a : Around) (t : Table Sort) (own : Bool) (k : Kind) (names : Names) (shape : decl.Shape) (at : _) → a.split ≡ true → shape_faults a t own k shape at ≡ []
    → is_plain_sort (shaped names own k shape) ≡ true
shape_plain a t own k names decl.Shape.simple at split none = refl
shape_plain a t own k names (decl.Shape.array low high) at split none =
    let front = constant_faults (within t a.names) at low ++ constant_faults (within t a.names) at high
    ++ unless (bounds_fit (constant_value (within t a.names) low) (constant_value (within t a.names) high)) 15 at in
    no_split a split (unless_none (not a.split) 27 at (right_none front (unless (not a.split) 27 at) none))
shape_plain a t own k names (decl.Shape.view base) at split none =
    no_split a split (unless_none (not a.split) 27 at (right_none (base_faults a.names t own k base at) (unless (not a.split) 27 at) none))
shape_plain a t own k names decl.Shape.pointer at split none = refl

-- the rules of an item have those of its shape
item_shape : (a : Around) (t : Table Sort) (own : Bool) (k : Kind) (i : Item) → item_faults a t own k i ≡ [] → shape_faults a t own k i.shape i.at ≡ []
item_shape a t own k i none =
    let front = twice t i.name i.at in
    let shape = shape_faults a t own k i.shape i.at in
    let first = initials_faults (within t a.names) k i.at i.first in
    let values = unless (values_fit (within t a.names) i.shape (length i.first)) 15 i.at in
    let begin = unless (may_begin a own i.shape (length i.first)) 17 i.at in
    let kept = unless (not own || a.in_procedure) 17 i.at in
    let whole = unless (not own || not a.split) 27 i.at in
    let data' = unless (not a.subprogram) 28 i.at in
    right_none front shape (left_none (front ++ shape) first (left_none (front ++ shape ++ first) values (left_none (front ++ shape ++ first ++ values) begin
    (left_none (front ++ shape ++ first ++ values ++ begin) kept (left_none (front ++ shape ++ first ++ values ++ begin ++ kept) whole
    (left_none (front ++ shape ++ first ++ values ++ begin ++ kept ++ whole) data' none))))))

-- item by item
plain_items : (a : Around) (own : Bool) (k : Kind) (t : Table Sort) (is : List Item) → a.split ≡ true → All IsPlain t → items_faults a t own k is ≡ []
    → All IsPlain (with_items a.names own k t is)
plain_items a own k t [] split all none = all
plain_items a own k t (i ∷ is) split all none =
    let s = shaped (within t a.names) own k i.shape in
    let one = item_faults a t own k i in
    let rest = items_faults a (declared t i.name s) own k is in
    plain_items a own k (declared t i.name s) is split
    (all_declared IsPlain t i.name s all (shape_plain a t own k (within t a.names) i.shape i.at split (item_shape a t own k i (left_none one rest none))))
    (right_none one rest none)

-- ---- lists

-- an intrinsic has no elements
intrinsic_plain : (x : List ℕ) → is_plain_sort (intrinsic_sort (intrinsic_named x)) ≡ true
intrinsic_plain x = by (intrinsic_named x)
  where
    by : (o : Option _) → is_plain_sort (intrinsic_sort o) ≡ true
    by (Some i) = refl
    by None = refl

-- behind one declaration
plain_local : (a : Around) (sc : Scope) (t : Table Sort) (d : Declaration) → a.split ≡ true → All IsPlain t → local_faults_of a sc t d ≡ []
    → All IsPlain (with_declaration a.names t d)
plain_local a sc t (decl.Declaration.data_items own k items) split all none = plain_items a own k t items split all none
plain_local a sc t (decl.Declaration.equate es) split all none = all_equates IsPlain a.names t es (λ x v. refl) all
plain_local a sc t (decl.Declaration.intrinsic xs) split all none = all_intrinsics IsPlain t xs intrinsic_plain all
plain_local a sc t (decl.Declaration.label xs) split all none = all_labels_of IsPlain t xs (λ x. refl) all
plain_local a sc t (decl.Declaration.forward h) split all none = all_declared IsPlain t h.name (n.procedure (profile_of h)) all refl
plain_local a sc t (decl.Declaration.external h) split all none = all_declared IsPlain t h.name (n.procedure (profile_of h)) all refl
plain_local a sc t (decl.Declaration.procedure h items ss) split all none = all_declared IsPlain t h.name (n.procedure (profile_of h)) all refl
plain_local a sc t (decl.Declaration.subroutine h s) split all none = all_declared IsPlain t h.name (n.subroutine (profile_of h)) all refl

-- behind all of them
pub plain_locals : (a : Around) (sc : Scope) (t : Table Sort) (ds : Declarations) → a.split ≡ true → All IsPlain t → local_faults a sc t ds ≡ []
    → (x : List ℕ) (s : Sort) → find (with_declarations a.names t ds) x ≡ Some s → is_plain_sort s ≡ true
plain_locals a sc t decl.none split all none = all
plain_locals a sc t (decl.and d ds) split all none =
    let behind = with_declaration a.names t d in
    plain_locals a sc behind ds split (plain_local a sc t d split all (left_none (local_faults_of a sc t d) (local_faults a sc behind ds) none))
    (right_none (local_faults_of a sc t d) (local_faults a sc behind ds) none)

-- ---- parameters

-- a parameter of a split heading is by value
sorted_plain : (k : Option Kind) (array value : Bool) → (not true || (if array then false else value) || not (is_some k)) ≡ true → is_plain_sort (sort_by k array value) ≡ true
sorted_plain None array value is = refl
sorted_plain (Some k) true value is = never is
sorted_plain (Some k) false true is = refl
sorted_plain (Some k) false false is = never is

-- parameter by parameter
formals_plain : (fs : List Formal) → split_parameters true fs ≡ [] → (x : List ℕ) (s : Sort) → find (parameters fs) x ≡ Some s → is_plain_sort s ≡ true
formals_plain [] none x s is = cc
formals_plain (f ∷ fs) none x s is =
    let one = unless (not true || by_value f || not (is_some f.kind)) 27 f.at in
    by (same_name x f.name) (unless_none (not true || by_value f || not (is_some f.kind)) 27 f.at (left_none one (split_parameters true fs) none))
    (λ there. formals_plain fs (right_none one (split_parameters true fs) none) x s there) is
  where
    by : (b : Bool) → (not true || by_value f || not (is_some f.kind)) ≡ true → (find (parameters fs) x ≡ Some s → is_plain_sort s ≡ true)
        → (if b then Some (sort_by f.kind f.array f.value) else find (parameters fs) x) ≡ Some s → is_plain_sort s ≡ true
    by true fits others there = ap is_plain_sort (sym (some_same (sort_by f.kind f.array f.value) s there)) ∙ sorted_plain f.kind f.array f.value fits
    by false fits others there = others there

-- the parameters of a heading that breaks no rule
pub parameters_plain : (h : Heading) (split : Bool) → split ≡ true → heading_faults split h ≡ [] → (x : List ℕ) (s : Sort) → find (parameters (formals_of h)) x ≡ Some s
    → is_plain_sort s ≡ true
parameters_plain h split is none =
    let front = repeated 2 [] h.names ++ not_parameters h.names h.values ++ not_parameters h.names (all_listed h.specs) ++ array_values h.specs h.values
    ++ without_kind h.specs h.names ++ repeated 18 [] (all_listed h.specs) in
    formals_plain (formals_of h) (ap (λ (b : Bool). split_parameters b (formals_of h)) (sym is) ∙ right_none front (split_parameters split (formals_of h)) none)
