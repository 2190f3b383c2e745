-- Units that break no rule declare each item of data once.
use Rattle.std.proofs.Common.{ℕ, ◌≡◌, Bool, true, false, List, [], ◌∷◌, ◌++◌, Option, Some, None, refl, is_some, inl, subst, ◌+◌}
use Rattle.std.specs.Prelude.{not}
use Rattle.spl_tree.specs.declared.names_and_places.At.{At}
use Rattle.spl_tree.specs.declared.expressions.Kind.{Kind}
use Rattle.spl_tree.specs.DeclarationTrees as decl
use Rattle.spl_tree.specs.DeclarationTrees.{Heading, Item, Declaration, Declarations, declarations}
use Rattle.spl_tree.specs.StatementTrees.{statements}
use Rattle.spl_sorts.specs.spl_meaning.Names.{Sort, Table, find, within, nothing_declared, parameters, formals_of}
use Rattle.spl_sorts.specs.spl_meaning.Tables.{Source, Routine, declared, shaped, with_declaration, routine_in, routines_among, routines_of}
use Rattle.spl_sorts.specs.spl_meaning.Bodies.{all_routines}
use Rattle.spl_sorts.specs.spl_meaning.Stops.{declaration_stops}
use Rattle.spl_sorts.specs.spl_meaning.ExpressionRules.{Scope}
use Rattle.spl_sorts.specs.spl_meaning.Faults.{Fault, unless, IsAmong}
use Rattle.spl_sorts.specs.spl_meaning.DeclarationRules.{Around, Waiting, item_faults, items_faults, local_faults_of, local_faults, heading_faults, procedure_by, procedure_scope, procedure_faults, global_faults, globals_faults, waiting_behind, unit_faults, main_scope}
use Rattle.spl_sorts.specs.spl_meaning.StatementRules.{body_faults}
use Rattle.spl_sorts.specs.spl_meaning.Sound.{IsSound, all_faults, faults_behind}
use Rattle.spl_places.specs.Held.{NewItems, NewIn, NewNames}
use Rattle.spl_places.specs.Programs.{Each, NewInUnit, NewInRoutine, NewInAll}

-- ---- lists of faults that are empty

left_none : {A : Type 0} (xs ys : List A) → xs ++ ys ≡ [] → xs ≡ []
left_none [] ys is = refl
left_none (x ∷ xs) ys is = cc

right_none : {A : Type 0} (xs ys : List A) → xs ++ ys ≡ [] → ys ≡ []
right_none [] ys is = is
right_none (x ∷ xs) ys is = cc

first_of_eight : (a b c d e f g h : List Fault) → a ++ b ++ c ++ d ++ e ++ f ++ g ++ h ≡ [] → a ≡ []
first_of_eight a b c d e f g h is =
    left_none a b (left_none (a ++ b) c (left_none (a ++ b ++ c) d (left_none (a ++ b ++ c ++ d) e (left_none (a ++ b ++ c ++ d ++ e) f
    (left_none (a ++ b ++ c ++ d ++ e ++ f) g (left_none (a ++ b ++ c ++ d ++ e ++ f ++ g) h is))))))

not_twice : (o : Option Sort) (at : At) → unless (not (is_some o)) 2 at ≡ [] → o ≡ None
not_twice None at is = refl
not_twice (Some s) at is = cc

-- ---- lists

items_new : (a : Around) (t : Table Sort) (own : Bool) (k : Kind) (is : List Item) → items_faults a t own k is ≡ [] → NewItems a.names own k t is
items_new a t own k [] none = tt
items_new a t own k (i ∷ is) none =
    let rest = declared t i.name (shaped (within t a.names) own k i.shape) in (
      not_twice (find t i.name) i.at (first_of_eight _ _ _ _ _ _ _ _ (left_none (item_faults a t own k i) (items_faults a rest own k is) none)),
      items_new a rest own k is (right_none (item_faults a t own k i) (items_faults a rest own k is) none),
    )

local_new_in : (a : Around) (sc : Scope) (t : Table Sort) (d : Declaration) → local_faults_of a sc t d ≡ [] → NewIn a.names t d
local_new_in a sc t (decl.Declaration.data_items own k items) none = items_new a t own k items none
local_new_in a sc t (decl.Declaration.equate es) none = tt
local_new_in a sc t (decl.Declaration.intrinsic xs) none = tt
local_new_in a sc t (decl.Declaration.label xs) none = tt
local_new_in a sc t (decl.Declaration.forward h) none = tt
local_new_in a sc t (decl.Declaration.external h) none = tt
local_new_in a sc t (decl.Declaration.procedure h items ss) none = tt
local_new_in a sc t (decl.Declaration.subroutine h s) none = tt

local_new : (a : Around) (sc : Scope) (t : Table Sort) (ds : Declarations) → local_faults a sc t ds ≡ [] → NewNames a.names t ds
local_new a sc t decl.none none = tt
local_new a sc t (decl.and d ds) none =
    let behind = with_declaration a.names t d in (
      local_new_in a sc t d (left_none (local_faults_of a sc t d) (local_faults a sc behind ds) none),
      local_new a sc behind ds (right_none (local_faults_of a sc t d) (local_faults a sc behind ds) none),
    )

-- ---- units

-- what stands around the list of a unit
abbrev pub around_unit : Bool → Around
around_unit subprogram = record { names = nothing_declared; in_procedure = false; split = false; subprogram = subprogram }

global_new_in : (subprogram : Bool) (sc : Scope) (others : List Routine) (w : Waiting) (t : Table Sort) (m : ℕ) (d : Declaration) (ds : Declarations)
    → global_faults (around_unit subprogram) sc others w t d ds ≡ [] → NewIn nothing_declared t d × Each NewInRoutine (routine_in t m d)
global_new_in subprogram sc others w t m (decl.Declaration.data_items own k items) ds none = (items_new (around_unit subprogram) t own k items none, tt)
global_new_in subprogram sc others w t m (decl.Declaration.equate es) ds none = (tt, tt)
global_new_in subprogram sc others w t m (decl.Declaration.intrinsic xs) ds none = (tt, tt)
global_new_in subprogram sc others w t m (decl.Declaration.label xs) ds none = (tt, tt)
global_new_in subprogram sc others w t m (decl.Declaration.forward h) ds none = (tt, tt)
global_new_in subprogram sc others w t m (decl.Declaration.external h) ds none = (tt, tt)
global_new_in subprogram sc others w t m (decl.Declaration.procedure h items ss) ds none =
    let globals = with_declaration nothing_declared t (decl.Declaration.procedure h items ss) in
    let a : Around = record { names = find globals; in_procedure = true; split = h.split; subprogram = false } in
    let own = local_faults a (procedure_scope globals h items) (parameters (formals_of h)) items in
    let body = body_faults (procedure_scope globals h items) (statements ss) in
    let all = right_none (procedure_by t (find w h.name) h) (procedure_faults globals h items ss) none in (
      tt,
      (
        local_new a (procedure_scope globals h items) (parameters (formals_of h)) items
            (right_none (heading_faults h.split h) own (left_none (heading_faults h.split h ++ own) body all)),
        tt,
      ),
    )
global_new_in subprogram sc others w t m (decl.Declaration.subroutine h s) ds none = (tt, tt)

each_both : {A : Type 0} (P : A → Type 0) (xs ys : List A) → Each P xs → Each P ys → Each P (xs ++ ys)
each_both P [] ys first second = second
each_both P (x ∷ xs) ys first second = (first.0, each_both P xs ys first.1 second)

globals_new : (subprogram : Bool) (sc : Scope) (others : List Routine) (w : Waiting) (t : Table Sort) (m : ℕ) (ds : Declarations)
    → globals_faults (around_unit subprogram) sc others w t ds ≡ [] → NewNames nothing_declared t ds × Each NewInRoutine (routines_among t m ds)
globals_new subprogram sc others w t m decl.none none = (tt, tt)
globals_new subprogram sc others w t m (decl.and d ds) none =
    let behind = with_declaration nothing_declared t d in
    let of_d = global_faults (around_unit subprogram) sc others w t d ds in
    let of_rest = globals_faults (around_unit subprogram) sc others (waiting_behind w d) behind ds in
    let first = global_new_in subprogram sc others w t m d ds (left_none of_d of_rest none) in
    let second = globals_new subprogram sc others (waiting_behind w d) behind (m + declaration_stops d) ds (right_none of_d of_rest none) in
    ((first.0, second.0), each_both NewInRoutine (routine_in t m d) (routines_among behind (m + declaration_stops d) ds) first.1 second.1)

unit_new : (others : List Routine) (u : Source) → unit_faults others u ≡ [] → NewInUnit u × Each NewInRoutine (routines_of u)
unit_new others u none =
    globals_new u.subprogram (main_scope u) others [] [] 0 (declarations u.tree.items) (left_none _ _ (left_none _ _ none))

units_new : (before us : List Source) → faults_behind before us ≡ [] → Each NewInUnit us × Each NewInRoutine (all_routines us)
units_new before [] none = (tt, tt)
units_new before (u ∷ us) none =
    let of_u = unit_faults (all_routines before ++ all_routines us) u in
    let of_rest = faults_behind (before ++ u ∷ []) us in
    let first = unit_new (all_routines before ++ all_routines us) u (left_none of_u of_rest none) in
    let second = units_new (before ++ u ∷ []) us (right_none of_u of_rest none) in
    ((first.0, second.0), each_both NewInRoutine (routines_of u) (all_routines us) first.1 second.1)

no_faults : (us : List Source) (fs : List Fault) → fs ≡ all_faults us → IsSound us → fs ≡ []
no_faults us [] is sound = refl
no_faults us (f ∷ fs) is sound = absurd (sound f.rule f.at (subst (IsAmong f) is (inl refl)))

-- Units that break no rule declare no item of data behind its own name.
pub sound_new : (us : List Source) → IsSound us → NewInAll us
sound_new us sound = units_new [] us (no_faults us (all_faults us) refl sound)
