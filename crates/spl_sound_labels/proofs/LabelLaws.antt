-- Units that break no rule bear each label of a body once: the faults of rule 20 are among those of each body, subroutine by subroutine,
-- procedure by procedure, unit by unit.
use Rattle.std.proofs.Common.{ℕ, ◌≡◌, Bool, true, false, not, if◌then◌else◌, List, [], ◌∷◌, ◌++◌, refl, inl, subst, ap, ◌∙◌, ◌+◌}
use Rattle.spl_places.specs.spl_tree.DeclarationTrees as decl
use Rattle.spl_places.specs.spl_tree.DeclarationTrees.{Heading, Declaration, Declarations, declarations}
use Rattle.spl_places.specs.spl_tree.StatementTrees.{Statement, Statements, statements}
use Rattle.spl_places.specs.spl_meaning.Names.{Sort, Table, find, nothing_declared, parameters, formals_of}
use Rattle.spl_places.specs.spl_meaning.Tables.{Source, Routine, with_declaration, routine_in, routines_among, routines_of, subroutine_in, subroutines_among}
use Rattle.spl_places.specs.spl_meaning.Bodies.{all_routines}
use Rattle.spl_places.specs.spl_meaning.Stops.{declaration_stops}
use Rattle.spl_places.specs.spl_meaning.ExpressionRules.{Scope}
use Rattle.spl_places.specs.spl_meaning.Faults.{Fault, unless, IsAmong}
use Rattle.spl_places.specs.spl_meaning.DeclarationRules.{Around, Waiting, twice, subroutine_scope, subroutine_faults, declared_subroutine, local_faults_of, local_faults, heading_faults, procedure_by, procedure_scope, procedure_faults, global_faults, globals_faults, waiting_behind, silent_faults, unit_faults, main_scope}
use Rattle.spl_places.specs.spl_meaning.StatementRules.{repeated, all_labels, list_labels, statement_faults, statements_faults, label_faults, body_faults}
use Rattle.spl_places.specs.spl_meaning.Sound.{IsSound, all_faults, faults_behind}
use Rattle.spl_places.specs.Programs.{Each}
use Rattle.spl_sound_labels.specs.Labels.{LabelsOnce, LabelsOnceInSubroutine, LabelsOnceInRoutine, LabelsOnceInUnit, LabelsOnceInAll}

-- ---- lists of faults that are empty

pub left_none : {A : Type 0} (xs ys : List A) → xs ++ ys ≡ [] → xs ≡ []
left_none [] ys is = refl
left_none (x ∷ xs) ys is = cc

pub right_none : {A : Type 0} (xs ys : List A) → xs ++ ys ≡ [] → ys ≡ []
right_none [] ys is = is
right_none (x ∷ xs) ys is = cc

none_behind : {A : Type 0} (xs : List A) → xs ++ [] ≡ xs
none_behind [] = refl
none_behind (x ∷ xs) = ap (λ ys. x ∷ ys) (none_behind xs)

each_both : {A : Type 0} (P : A → Type 0) (xs ys : List A) → Each P xs → Each P ys → Each P (xs ++ ys)
each_both P [] ys first second = second
each_both P (x ∷ xs) ys first second = (first.0, each_both P xs ys first.1 second)

-- ---- bodies

-- the faults of a body end with those of its labels
body_once : (sc : Scope) (ss : Statements) → body_faults sc ss ≡ [] → LabelsOnce ss
body_once sc ss none = right_none (statements_faults sc (list_labels ss) false ss) (label_faults ss) none

-- and so do those of a subroutine
subroutine_once : (a : Around) (t : Table Sort) (sc : Scope) (m : ℕ) (h : Heading) (s : Statement) → declared_subroutine a t sc h s ≡ []
    → LabelsOnceInSubroutine (record { heading = h; statement = s; before = m })
subroutine_once a t sc m h s none =
    let head = twice t h.name h.at ++ unless (not a.subprogram) 28 h.at in
    let statement = statement_faults (subroutine_scope sc h) [] false s in
    let in_list = right_none head (subroutine_faults sc h s) none in
    let of_labels = right_none (heading_faults sc.split h ++ statement) (repeated 20 [] (all_labels s)) in_list in
    ap (λ xs. repeated 20 [] xs) (none_behind (all_labels s)) ∙ of_labels

-- ---- lists

local_once : (a : Around) (sc : Scope) (t : Table Sort) (m : ℕ) (d : Declaration) → local_faults_of a sc t d ≡ [] → Each LabelsOnceInSubroutine (subroutine_in m d)
local_once a sc t m (decl.Declaration.data_items own k items) none = tt
local_once a sc t m (decl.Declaration.equate es) none = tt
local_once a sc t m (decl.Declaration.intrinsic xs) none = tt
local_once a sc t m (decl.Declaration.label xs) none = tt
local_once a sc t m (decl.Declaration.forward h) none = tt
local_once a sc t m (decl.Declaration.external h) none = tt
local_once a sc t m (decl.Declaration.procedure h items ss) none = tt
local_once a sc t m (decl.Declaration.subroutine h s) none = (subroutine_once a t sc m h s none, tt)

locals_once : (a : Around) (sc : Scope) (t : Table Sort) (m : ℕ) (ds : Declarations) → local_faults a sc t ds ≡ [] → Each LabelsOnceInSubroutine (subroutines_among m ds)
locals_once a sc t m decl.none none = tt
locals_once a sc t m (decl.and d ds) none =
    let behind = with_declaration a.names t d in
    let n = m + declaration_stops d in
    let first = local_once a sc t m d (left_none (local_faults_of a sc t d) (local_faults a sc behind ds) none) in
    let second = locals_once a sc behind n ds (right_none (local_faults_of a sc t d) (local_faults a sc behind ds) none) in
    each_both LabelsOnceInSubroutine (subroutine_in m d) (subroutines_among n ds) first second

-- ---- units

-- in a declaration of a unit: the procedure, or the subroutine, that it is
global_once : (a : Around) (sc : Scope) (others : List Routine) (w : Waiting) (t : Table Sort) (m : ℕ) (d : Declaration) (ds : Declarations)
    → global_faults a sc others w t d ds ≡ [] → Each LabelsOnceInRoutine (routine_in t m d) × Each LabelsOnceInSubroutine (subroutine_in m d)
global_once a sc others w t m (decl.Declaration.data_items own k items) ds none = (tt, tt)
global_once a sc others w t m (decl.Declaration.equate es) ds none = (tt, tt)
global_once a sc others w t m (decl.Declaration.intrinsic xs) ds none = (tt, tt)
global_once a sc others w t m (decl.Declaration.label xs) ds none = (tt, tt)
global_once a sc others w t m (decl.Declaration.forward h) ds none = (tt, tt)
global_once a sc others w t m (decl.Declaration.external h) ds none = (tt, tt)
global_once a sc others w t m (decl.Declaration.procedure h items ss) ds none =
    let globals = with_declaration nothing_declared t (decl.Declaration.procedure h items ss) in
    let around : Around = record { names = find globals; in_procedure = true; split = h.split; subprogram = false } in
    let inside = procedure_scope globals h items in
    let own = local_faults around inside (parameters (formals_of h)) items in
    let body = body_faults inside (statements ss) in
    let all = right_none (procedure_by t (find w h.name) h) (procedure_faults globals h items ss) none in
    let head = heading_faults h.split h in
    let once = body_once inside (statements ss) (right_none (head ++ own) body all) in
    let inner = locals_once around inside (parameters (formals_of h)) m items (right_none head own (left_none (head ++ own) body all)) in
    (((once, inner), tt), tt)
global_once a sc others w t m (decl.Declaration.subroutine h s) ds none = (tt, (subroutine_once a t sc m h s none, tt))

globals_once : (a : Around) (sc : Scope) (others : List Routine) (w : Waiting) (t : Table Sort) (m : ℕ) (ds : Declarations)
    → globals_faults a sc others w t ds ≡ [] → Each LabelsOnceInRoutine (routines_among t m ds) × Each LabelsOnceInSubroutine (subroutines_among m ds)
globals_once a sc others w t m decl.none none = (tt, tt)
globals_once a sc others w t m (decl.and d ds) none =
    let behind = with_declaration nothing_declared t d in
    let n = m + declaration_stops d in
    let of_d = global_faults a sc others w t d ds in
    let of_rest = globals_faults a sc others (waiting_behind w d) behind ds in
    let first = global_once a sc others w t m d ds (left_none of_d of_rest none) in
    let second = globals_once a sc others (waiting_behind w d) behind n ds (right_none of_d of_rest none) in (
      each_both LabelsOnceInRoutine (routine_in t m d) (routines_among behind n ds) first.0 second.0,
      each_both LabelsOnceInSubroutine (subroutine_in m d) (subroutines_among n ds) first.1 second.1,
    )

-- what stands around the list of a unit
abbrev around_unit : Bool → Around
around_unit subprogram = record { names = nothing_declared; in_procedure = false; split = false; subprogram = subprogram }

unit_once : (others : List Routine) (u : Source) → unit_faults others u ≡ [] → LabelsOnceInUnit u × Each LabelsOnceInRoutine (routines_of u)
unit_once others u none =
    let lists = globals_faults (around_unit u.subprogram) (main_scope u) others [] [] (declarations u.tree.items) in
    let body = body_faults (main_scope u) (statements u.tree.statements) in
    let silent = if u.subprogram then silent_faults u.tree.at u.tree.statements else [] in
    let of_all = left_none (lists ++ body) silent none in
    let of_lists = globals_once (around_unit u.subprogram) (main_scope u) others [] [] 0 (declarations u.tree.items) (left_none lists body of_all) in
    ((body_once (main_scope u) (statements u.tree.statements) (right_none lists body of_all), of_lists.1), of_lists.0)

units_once : (before us : List Source) → faults_behind before us ≡ [] → LabelsOnceInAll us
units_once before [] none = (tt, tt)
units_once before (u ∷ us) none =
    let of_u = unit_faults (all_routines before ++ all_routines us) u in
    let of_rest = faults_behind (before ++ u ∷ []) us in
    let first = unit_once (all_routines before ++ all_routines us) u (left_none of_u of_rest none) in
    let second = units_once (before ++ u ∷ []) us (right_none of_u of_rest none) in
    ((first.0, second.0), each_both LabelsOnceInRoutine (routines_of u) (all_routines us) first.1 second.1)

pub no_faults : (us : List Source) (fs : List Fault) → fs ≡ all_faults us → IsSound us → fs ≡ []
no_faults us [] is sound = refl
no_faults us (f ∷ fs) is sound = absurd (sound f.rule f.at (subst (IsAmong f) is (inl refl)))

-- Units that break no rule bear no label twice in one body.
pub sound_labels : (us : List Source) → IsSound us → LabelsOnceInAll us
sound_labels us sound = units_once [] us (no_faults us (all_faults us) refl sound)
