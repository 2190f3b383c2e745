-- Labels and jumps of what breaks no rule lead somewhere.
-- 1. each label leads to its own mark                  (all_lead)
-- 2. GO TO names a label of a list around it            (statement_lands, list_lands, arms_land)
-- 3. so it is in main bodies of units                   (mains_land)
-- 4. and in their procedures                             (routines_land)
-- 5. and in the subroutines of both                      (inners_land)
use Rattle.std.proofs.Common.{ℕ, suc, ◌≡◌, ◌+◌, Bool, true, false, if◌then◌else◌, List, [], ◌∷◌, ◌++◌, Option, Some, None, is_some, refl, sym, ap, ◌∙◌, append-nil}
use Rattle.std.specs.Prelude.{not}
use Rattle.std.proofs.lemmas.Bool.{and_from, eq-eqb, false≢true}
use Rattle.spl_sound_labels.specs.spl_tree.declared.names_and_places.At.{At}
use Rattle.spl_sound_labels.specs.spl_tree.DeclarationTrees as decl
use Rattle.spl_sound_labels.specs.spl_tree.DeclarationTrees.{Declaration, Declarations, Heading, declarations}
use Rattle.spl_sound_labels.specs.spl_tree.StatementTrees as stat
use Rattle.spl_sound_labels.specs.spl_tree.StatementTrees.{Statement, Statements, statements}
use Rattle.spl_sound_labels.specs.spl_meaning.Names.{Sort, Table, find, same_name, nothing_declared, parameters, formals_of}
use Rattle.spl_sound_labels.specs.spl_meaning.Stops.{declaration_stops}
use Rattle.spl_sound_labels.specs.spl_meaning.Tables.{Source, Routine, routine_in, routines_among, subroutine_in, subroutines_among, with_declaration}
use Rattle.spl_sound_labels.specs.spl_meaning.Bodies.{all_routines}
use Rattle.spl_sound_labels.specs.spl_meaning.ExpressionRules.{Scope}
use Rattle.spl_sound_labels.specs.spl_meaning.Faults.{unless}
use Rattle.spl_sound_labels.specs.spl_meaning.DeclarationRules.{Around, Waiting, twice, heading_faults, subroutine_scope, subroutine_faults, declared_subroutine, local_faults_of, local_faults, procedure_scope, procedure_by, procedure_faults, global_faults, waiting_behind, globals_faults, silent_faults, unit_faults, main_scope}
use Rattle.spl_sound_labels.specs.spl_meaning.StatementRules.{has_name, condition_faults, single_value_faults, step_faults, counter_by, test_faults, sets_code, own_labels, all_labels, repeated, list_labels, label_faults, statement_faults, statements_faults, arms_faults, body_faults}
use Rattle.spl_sound_labels.specs.spl_meaning.Sound.{all_faults, faults_behind}
use Rattle.spl_label_marks.specs.spl_places.Programs.{Each}
use Rattle.spl_label_marks.specs.spl_statement_code.Landings.{Landing}
use Rattle.spl_label_marks.specs.spl_module_code.LabelsOfBodies.{Label, labels_in, labels_among, landed_from}
use Rattle.spl_label_marks.specs.Laws.{Lead}
use Rattle.spl_label_marks.proofs.LabelNames.{labels_lead}
use Rattle.spl_sound_labels.proofs.LabelLaws.{left_none, right_none, no_faults}
use Rattle.spl_jumps.specs.Landed.{is_landing, is_landed, are_landed}
use Rattle.spl_jumps.proofs.LabelLemmas.{same_letters}
use Rattle.spl_jumps.proofs.LandedLemmas.{either_named}
use Rattle.spl_sound_jumps.specs.Laws.{LandsInUnit, LandsInRoutine, LandsInRoutines, LandsInInner, LandsInInnersOf, LandsInInners, SoundBodiesLand, SoundMainsLand, SoundRoutinesLand, SoundInnersLand}

-- ---- 1. labels

-- each of some labels leads to where as many words wait as in its list
abbrev AllLead : (List ℕ → Option Landing) → List Label → Type 0
AllLead at [] = Unit {0}
AllLead at (x ∷ xs) = (is_landing (at x.name) x.pending ≡ true) × AllLead at xs

-- so do those of marks of their own
all_lead : (at : List ℕ → Option Landing) (mark : ℕ) (xs : List Label) → Lead at mark xs → AllLead at xs
all_lead at mark [] h = tt
all_lead at mark (x ∷ xs) h = (ap (λ (o : Option Landing). is_landing o x.pending) h.0 ∙ eq-eqb x.pending x.pending refl, all_lead at (suc mark) xs h.1)

lead_left : (at : List ℕ → Option Landing) (xs ys : List Label) → AllLead at (xs ++ ys) → AllLead at xs
lead_left at [] ys h = tt
lead_left at (x ∷ xs) ys h = (h.0, lead_left at xs ys h.1)

lead_right : (at : List ℕ → Option Landing) (xs ys : List Label) → AllLead at (xs ++ ys) → AllLead at ys
lead_right at [] ys h = h
lead_right at (x ∷ xs) ys h = lead_right at xs ys h.1

-- what leads to where some words wait leads somewhere
landing_there : (o : Option Landing) (k : ℕ) → is_landing o k ≡ true → is_some o ≡ true
landing_there None k e = e
landing_there (Some l) k e = refl

-- those before a statement lead somewhere
own_there : (at : List ℕ → Option Landing) (s : Statement) (k : ℕ) → AllLead at (labels_in s k) → (y : List ℕ) → has_name (own_labels s) y ≡ true
    → is_some (at y) ≡ true
own_there at (stat.Statement.labelled x p s) k h y is = by (same_name y x) refl is (λ other. own_there at s k h.1 y other) where
  by : (b : Bool) → same_name y x ≡ b → (if b then true else has_name (own_labels s) y) ≡ true → (has_name (own_labels s) y ≡ true → is_some (at y) ≡ true)
      → is_some (at y) ≡ true
  by true same is rest = ap (λ (n : List ℕ). is_some (at n)) (same_letters y x same) ∙ landing_there (at x) k h.0
  by false same is rest = rest is
own_there at stat.Statement.empty k h y is = absurd (false≢true is)
own_there at (stat.Statement.block ss) k h y is = absurd (false≢true is)
own_there at (stat.Statement.if_test q s ss p) k h y is = absurd (false≢true is)
own_there at (stat.Statement.while_true v s p) k h y is = absurd (false≢true is)
own_there at (stat.Statement.until_true s v p) k h y is = absurd (false≢true is)
own_there at (stat.Statement.for_values x a b v s p) k h y is = absurd (false≢true is)
own_there at (stat.Statement.case_of v ss p) k h y is = absurd (false≢true is)
own_there at (stat.Statement.go_to x p) k h y is = absurd (false≢true is)
own_there at (stat.Statement.return p) k h y is = absurd (false≢true is)
own_there at (stat.Statement.assign to v p) k h y is = absurd (false≢true is)
own_there at (stat.Statement.assign_effect to v p) k h y is = absurd (false≢true is)
own_there at (stat.Statement.do_effect v p) k h y is = absurd (false≢true is)
own_there at (stat.Statement.call x es p) k h y is = absurd (false≢true is)

-- each of some names leads somewhere
abbrev AreThere : (List ℕ → Option Landing) → List (List ℕ) → Type 0
AreThere at xs = (y : List ℕ) → has_name xs y ≡ true → is_some (at y) ≡ true

-- among these and others
both_there : (at : List ℕ → Option Landing) (xs ys : List (List ℕ)) → AreThere at xs → AreThere at ys → AreThere at (xs ++ ys)
both_there at xs ys first second y is = by (has_name xs y) refl (sym (either_named xs ys y) ∙ is) where
  by : (b : Bool) → has_name xs y ≡ b → (if b then true else has_name ys y) ≡ true → is_some (at y) ≡ true
  by true here is = first y here
  by false here is = second y is

-- the labels of a list
list_there : (at : List ℕ → Option Landing) (ss : Statements) (k : ℕ) → AllLead at (labels_among ss k) → AreThere at (list_labels ss)
list_there at stat.Statements.none k h y is = absurd (false≢true is)
list_there at (stat.Statements.and s ss) k h y is =
    both_there at (own_labels s) (list_labels ss) (λ v here. own_there at s k (lead_left at (labels_in s k) (labels_among ss k) h) v here)
    (λ v here. list_there at ss k (lead_right at (labels_in s k) (labels_among ss k) h) v here) y is

-- ---- 2. statements

unless_none : (b : Bool) (rule : ℕ) (at : At) → unless b rule at ≡ [] → b ≡ true
unless_none true rule at e = refl
unless_none false rule at e = absurd (cc e)

mutual
  statement_lands : (sc : Scope) (at : List ℕ → Option Landing) (outer : List (List ℕ)) → AreThere at outer → (s : Statement) (k : ℕ) → AllLead at (labels_in s k)
      → (after : Bool) → statement_faults sc outer after s ≡ [] → is_landed at outer s k ≡ true
  statement_lands sc at outer around stat.Statement.empty k own after none = refl
  statement_lands sc at outer around (stat.Statement.labelled y p s) k own after none =
      and_from (is_landing (at y) k) (is_landed at outer s k) own.0 (statement_lands sc at outer around s k own.1 false none)
  statement_lands sc at outer around (stat.Statement.block ss) k own after none =
      list_lands sc at (outer ++ list_labels ss) (both_there at outer (list_labels ss) around (list_there at ss k own)) ss k own false none
  statement_lands sc at outer around (stat.Statement.if_test q s ss p) k own after none =
      let test = test_faults sc after q p in
      let first = statement_faults sc outer false s in
      let other = arms_faults sc outer ss in
      and_from (is_landed at outer s k) (are_landed at outer ss k)
      (statement_lands sc at outer around s k (lead_left at (labels_in s k) (labels_among ss k) own) false (right_none test first (left_none (test ++ first) other none)))
      (arms_land sc at outer around ss k (lead_right at (labels_in s k) (labels_among ss k) own) (right_none (test ++ first) other none))
  statement_lands sc at outer around (stat.Statement.while_true v s p) k own after none =
      statement_lands sc at outer around s k own false (right_none (condition_faults sc p v) (statement_faults sc outer false s) none)
  statement_lands sc at outer around (stat.Statement.until_true s v p) k own after none =
      statement_lands sc at outer around s k own false (left_none (statement_faults sc outer false s) (condition_faults sc p v) none)
  statement_lands sc at outer around (stat.Statement.for_values x first step last s p) k own after none =
      let front = counter_by sc x (sc.names x) p ++ single_value_faults sc p first ++ step_faults sc p step ++ single_value_faults sc p last in
      statement_lands sc at outer around s (k + 3) own false (right_none front (statement_faults sc outer false s) none)
  statement_lands sc at outer around (stat.Statement.case_of v ss p) k own after none =
      arms_land sc at (outer ++ list_labels ss) (both_there at outer (list_labels ss) around (list_there at ss k own)) ss k own
      (right_none (single_value_faults sc p v) (arms_faults sc (outer ++ list_labels ss) ss) none)
  statement_lands sc at outer around (stat.Statement.go_to x p) k own after none =
      let named = unless_none (has_name outer x) 21 p none in and_from (has_name outer x) (is_some (at x)) named (around x named)
  statement_lands sc at outer around (stat.Statement.return p) k own after none = refl
  statement_lands sc at outer around (stat.Statement.assign to v p) k own after none = refl
  statement_lands sc at outer around (stat.Statement.assign_effect to v p) k own after none = refl
  statement_lands sc at outer around (stat.Statement.do_effect v p) k own after none = refl
  statement_lands sc at outer around (stat.Statement.call x es p) k own after none = refl

  -- a list
  list_lands : (sc : Scope) (at : List ℕ → Option Landing) (outer : List (List ℕ)) → AreThere at outer → (ss : Statements) (k : ℕ) → AllLead at (labels_among ss k)
      → (after : Bool) → statements_faults sc outer after ss ≡ [] → are_landed at outer ss k ≡ true
  list_lands sc at outer around stat.Statements.none k own after none = refl
  list_lands sc at outer around (stat.Statements.and s ss) k own after none =
      let first = statement_faults sc outer after s in
      let others = statements_faults sc outer (sets_code sc.names s) ss in
      and_from (is_landed at outer s k) (are_landed at outer ss k)
      (statement_lands sc at outer around s k (lead_left at (labels_in s k) (labels_among ss k) own) after (left_none first others none))
      (list_lands sc at outer around ss k (lead_right at (labels_in s k) (labels_among ss k) own) (sets_code sc.names s) (right_none first others none))

  -- arms
  arms_land : (sc : Scope) (at : List ℕ → Option Landing) (outer : List (List ℕ)) → AreThere at outer → (ss : Statements) (k : ℕ) → AllLead at (labels_among ss k)
      → arms_faults sc outer ss ≡ [] → are_landed at outer ss k ≡ true
  arms_land sc at outer around stat.Statements.none k own none = refl
  arms_land sc at outer around (stat.Statements.and s ss) k own none =
      let first = statement_faults sc outer false s in
      let others = arms_faults sc outer ss in
      and_from (is_landed at outer s k) (are_landed at outer ss k)
      (statement_lands sc at outer around s k (lead_left at (labels_in s k) (labels_among ss k) own) false (left_none first others none))
      (arms_land sc at outer around ss k (lead_right at (labels_in s k) (labels_among ss k) own) (right_none first others none))

-- ---- 3. bodies

pub bodies_land : SoundBodiesLand
bodies_land sc ss none mark =
    let of_statements = left_none (statements_faults sc (list_labels ss) false ss) (label_faults ss) none in
    let once = right_none (statements_faults sc (list_labels ss) false ss) (label_faults ss) none in
    let at = find (landed_from mark (labels_among ss 0)) in
    let own = all_lead at mark (labels_among ss 0) (labels_lead mark ss 0 once) in
    list_lands sc at (list_labels ss) (list_there at ss 0 own) ss 0 own false of_statements

unit_lands : (others : List Routine) (u : Source) → unit_faults others u ≡ [] → LandsInUnit u
unit_lands others u none =
    let around : Around = record { names = nothing_declared; in_procedure = false; split = false; subprogram = u.subprogram } in
    let lists = globals_faults around (main_scope u) others [] [] (declarations u.tree.items) in
    let body = body_faults (main_scope u) (statements u.tree.statements) in
    let silent = if u.subprogram then silent_faults u.tree.at u.tree.statements else [] in
    bodies_land (main_scope u) (statements u.tree.statements) (right_none lists body (left_none (lists ++ body) silent none))

units_land : (before us : List Source) → faults_behind before us ≡ [] → Each LandsInUnit us
units_land before [] none = tt
units_land before (u ∷ us) none =
    let of_u = unit_faults (all_routines before ++ all_routines us) u in
    let of_rest = faults_behind (before ++ u ∷ []) us in
    (unit_lands (all_routines before ++ all_routines us) u (left_none of_u of_rest none), units_land (before ++ u ∷ []) us (right_none of_u of_rest none))

pub mains_land : SoundMainsLand
mains_land us sound = units_land [] us (no_faults us (all_faults us) refl sound)

-- ---- 4. procedures

each_both : {A : Type 0} (P : A → Type 0) (xs ys : List A) → Each P xs → Each P ys → Each P (xs ++ ys)
each_both P [] ys first second = second
each_both P (x ∷ xs) ys first second = (first.0, each_both P xs ys first.1 second)

-- the procedure that a declaration is
own_lands : (a : Around) (sc : Scope) (others : List Routine) (waiting : Waiting) (table : Table Sort) (m : ℕ) (d : Declaration) (ds : Declarations)
    → global_faults a sc others waiting table d ds ≡ [] → Each LandsInRoutine (routine_in table m d)
own_lands a sc others waiting table m (decl.Declaration.procedure h items ss) ds none =
    let globals = with_declaration nothing_declared table (decl.Declaration.procedure h items ss) in
    let scope = procedure_scope globals h items in
    let around : Around = record { names = find globals; in_procedure = true; split = h.split; subprogram = false } in
    let lists = heading_faults h.split h ++ local_faults around scope (parameters (formals_of h)) items in
    let body = body_faults scope (statements ss) in
    let own = right_none (procedure_by table (find waiting h.name) h) (procedure_faults globals h items ss) none in
    (bodies_land scope (statements ss) (right_none lists body own), tt)
own_lands a sc others waiting table m (decl.Declaration.subroutine h s) ds none = tt
own_lands a sc others waiting table m (decl.Declaration.data_items own k items) ds none = tt
own_lands a sc others waiting table m (decl.Declaration.equate es) ds none = tt
own_lands a sc others waiting table m (decl.Declaration.intrinsic xs) ds none = tt
own_lands a sc others waiting table m (decl.Declaration.label xs) ds none = tt
own_lands a sc others waiting table m (decl.Declaration.forward h) ds none = tt
own_lands a sc others waiting table m (decl.Declaration.external h) ds none = tt

among_land : (a : Around) (sc : Scope) (others : List Routine) (waiting : Waiting) (table : Table Sort) (m : ℕ) (ds : Declarations)
    → globals_faults a sc others waiting table ds ≡ [] → Each LandsInRoutine (routines_among table m ds)
among_land a sc others waiting table m decl.none none = tt
among_land a sc others waiting table m (decl.and d ds) none =
    let own = global_faults a sc others waiting table d ds in
    let rest = globals_faults a sc others (waiting_behind waiting d) (with_declaration nothing_declared table d) ds in
    each_both LandsInRoutine (routine_in table m d) (routines_among (with_declaration nothing_declared table d) (m + declaration_stops d) ds)
    (own_lands a sc others waiting table m d ds (left_none own rest none))
    (among_land a sc others (waiting_behind waiting d) (with_declaration nothing_declared table d) (m + declaration_stops d) ds (right_none own rest none))

unit_routines_land : (others : List Routine) (u : Source) → unit_faults others u ≡ [] → LandsInRoutines u
unit_routines_land others u none =
    let around : Around = record { names = nothing_declared; in_procedure = false; split = false; subprogram = u.subprogram } in
    let lists = globals_faults around (main_scope u) others [] [] (declarations u.tree.items) in
    let body = body_faults (main_scope u) (statements u.tree.statements) in
    let silent = if u.subprogram then silent_faults u.tree.at u.tree.statements else [] in
    among_land around (main_scope u) others [] [] 0 (declarations u.tree.items) (left_none lists body (left_none (lists ++ body) silent none))

units_routines_land : (before us : List Source) → faults_behind before us ≡ [] → Each LandsInRoutines us
units_routines_land before [] none = tt
units_routines_land before (u ∷ us) none =
    let of_u = unit_faults (all_routines before ++ all_routines us) u in
    let of_rest = faults_behind (before ++ u ∷ []) us in (
      unit_routines_land (all_routines before ++ all_routines us) u (left_none of_u of_rest none),
      units_routines_land (before ++ u ∷ []) us (right_none of_u of_rest none),
    )

pub routines_land : SoundRoutinesLand
routines_land us sound = units_routines_land [] us (no_faults us (all_faults us) refl sound)

-- ---- 5. subroutines

-- the statement of one, around which is no list
inner_lands : (a : Around) (t : Table Sort) (sc : Scope) (m : ℕ) (h : Heading) (s : Statement) → declared_subroutine a t sc h s ≡ []
    → LandsInInner (record { heading = h; statement = s; before = m })
inner_lands a t sc m h s none mark =
    let head = twice t h.name h.at ++ unless (not a.subprogram) 28 h.at in
    let statement = statement_faults (subroutine_scope sc h) [] false s in
    let labels = repeated 20 [] (all_labels s) in
    let in_list = right_none head (subroutine_faults sc h s) none in
    let of_statement = right_none (heading_faults sc.split h) statement (left_none (heading_faults sc.split h ++ statement) labels in_list) in
    let once : label_faults (stat.Statements.and s stat.Statements.none) ≡ [] =
    ap (λ xs. repeated 20 [] xs) (append-nil (all_labels s)) ∙ right_none (heading_faults sc.split h ++ statement) labels in_list in
    let alone = stat.Statements.and s stat.Statements.none in
    let at = find (landed_from mark (labels_among alone 0)) in
    let own = all_lead at mark (labels_among alone 0) (labels_lead mark alone 0 once) in
    and_from (is_landed at [] s 0) true
    (statement_lands (subroutine_scope sc h) at [] (λ y is. absurd (false≢true is)) s 0 (lead_left at (labels_in s 0) [] own) false of_statement) refl

-- those in the list of a procedure
local_inners : (a : Around) (sc : Scope) (t : Table Sort) (m : ℕ) (d : Declaration) → local_faults_of a sc t d ≡ [] → Each LandsInInner (subroutine_in m d)
local_inners a sc t m (decl.Declaration.data_items own k items) none = tt
local_inners a sc t m (decl.Declaration.equate es) none = tt
local_inners a sc t m (decl.Declaration.intrinsic xs) none = tt
local_inners a sc t m (decl.Declaration.label xs) none = tt
local_inners a sc t m (decl.Declaration.forward h) none = tt
local_inners a sc t m (decl.Declaration.external h) none = tt
local_inners a sc t m (decl.Declaration.procedure h items ss) none = tt
local_inners a sc t m (decl.Declaration.subroutine h s) none = (inner_lands a t sc m h s none, tt)

locals_land : (a : Around) (sc : Scope) (t : Table Sort) (m : ℕ) (ds : Declarations) → local_faults a sc t ds ≡ [] → Each LandsInInner (subroutines_among m ds)
locals_land a sc t m decl.none none = tt
locals_land a sc t m (decl.and d ds) none =
    let behind = with_declaration a.names t d in
    each_both LandsInInner (subroutine_in m d) (subroutines_among (m + declaration_stops d) ds)
    (local_inners a sc t m d (left_none (local_faults_of a sc t d) (local_faults a sc behind ds) none))
    (locals_land a sc behind (m + declaration_stops d) ds (right_none (local_faults_of a sc t d) (local_faults a sc behind ds) none))

-- of a declaration of a unit: those of the procedure, or the subroutine, that it is
global_inners : (a : Around) (sc : Scope) (others : List Routine) (w : Waiting) (t : Table Sort) (m : ℕ) (d : Declaration) (ds : Declarations)
    → global_faults a sc others w t d ds ≡ [] → Each LandsInInner (subroutine_in m d) × Each LandsInInnersOf (routine_in t m d)
global_inners a sc others w t m (decl.Declaration.data_items own k items) ds none = (tt, tt)
global_inners a sc others w t m (decl.Declaration.equate es) ds none = (tt, tt)
global_inners a sc others w t m (decl.Declaration.intrinsic xs) ds none = (tt, tt)
global_inners a sc others w t m (decl.Declaration.label xs) ds none = (tt, tt)
global_inners a sc others w t m (decl.Declaration.forward h) ds none = (tt, tt)
global_inners a sc others w t m (decl.Declaration.external h) ds none = (tt, tt)
global_inners a sc others w t m (decl.Declaration.procedure h items ss) ds none =
    let globals = with_declaration nothing_declared t (decl.Declaration.procedure h items ss) in
    let around : Around = record { names = find globals; in_procedure = true; split = h.split; subprogram = false } in
    let scope = procedure_scope globals h items in
    let own = local_faults around scope (parameters (formals_of h)) items in
    let body = body_faults scope (statements ss) in
    let all = right_none (procedure_by t (find w h.name) h) (procedure_faults globals h items ss) none in
    let lists = right_none (heading_faults h.split h) own (left_none (heading_faults h.split h ++ own) body all) in
    (tt, (locals_land around scope (parameters (formals_of h)) m items lists, tt))
global_inners a sc others w t m (decl.Declaration.subroutine h s) ds none = ((inner_lands a t sc m h s none, tt), tt)

globals_land : (a : Around) (sc : Scope) (others : List Routine) (w : Waiting) (t : Table Sort) (m : ℕ) (ds : Declarations)
    → globals_faults a sc others w t ds ≡ [] → Each LandsInInner (subroutines_among m ds) × Each LandsInInnersOf (routines_among t m ds)
globals_land a sc others w t m decl.none none = (tt, tt)
globals_land a sc others w t m (decl.and d ds) none =
    let behind = with_declaration nothing_declared t d in
    let n = m + declaration_stops d in
    let own = global_faults a sc others w t d ds in
    let rest = globals_faults a sc others (waiting_behind w d) behind ds in
    let first = global_inners a sc others w t m d ds (left_none own rest none) in
    let second = globals_land a sc others (waiting_behind w d) behind n ds (right_none own rest none) in (
      each_both LandsInInner (subroutine_in m d) (subroutines_among n ds) first.0 second.0,
      each_both LandsInInnersOf (routine_in t m d) (routines_among behind n ds) first.1 second.1,
    )

unit_inners_land : (others : List Routine) (u : Source) → unit_faults others u ≡ [] → LandsInInners u
unit_inners_land others u none =
    let around : Around = record { names = nothing_declared; in_procedure = false; split = false; subprogram = u.subprogram } in
    let lists = globals_faults around (main_scope u) others [] [] (declarations u.tree.items) in
    let body = body_faults (main_scope u) (statements u.tree.statements) in
    let silent = if u.subprogram then silent_faults u.tree.at u.tree.statements else [] in
    globals_land around (main_scope u) others [] [] 0 (declarations u.tree.items) (left_none lists body (left_none (lists ++ body) silent none))

units_inners_land : (before us : List Source) → faults_behind before us ≡ [] → Each LandsInInners us
units_inners_land before [] none = tt
units_inners_land before (u ∷ us) none =
    let of_u = unit_faults (all_routines before ++ all_routines us) u in
    let of_rest = faults_behind (before ++ u ∷ []) us in (
      unit_inners_land (all_routines before ++ all_routines us) u (left_none of_u of_rest none),
      units_inners_land (before ++ u ∷ []) us (right_none of_u of_rest none),
    )

pub inners_land : SoundInnersLand
inners_land us sound = units_inners_land [] us (no_faults us (all_faults us) refl sound)
