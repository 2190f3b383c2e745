-- The names of statements that break no rule are found, where what names stand for is known, and has its place or its entry.
-- 1. names and values                  (named_found, value_found)
-- 2. labels                            (own_among, list_among)
-- 3. statements, along the tree         (statement_found, statements_found)
use Rattle.std.proofs.Common.{◌≡◌, ℕ, ◌+◌, ◌==◌, ◌||◌, not, Bool, true, false, if◌then◌else◌, List, [], ◌∷◌, ◌++◌, Option, Some, None, is_some, refl, subst, ap, ◌∙◌}
use Rattle.std.proofs.lemmas.Bool.{and_from}
use Rattle.spl_sound_names.specs.spl_tree.declared.names_and_places.At.{At}
use Rattle.spl_sound_names.specs.spl_tree.declared.expressions.Kind.TheVariants as kind
use Rattle.spl_sound_names.specs.spl_tree.Trees as tree
use Rattle.spl_sound_names.specs.spl_tree.Trees.{Tree}
use Rattle.spl_sound_names.specs.spl_tree.StatementTrees as stat
use Rattle.spl_sound_names.specs.spl_tree.StatementTrees.{Statement, Statements, Target}
use Rattle.spl_sound_names.specs.spl_meaning.Names as n
use Rattle.spl_sound_names.specs.spl_meaning.Names.{Sort, same_name, text_value}
use Rattle.spl_sound_names.specs.spl_meaning.Kinds.{is_double, callable, variable_kind, compares_text, complement}
use Rattle.spl_sound_names.specs.spl_meaning.Pending.{profile_formals}
use Rattle.spl_sound_names.specs.spl_meaning.Places.{Place}
use Rattle.spl_sound_names.specs.spl_meaning.References.{access_of}
use Rattle.spl_sound_names.specs.spl_meaning.Values.{sense_of}
use Rattle.spl_sound_names.specs.spl_meaning.Faults.{Fault, fault, unless}
use Rattle.spl_sound_names.specs.spl_meaning.ExpressionRules as rule
use Rattle.spl_sound_names.specs.spl_meaning.ExpressionRules.{count, rule_kind, may_compare_text, variable_by, variable_faults, uncalled_by, name_by, is_callable, faults, far_faults, indices_faults, arguments_faults, binary_faults, bits_faults, field_faults, is_pointer}
use Rattle.spl_sound_names.specs.spl_meaning.StatementRules.{has_name, called_by, reference_faults, pointer_faults, fit_faults, field_kind, target_kind, is_single, assign_faults, condition_faults, single_value_faults, step_faults, counter_by, test_faults, own_labels, list_labels, statement_faults, statements_faults, arms_faults, sets_code}
use Rattle.spl_beginnings.specs.spl_code.Calls.{Scope}
use Rattle.spl_piece_kinds.specs.spl_module_code.LabelsOfBodies.{Label, labels_in, labels_among}
use Rattle.spl_beginnings.specs.Found.{leads, has_place, has_sense, has_value, is_found, are_found}
use Rattle.spl_sound_beginnings.specs.FoundBodies.{bears}
use Rattle.spl_sound_names.specs.Known.{NamesAreFound}
use Rattle.spl_sound_names.proofs.Tables.{left_none, right_none, clash, unless_none, never}

-- ---- 1. names and values

-- the scope of code in which a scope of rules has these places and entries
abbrev pub seen : rule.Scope → (List ℕ → Option Place) → (List ℕ → Option ℕ) → (List ℕ → Option ℕ) → Scope
seen sc places procedures subroutines = record { names = sc.names; places = places; procedures = procedures; subroutines = subroutines }

-- a name that leads somewhere has a place
leads_there : (sc : rule.Scope) (p : List ℕ → Option Place) (f e : List ℕ → Option ℕ) (x : List ℕ) (o : Option Sort) → sc.names x ≡ o → leads (access_of o) ≡ true
    → is_some (p x) ≡ true → has_place (seen sc p f e) x ≡ true
leads_there sc p f e x o is to there =
    and_from (is_some (p x)) (leads (access_of (sc.names x))) there (ap (λ (q : Option Sort). leads (access_of q)) is ∙ to)

-- where a variable has to be
pub variable_found : (sc : rule.Scope) (p : List ℕ → Option Place) (f e : List ℕ → Option ℕ) → NamesAreFound sc.names p e → (x : List ℕ) (given : ℕ) (at : At)
    → variable_faults sc x given at ≡ [] → has_place (seen sc p f e) x ≡ true
variable_found sc p f e found x given at none = by (sc.names x) refl none
  where
    by : (o : Option Sort) → sc.names x ≡ o → variable_by sc x (variable_kind o) o given at ≡ [] → has_place (seen sc p f e) x ≡ true
    by None is none = clash (fault 1 at) [] none
    by (Some (n.simple k own)) is none = leads_there sc p f e x (Some (n.simple k own)) is refl (found.items x _ is refl)
    by (Some (n.array k own low high)) is none = leads_there sc p f e x (Some (n.array k own low high)) is refl (found.items x _ is refl)
    by (Some (n.view k own base)) is none = leads_there sc p f e x (Some (n.view k own base)) is refl (found.items x _ is refl)
    by (Some (n.pointer k own)) is none = leads_there sc p f e x (Some (n.pointer k own)) is refl (found.items x _ is refl)
    by (Some (n.value k)) is none = leads_there sc p f e x (Some (n.value k)) is refl (found.passed x _ is refl)
    by (Some (n.by_reference k)) is none = leads_there sc p f e x (Some (n.by_reference k)) is refl (found.passed x _ is refl)
    by (Some (n.array_parameter k)) is none = leads_there sc p f e x (Some (n.array_parameter k)) is refl (found.passed x _ is refl)
    by (Some (n.equate v)) is none = clash (fault 3 at) [] none
    by (Some n.label) is none = clash (fault 3 at) [] none
    by (Some (n.intrinsic i)) is none = clash (fault 3 at) [] none
    by (Some (n.procedure q)) is none = clash (fault 3 at) [] none
    by (Some (n.subroutine q)) is none = clash (fault 3 at) [] none
    by (Some n.unknown) is none = never (found.known x n.unknown is)

or_left : (a b : Bool) → a ≡ true → (a || b) ≡ true
or_left true b is = refl
or_left false b is = never is

-- a name in an expression
named_found : (sc : rule.Scope) (p : List ℕ → Option Place) (f e : List ℕ → Option ℕ) → NamesAreFound sc.names p e → (x : List ℕ) (given : ℕ) (at : At)
    → name_by sc x (callable (sc.names x)) given at ≡ [] → has_sense (seen sc p f e) x (sense_of x (sc.names x)) ≡ true
named_found sc p f e found x given at none = by (sc.names x) refl none
  where
    by : (o : Option Sort) → sc.names x ≡ o → name_by sc x (callable o) given at ≡ [] → has_sense (seen sc p f e) x (sense_of x o) ≡ true
    by None is none = variable_found sc p f e found x given at (subst (λ (q : Option Sort). uncalled_by sc x q given at ≡ []) is none)
    by (Some (n.simple k own)) is none = variable_found sc p f e found x given at (subst (λ (q : Option Sort). uncalled_by sc x q given at ≡ []) is none)
    by (Some (n.array k own low high)) is none = variable_found sc p f e found x given at (subst (λ (q : Option Sort). uncalled_by sc x q given at ≡ []) is none)
    by (Some (n.view k own base)) is none = variable_found sc p f e found x given at (subst (λ (q : Option Sort). uncalled_by sc x q given at ≡ []) is none)
    by (Some (n.pointer k own)) is none = variable_found sc p f e found x given at (subst (λ (q : Option Sort). uncalled_by sc x q given at ≡ []) is none)
    by (Some (n.value k)) is none = variable_found sc p f e found x given at (subst (λ (q : Option Sort). uncalled_by sc x q given at ≡ []) is none)
    by (Some (n.by_reference k)) is none = variable_found sc p f e found x given at (subst (λ (q : Option Sort). uncalled_by sc x q given at ≡ []) is none)
    by (Some (n.array_parameter k)) is none = variable_found sc p f e found x given at (subst (λ (q : Option Sort). uncalled_by sc x q given at ≡ []) is none)
    by (Some n.label) is none = variable_found sc p f e found x given at (subst (λ (q : Option Sort). uncalled_by sc x q given at ≡ []) is none)
    by (Some n.unknown) is none = never (found.known x n.unknown is)
    by (Some (n.equate v)) is none = found.known x (n.equate v) is
    by (Some (n.intrinsic i)) is none = refl
    by (Some (n.procedure q)) is none = refl
    by (Some (n.subroutine q)) is none = or_left (is_some (e x)) (is_some q.result) (found.inner x (n.subroutine q) is refl)

-- what stands first in each case
first_of : (b d : Bool) (xs ys zs ws : List Fault) → (if b then xs ++ ys else if d then xs else xs ++ zs ++ ws) ≡ [] → xs ≡ []
first_of true d xs ys zs ws none = left_none xs ys none
first_of false true xs ys zs ws none = none
first_of false false xs ys zs ws none = left_none xs zs (left_none (xs ++ zs) ws none)

-- a value
value_found : (sc : rule.Scope) (p : List ℕ → Option Place) (f e : List ℕ → Option ℕ) → NamesAreFound sc.names p e → (v : Tree) (at : At)
    → faults sc at v ≡ [] → has_value (seen sc p f e) v ≡ true
value_found sc p f e found (tree.Tree.number v) at none = refl
value_found sc p f e found (tree.Tree.wide v) at none = refl
value_found sc p f e found (tree.Tree.text bytes) at none = unless_none (is_some (text_value bytes)) 14 at none
value_found sc p f e found (tree.Tree.truth b) at none = refl
value_found sc p f e found (tree.Tree.named x es a) at none =
    named_found sc p f e found x (count es) a (left_none (name_by sc x (callable (sc.names x)) (count es) a)
    (if is_callable (callable (sc.names x)) then arguments_faults sc (profile_formals (callable (sc.names x))) es a else indices_faults sc es a) none)
value_found sc p f e found (tree.Tree.address x es a) at none =
    let named = variable_faults sc x (count es) a in
    let split = unless (not sc.split || is_pointer (sc.names x)) 27 a in
    variable_found sc p f e found x (count es) a (left_none named split (left_none (named ++ split) (indices_faults sc es a) none))
value_found sc p f e found (tree.Tree.unary op v a) at none =
    value_found sc p f e found v a (left_none (faults sc a v) (if op == complement then bits_faults sc.names a v else []) none)
value_found sc p f e found (tree.Tree.binary op v w a) at none =
    value_found sc p f e found v a
    (first_of (compares_text sc.names op v w) (may_compare_text sc.names op v w) (faults sc a v) (far_faults sc v) (faults sc a w)
    (binary_faults sc.names op v w a) none)
value_found sc p f e found (tree.Tree.shift op v by a) at none = refl
value_found sc p f e found (tree.Tree.field v start size a) at none =
    let narrow = unless (not (is_double (rule_kind sc.names v))) 5 a in
    value_found sc p f e found v a
    (left_none (faults sc a v) narrow (left_none (faults sc a v ++ narrow) (field_faults sc.names start size a) none))
value_found sc p f e found (tree.Tree.transfer to v a) at none = value_found sc p f e found v a none
value_found sc p f e found (tree.Tree.bytes op v w size a) at none = refl

-- the value that is assigned, to whatever target
assigned_found : (sc : rule.Scope) (p : List ℕ → Option Place) (f e : List ℕ → Option ℕ) → NamesAreFound sc.names p e → (to : Target) (v : Tree) (at : At)
    → assign_faults sc to v at ≡ [] → has_value (seen sc p f e) v ≡ true
assigned_found sc p f e found (stat.Target.plain r) v at none =
    let reference = reference_faults sc r in
    let fit = fit_faults (target_kind sc.names r) (rule_kind sc.names v) at in
    value_found sc p f e found v at (right_none reference (faults sc at v) (left_none (reference ++ faults sc at v) fit none))
assigned_found sc p f e found (stat.Target.field r start size) v at none =
    let front = reference_faults sc r ++ unless (is_single (target_kind sc.names r)) 5 at ++ field_faults sc.names start size at in
    let fit = fit_faults (field_kind (target_kind sc.names r)) (rule_kind sc.names v) at in
    value_found sc p f e found v at (right_none front (faults sc at v) (left_none (front ++ faults sc at v) fit none))
assigned_found sc p f e found (stat.Target.address x a) v at none =
    let pointer = pointer_faults sc x (sc.names x) a in
    let fit = fit_faults (Some kind.Logical) (rule_kind sc.names v) at in
    value_found sc p f e found v at (right_none pointer (faults sc at v) (left_none (pointer ++ faults sc at v) fit none))

-- what is called by itself
called_found : (sc : rule.Scope) (p : List ℕ → Option Place) (f e : List ℕ → Option ℕ) → NamesAreFound sc.names p e → (x : List ℕ) (given : ℕ) (at : At)
    → called_by sc (callable (sc.names x)) (sc.names x) given at ≡ [] → has_sense (seen sc p f e) x (sense_of x (sc.names x)) ≡ true
called_found sc p f e found x given at none = by (sc.names x) refl none
  where
    by : (o : Option Sort) → sc.names x ≡ o → called_by sc (callable o) o given at ≡ [] → has_sense (seen sc p f e) x (sense_of x o) ≡ true
    by None is none = clash (fault 1 at) [] none
    by (Some (n.simple k own)) is none = clash (fault 3 at) [] none
    by (Some (n.array k own low high)) is none = clash (fault 3 at) [] none
    by (Some (n.view k own base)) is none = clash (fault 3 at) [] none
    by (Some (n.pointer k own)) is none = clash (fault 3 at) [] none
    by (Some (n.value k)) is none = clash (fault 3 at) [] none
    by (Some (n.by_reference k)) is none = clash (fault 3 at) [] none
    by (Some (n.array_parameter k)) is none = clash (fault 3 at) [] none
    by (Some (n.equate v)) is none = clash (fault 3 at) [] none
    by (Some n.label) is none = clash (fault 3 at) [] none
    by (Some n.unknown) is none = never (found.known x n.unknown is)
    by (Some (n.intrinsic i)) is none = refl
    by (Some (n.procedure q)) is none = refl
    by (Some (n.subroutine q)) is none = or_left (is_some (e x)) (is_some q.result) (found.inner x (n.subroutine q) is refl)

-- ---- 2. labels

pub if_more : (b c d : Bool) → (c ≡ true → d ≡ true) → (if b then true else c) ≡ true → (if b then true else d) ≡ true
if_more true c d more is = refl
if_more false c d more is = more is

pub if_later : (b c : Bool) → c ≡ true → (if b then true else c) ≡ true
if_later true c is = refl
if_later false c is = is

bears_front : (ls ms : List Label) (x : List ℕ) → bears ls x ≡ true → bears (ls ++ ms) x ≡ true
bears_front [] ms x is = never is
bears_front (l ∷ ls) ms x is = if_more (same_name x l.name) (bears ls x) (bears (ls ++ ms) x) (λ there. bears_front ls ms x there) is

bears_behind : (ls ms : List Label) (x : List ℕ) → bears ms x ≡ true → bears (ls ++ ms) x ≡ true
bears_behind [] ms x is = is
bears_behind (l ∷ ls) ms x is = if_later (same_name x l.name) (bears (ls ++ ms) x) (bears_behind ls ms x is)

-- a name among two lists is among the one or the other
named_one : (A : Type 0) (b c d : Bool) → ((if b then true else c) ≡ true → A) → ((c ≡ true → A) → d ≡ true → A) → (if b then true else d) ≡ true → A
named_one A true c d first later is = first refl
named_one A false c d first later is = later first is

named_by : (A : Type 0) (xs ys : List (List ℕ)) (x : List ℕ) → (has_name xs x ≡ true → A) → (has_name ys x ≡ true → A) → has_name (xs ++ ys) x ≡ true → A
named_by A [] ys x first second is = second is
named_by A (z ∷ xs) ys x first second is =
    named_one A (same_name x z) (has_name xs x) (has_name (xs ++ ys) x) first (λ f there. named_by A xs ys x f second there) is

-- the labels before a statement are among those in it
own_among : (s : Statement) (k : ℕ) (x : List ℕ) → has_name (own_labels s) x ≡ true → bears (labels_in s k) x ≡ true
own_among (stat.Statement.labelled y at s) k x is = if_more (same_name x y) (has_name (own_labels s) x) (bears (labels_in s k) x) (λ there. own_among s k x there) is
own_among stat.Statement.empty k x is = never is
own_among (stat.Statement.block ss) k x is = never is
own_among (stat.Statement.if_test q s ss at) k x is = never is
own_among (stat.Statement.while_true v s at) k x is = never is
own_among (stat.Statement.until_true s v at) k x is = never is
own_among (stat.Statement.for_values y first step last s at) k x is = never is
own_among (stat.Statement.case_of v ss at) k x is = never is
own_among (stat.Statement.go_to y at) k x is = never is
own_among (stat.Statement.return at) k x is = never is
own_among (stat.Statement.assign to v at) k x is = never is
own_among (stat.Statement.assign_effect to v at) k x is = never is
own_among (stat.Statement.do_effect v at) k x is = never is
own_among (stat.Statement.call y es at) k x is = never is

-- and those of a list among all in it
pub list_among : (ss : Statements) (k : ℕ) (x : List ℕ) → has_name (list_labels ss) x ≡ true → bears (labels_among ss k) x ≡ true
list_among stat.Statements.none k x is = never is
list_among (stat.Statements.and s ss) k x is =
    named_by (bears (labels_in s k ++ labels_among ss k) x ≡ true) (own_labels s) (list_labels ss) x
    (λ there. bears_front (labels_in s k) (labels_among ss k) x (own_among s k x there))
    (λ there. bears_behind (labels_in s k) (labels_among ss k) x (list_among ss k x there)) is

-- ---- 3. statements

-- each name of some labels is a label of the body
abbrev pub Inside : (List ℕ → Bool) → (List ℕ → Bool) → Type 0
Inside some labels = (x : List ℕ) → some x ≡ true → labels x ≡ true

-- the labels around a list, and those that it bears
around_list : (labels : List ℕ → Bool) (outer : List (List ℕ)) (ss : Statements) (k : ℕ) → Inside (has_name outer) labels → Inside (bears (labels_among ss k)) labels
    → Inside (has_name (outer ++ list_labels ss)) labels
around_list labels outer ss k around own x is =
    named_by (labels x ≡ true) outer (list_labels ss) x (around x) (λ there. own x (list_among ss k x there)) is

mutual
  statement_found : (sc : rule.Scope) (p : List ℕ → Option Place) (f e : List ℕ → Option ℕ) → NamesAreFound sc.names p e → (labels : List ℕ → Bool)
      (outer : List (List ℕ)) → Inside (has_name outer) labels → (s : Statement) (k : ℕ) → Inside (bears (labels_in s k)) labels → (after : Bool)
      → statement_faults sc outer after s ≡ [] → is_found (seen sc p f e) labels s ≡ true
  statement_found sc p f e found labels outer around stat.Statement.empty k own after none = refl
  statement_found sc p f e found labels outer around (stat.Statement.labelled y at s) k own after none =
      statement_found sc p f e found labels outer around s k (λ x is. own x (if_later (same_name x y) (bears (labels_in s k) x) is)) false none
  statement_found sc p f e found labels outer around (stat.Statement.block ss) k own after none =
      statements_found sc p f e found labels (outer ++ list_labels ss) (around_list labels outer ss k around own) ss k own false none
  statement_found sc p f e found labels outer around (stat.Statement.if_test q s ss at) k own after none =
      let test = test_faults sc after q at in
      let first = statement_faults sc outer false s in
      let other = arms_faults sc outer ss in
      and_from (is_found (seen sc p f e) labels s) (are_found (seen sc p f e) labels ss)
      (statement_found sc p f e found labels outer around s k (λ x is. own x (bears_front (labels_in s k) (labels_among ss k) x is)) false
      (right_none test first (left_none (test ++ first) other none)))
      (arms_found sc p f e found labels outer around ss k (λ x is. own x (bears_behind (labels_in s k) (labels_among ss k) x is)) (right_none (test ++ first) other none))
  statement_found sc p f e found labels outer around (stat.Statement.while_true v s at) k own after none =
      statement_found sc p f e found labels outer around s k own false (right_none (condition_faults sc at v) (statement_faults sc outer false s) none)
  statement_found sc p f e found labels outer around (stat.Statement.until_true s v at) k own after none =
      statement_found sc p f e found labels outer around s k own false (left_none (statement_faults sc outer false s) (condition_faults sc at v) none)
  statement_found sc p f e found labels outer around (stat.Statement.for_values x first step last s at) k own after none =
      let front = counter_by sc x (sc.names x) at ++ single_value_faults sc at first ++ step_faults sc at step ++ single_value_faults sc at last in
      statement_found sc p f e found labels outer around s (k + 3) own false (right_none front (statement_faults sc outer false s) none)
  statement_found sc p f e found labels outer around (stat.Statement.case_of v ss at) k own after none =
      arms_found sc p f e found labels (outer ++ list_labels ss) (around_list labels outer ss k around own) ss k own
      (right_none (single_value_faults sc at v) (arms_faults sc (outer ++ list_labels ss) ss) none)
  statement_found sc p f e found labels outer around (stat.Statement.go_to x at) k own after none = around x (unless_none (has_name outer x) 21 at none)
  statement_found sc p f e found labels outer around (stat.Statement.return at) k own after none = refl
  statement_found sc p f e found labels outer around (stat.Statement.assign to v at) k own after none = assigned_found sc p f e found to v at none
  statement_found sc p f e found labels outer around (stat.Statement.assign_effect to v at) k own after none = refl
  statement_found sc p f e found labels outer around (stat.Statement.do_effect v at) k own after none = refl
  statement_found sc p f e found labels outer around (stat.Statement.call x es at) k own after none =
      called_found sc p f e found x (count es) at (left_none (called_by sc (callable (sc.names x)) (sc.names x) (count es) at)
      (arguments_faults sc (profile_formals (callable (sc.names x))) es at) none)

  pub statements_found : (sc : rule.Scope) (p : List ℕ → Option Place) (f e : List ℕ → Option ℕ) → NamesAreFound sc.names p e → (labels : List ℕ → Bool)
      (outer : List (List ℕ)) → Inside (has_name outer) labels → (ss : Statements) (k : ℕ) → Inside (bears (labels_among ss k)) labels → (after : Bool)
      → statements_faults sc outer after ss ≡ [] → are_found (seen sc p f e) labels ss ≡ true
  statements_found sc p f e found labels outer around stat.Statements.none k own after none = refl
  statements_found sc p f e found labels outer around (stat.Statements.and s ss) k own after none =
      let first = statement_faults sc outer after s in
      let others = statements_faults sc outer (sets_code sc.names s) ss in
      and_from (is_found (seen sc p f e) labels s) (are_found (seen sc p f e) labels ss)
      (statement_found sc p f e found labels outer around s k (λ x is. own x (bears_front (labels_in s k) (labels_among ss k) x is)) after (left_none first others none))
      (statements_found sc p f e found labels outer around ss k (λ x is. own x (bears_behind (labels_in s k) (labels_among ss k) x is)) (sets_code sc.names s)
      (right_none first others none))

  arms_found : (sc : rule.Scope) (p : List ℕ → Option Place) (f e : List ℕ → Option ℕ) → NamesAreFound sc.names p e → (labels : List ℕ → Bool)
      (outer : List (List ℕ)) → Inside (has_name outer) labels → (ss : Statements) (k : ℕ) → Inside (bears (labels_among ss k)) labels
      → arms_faults sc outer ss ≡ [] → are_found (seen sc p f e) labels ss ≡ true
  arms_found sc p f e found labels outer around stat.Statements.none k own none = refl
  arms_found sc p f e found labels outer around (stat.Statements.and s ss) k own none =
      let first = statement_faults sc outer false s in
      let others = arms_faults sc outer ss in
      and_from (is_found (seen sc p f e) labels s) (are_found (seen sc p f e) labels ss)
      (statement_found sc p f e found labels outer around s k (λ x is. own x (bears_front (labels_in s k) (labels_among ss k) x is)) false (left_none first others none))
      (arms_found sc p f e found labels outer around ss k (λ x is. own x (bears_behind (labels_in s k) (labels_among ss k) x is)) (right_none first others none))
