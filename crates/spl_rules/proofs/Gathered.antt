-- The faults of a tree are those of its parts, in order.
use Rattle.std.proofs.Common.{ℕ, ◌≡◌, Bool, true, false, List, [], ◌∷◌, ◌++◌, Option, Some, refl, sym, ap, ◌∙◌}
use Rattle.std.specs.Prelude.{◌&&◌, ◌||◌, if◌then◌else◌}
use Rattle.std.proofs.lemmas.List.{append-nil}
use Rattle.spl_meaning.specs.spl_tree.declared.names_and_places.At.{At}
use Rattle.spl_meaning.specs.spl_tree.declared.expressions.Kind.{Kind}
use Rattle.spl_meaning.specs.spl_tree.declared.expressions.Kind.TheVariants as kind
use Rattle.spl_meaning.specs.spl_tree.Trees as tree
use Rattle.spl_meaning.specs.spl_tree.Trees.{Tree, Trees, Constant}
use Rattle.spl_meaning.specs.spl_tree.StatementTrees as stat
use Rattle.spl_meaning.specs.spl_tree.StatementTrees.{Statement, Statements, Target, Source, Effect, Test, statements}
use Rattle.spl_meaning.specs.spl_tree.DeclarationTrees as decl
use Rattle.spl_meaning.specs.spl_tree.DeclarationTrees.{Placed, Spec, Heading, Item, Equal, Term, Declaration, Declarations, declarations}
use Rattle.spl_meaning.specs.Names.{Names, Sort, Formal, Table, find, within, nothing_declared, parameters, formals_of}
use Rattle.spl_meaning.specs.Kinds.{callable}
use Rattle.spl_meaning.specs.Pending.{profile_formals, first_formal, other_formals}
use Rattle.spl_meaning.specs.Tables as unit
use Rattle.spl_meaning.specs.Tables.{Routine, declared, shaped, with_equates, with_intrinsics, with_labels, with_declaration}
use Rattle.spl_meaning.specs.Bodies.{all_routines}
use Rattle.spl_meaning.specs.Faults.{Fault, fault, unless}
use Rattle.spl_meaning.specs.Sound.{all_faults, faults_behind}
use Rattle.spl_meaning.specs.ExpressionRules.{Scope, count, rule_kind, is_callable, is_reference_formal, is_label_name, has_elements, name_by, own_faults, field_faults, faults, located_faults, indices_faults, arguments_faults}
use Rattle.spl_meaning.specs.StatementRules.{may_be_moved_to, target_kind_by, reference_faults, assign_faults, effect_faults, target_by, answer_by, answer_faults, assign_effect_faults, call_statement_faults, step_faults, test_faults, repeated, statement_faults, statements_faults, arms_faults, body_faults, list_labels, sets_code, all_labels, all_labels_of}
use Rattle.spl_meaning.specs.DeclarationRules.{Around, shape_faults, initials_faults, items_faults, terms_faults, equates_faults, intrinsics_faults, labels_faults, not_parameters, array_values, without_kind, split_parameters, all_listed, heading_faults, external_faults, Waiting, waiting_behind, subroutine_scope, declared_subroutine, local_faults_of, local_faults, procedure_scope, procedure_faults, global_faults, globals_faults, silent_faults, main_scope, unit_faults}
use Rattle.spl_rules.specs.Parts as part
use Rattle.spl_rules.specs.Parts.{Part}
use Rattle.spl_rules.specs.ExpressionParts.{call_parts, field_parts, own_parts, expression_parts, reference_parts, indices_parts, arguments_parts}
use Rattle.spl_rules.specs.StatementParts.{target_parts, assign_parts, effect_parts, answer_parts, assign_effect_parts, call_statement_parts, step_parts, test_parts, label_parts, statement_parts, statements_parts, arms_parts, body_parts}
use Rattle.spl_rules.specs.DeclarationParts.{shape_parts, initials_parts, items_parts, terms_parts, equates_parts, intrinsics_parts, labels_parts, parameters_parts, listed_parts, values_parts, kinds_parts, again_parts, formals_parts, heading_parts, subroutine_parts, local_parts_of, local_parts, procedure_parts, external_parts, global_parts, globals_parts, silent_parts, unit_parts, parts_behind, all_parts}
use Rattle.spl_rules.proofs.Here.{gather, gather_append, gather_if, one, next, two, shapes, name_tests}
use Rattle.spl_rules.proofs.NameTests.{variable_is, operand_is, target_is, pointer_is, counter_is, callee_is, answer_of_elements, answer_is}

-- ---- expressions

if_same : {A : Type 0} (t : Bool) (a b c d : A) → a ≡ c → b ≡ d → (if t then a else b) ≡ (if t then c else d)
if_same true a b c d e f = e
if_same false a b c d e f = f

own_gathered : (names : Names) (f : Option Formal) (e : Tree) (fs : List Fault) (ps : List Part) → fs ≡ gather ps
    → own_faults names f e fs ≡ gather (own_parts names f e ps)
own_gathered names f e fs ps h =
    if_same (is_reference_formal f && is_label_name names e) [] fs [] (gather ps) refl h
    ∙ sym (gather_if (is_reference_formal f && is_label_name names e) [] ps)

named_gathered : (sc : Scope) (x : List ℕ) (es : Trees) (at : At) (fs gs : List Fault) (ps qs : List Part) → fs ≡ gather ps → gs ≡ gather qs
    → name_by sc x (callable (sc.names x)) (count es) at ++ (if is_callable (callable (sc.names x)) then fs else gs)
    ≡ gather (part.name part.operand sc x (count es) at ∷ call_parts sc x (callable (sc.names x)) (count es) true at
    ++ (if is_callable (callable (sc.names x)) then ps else qs))
named_gathered sc x es at fs gs ps qs d e =
    let c = is_callable (callable (sc.names x)) in
    let front = part.name part.operand sc x (count es) at ∷ call_parts sc x (callable (sc.names x)) (count es) true at in
    ap (λ l. l ++ (if c then fs else gs)) (operand_is sc x (sc.names x) (count es) at refl)
    ∙ ap (λ l. gather front ++ l) (if_same c fs gs (gather ps) (gather qs) d e ∙ sym (gather_if c ps qs))
    ∙ sym (gather_append front (if c then ps else qs))

mutual
  faults_gathered : (sc : Scope) (around : At) (e : Tree) → faults sc around e ≡ gather (expression_parts sc around e)
  faults_gathered sc around (tree.Tree.number v) = refl
  faults_gathered sc around (tree.Tree.wide v) = refl
  faults_gathered sc around (tree.Tree.text bytes) = simp (shapes) refl
  faults_gathered sc around (tree.Tree.truth b) = refl
  faults_gathered sc around (tree.Tree.named x es at) =
      named_gathered sc x es at (arguments_faults sc (profile_formals (callable (sc.names x))) es at) (indices_faults sc es at)
      (arguments_parts sc (profile_formals (callable (sc.names x))) es at) (indices_parts sc es at)
      (arguments_gathered sc (profile_formals (callable (sc.names x))) es at) (indices_gathered sc es at)
  faults_gathered sc around (tree.Tree.address x es at) =
      simp (shapes, variable_is sc x (sc.names x) (count es) at, indices_gathered sc es at) refl
  faults_gathered sc around (tree.Tree.unary op e at) = simp (shapes, faults_gathered sc at e) refl
  faults_gathered sc around (tree.Tree.binary op a b at) =
      simp (shapes, faults_gathered sc at a, faults_gathered sc at b) refl
  faults_gathered sc around (tree.Tree.shift op e by at) = simp (shapes, faults_gathered sc at e) refl
  faults_gathered sc around (tree.Tree.field e start size at) = simp (shapes, faults_gathered sc at e) refl
  faults_gathered sc around (tree.Tree.transfer k e at) = faults_gathered sc at e
  faults_gathered sc around (tree.Tree.bytes op a b size at) =
      simp (shapes, located_gathered sc a, located_gathered sc b, faults_gathered sc at size) refl

  located_gathered : (sc : Scope) (e : Tree) → located_faults sc e ≡ gather (reference_parts sc e)
  located_gathered sc (tree.Tree.named x es at) =
      simp (shapes, variable_is sc x (sc.names x) (count es) at, indices_gathered sc es at) refl
  located_gathered sc (tree.Tree.number v) = refl
  located_gathered sc (tree.Tree.wide v) = refl
  located_gathered sc (tree.Tree.text bytes) = refl
  located_gathered sc (tree.Tree.truth b) = refl
  located_gathered sc (tree.Tree.address x es at) = refl
  located_gathered sc (tree.Tree.unary op e at) = refl
  located_gathered sc (tree.Tree.binary op a b at) = refl
  located_gathered sc (tree.Tree.shift op e by at) = refl
  located_gathered sc (tree.Tree.field e start size at) = refl
  located_gathered sc (tree.Tree.transfer k e at) = refl
  located_gathered sc (tree.Tree.bytes op a b size at) = refl

  indices_gathered : (sc : Scope) (es : Trees) (at : At) → indices_faults sc es at ≡ gather (indices_parts sc es at)
  indices_gathered sc tree.Trees.none at = refl
  indices_gathered sc (tree.Trees.and e es) at = simp (shapes, faults_gathered sc at e, indices_gathered sc es at) refl

  arguments_gathered : (sc : Scope) (fs : List Formal) (es : Trees) (at : At)
      → arguments_faults sc fs es at ≡ gather (arguments_parts sc fs es at)
  arguments_gathered sc fs tree.Trees.none at = refl
  arguments_gathered sc fs (tree.Trees.and e es) at =
      simp (
        shapes,
        own_gathered sc.names (first_formal fs) e (faults sc at e) (expression_parts sc at e) (faults_gathered sc at e),
        arguments_gathered sc (other_formals fs) es at,
      ) refl

-- ---- statements

field_gathered : (names : Names) (start size : Constant) (at : At) → field_faults names start size at ≡ gather (field_parts names start size at)
field_gathered names start size at = simp (shapes) refl

target_gathered : (sc : Scope) (r : Tree) → reference_faults sc r ≡ gather (target_parts part.target sc r)
target_gathered sc (tree.Tree.named x es at) =
    simp (shapes, target_is sc x (sc.names x) (count es) at refl, indices_gathered sc es at) refl
target_gathered sc (tree.Tree.number v) = refl
target_gathered sc (tree.Tree.wide v) = refl
target_gathered sc (tree.Tree.text bytes) = refl
target_gathered sc (tree.Tree.truth b) = refl
target_gathered sc (tree.Tree.address x es at) = refl
target_gathered sc (tree.Tree.unary op e at) = refl
target_gathered sc (tree.Tree.binary op a b at) = refl
target_gathered sc (tree.Tree.shift op e by at) = refl
target_gathered sc (tree.Tree.field e start size at) = refl
target_gathered sc (tree.Tree.transfer k e at) = refl
target_gathered sc (tree.Tree.bytes op a b size at) = refl

assign_gathered : (sc : Scope) (to : Target) (e : Tree) (at : At) → assign_faults sc to e at ≡ gather (assign_parts sc to e at)
assign_gathered sc (stat.Target.plain r) e at = simp (shapes, target_gathered sc r, faults_gathered sc at e) refl
assign_gathered sc (stat.Target.field r start size) e at = simp (shapes, target_gathered sc r, faults_gathered sc at e) refl
assign_gathered sc (stat.Target.address x a) e at =
    two (part.name part.pointer sc x 0 a ∷ expression_parts sc at e) (part.assigned (Some kind.Logical) (rule_kind sc.names e) at ∷ [])
    (next (part.name part.pointer sc x 0 a) (expression_parts sc at e) (pointer_is sc x (sc.names x) a) (faults_gathered sc at e))
    (one (part.assigned (Some kind.Logical) (rule_kind sc.names e) at))

effect_gathered : (sc : Scope) (e : Effect) (at : At) → effect_faults sc e at ≡ gather (effect_parts sc e at)
effect_gathered sc (stat.Effect.move to (stat.Source.counted from size)) at =
    simp (shapes, located_gathered sc to, located_gathered sc from, faults_gathered sc at size) refl
effect_gathered sc (stat.Effect.move to (stat.Source.text bytes)) at = simp (shapes, located_gathered sc to) refl
effect_gathered sc (stat.Effect.move to (stat.Source.class_of from c)) at = simp (shapes, located_gathered sc to, located_gathered sc from) refl
effect_gathered sc (stat.Effect.scan from until test) at = simp (shapes, located_gathered sc from, faults_gathered sc at test) refl

answer_by_gathered : (sc : Scope) (x : List ℕ) (es : Trees) (a at : At)
    → answer_by sc x (sc.names x) es a at ≡ gather (answer_parts sc (tree.Tree.named x es a) at)
answer_by_gathered sc x es a at = by (has_elements (sc.names x)) refl
  where
    by : (t : Bool) → has_elements (sc.names x) ≡ t
        → (if t then fault 3 a ∷ indices_faults sc es a
        else target_by sc x (sc.names x) (count es) a ++ indices_faults sc es a ++ unless (may_be_moved_to (target_kind_by (sc.names x))) 6 at)
        ≡ name_tests part.answer sc x (sc.names x) (count es) a
        ++ gather (indices_parts sc es a ++ part.answer_kind (sc.names x) at ∷ [])
    by true e =
        sym (append-nil (fault 3 a ∷ indices_faults sc es a))
        ∙ two (part.name part.answer sc x (count es) a ∷ indices_parts sc es a) (part.answer_kind (sc.names x) at ∷ [])
        (next (part.name part.answer sc x (count es) a) (indices_parts sc es a) (sym (answer_of_elements sc x (sc.names x) (count es) a e))
        (indices_gathered sc es a))
        (ap (λ t. unless (t || may_be_moved_to (target_kind_by (sc.names x))) 6 at) (sym e) ∙ one (part.answer_kind (sc.names x) at))
    by false e =
        two (part.name part.answer sc x (count es) a ∷ indices_parts sc es a) (part.answer_kind (sc.names x) at ∷ [])
        (next (part.name part.answer sc x (count es) a) (indices_parts sc es a)
        (target_is sc x (sc.names x) (count es) a refl ∙ answer_is sc x (sc.names x) (count es) a e) (indices_gathered sc es a))
        (ap (λ t. unless (t || may_be_moved_to (target_kind_by (sc.names x))) 6 at) (sym e) ∙ one (part.answer_kind (sc.names x) at))

answer_gathered : (sc : Scope) (r : Tree) (at : At) → answer_faults sc r at ≡ gather (answer_parts sc r at)
answer_gathered sc (tree.Tree.named x es a) at = answer_by_gathered sc x es a at
answer_gathered sc (tree.Tree.number v) at = refl
answer_gathered sc (tree.Tree.wide v) at = refl
answer_gathered sc (tree.Tree.text bytes) at = refl
answer_gathered sc (tree.Tree.truth b) at = refl
answer_gathered sc (tree.Tree.address x es a) at = refl
answer_gathered sc (tree.Tree.unary op e a) at = refl
answer_gathered sc (tree.Tree.binary op l r a) at = refl
answer_gathered sc (tree.Tree.shift op e by a) at = refl
answer_gathered sc (tree.Tree.field e start size a) at = refl
answer_gathered sc (tree.Tree.transfer k e a) at = refl
answer_gathered sc (tree.Tree.bytes op l r size a) at = refl

assign_effect_gathered : (sc : Scope) (to : Target) (e : Effect) (at : At)
    → assign_effect_faults sc to e at ≡ gather (assign_effect_parts sc to e at)
assign_effect_gathered sc (stat.Target.plain r) e at = simp (shapes, answer_gathered sc r at, effect_gathered sc e at) refl
assign_effect_gathered sc (stat.Target.field r start size) e at =
    two ((part.answered (stat.Target.field r start size) at ∷ target_parts part.target sc r) ++ field_parts sc.names start size at)
    (effect_parts sc e at)
    (two (part.answered (stat.Target.field r start size) at ∷ target_parts part.target sc r) (field_parts sc.names start size at)
    (ap (λ l. fault 3 at ∷ l) (target_gathered sc r)) (field_gathered sc.names start size at))
    (effect_gathered sc e at)
assign_effect_gathered sc (stat.Target.address x a) e at = simp (shapes, pointer_is sc x (sc.names x) a, effect_gathered sc e at) refl

call_gathered : (sc : Scope) (x : List ℕ) (es : Trees) (at : At)
    → call_statement_faults sc x es at ≡ gather (call_statement_parts sc x es at)
call_gathered sc x es at =
    two (part.name part.callee sc x (count es) at ∷ call_parts sc x (callable (sc.names x)) (count es) false at)
    (arguments_parts sc (profile_formals (callable (sc.names x))) es at) (callee_is sc x (sc.names x) (count es) at refl)
    (arguments_gathered sc (profile_formals (callable (sc.names x))) es at)

step_gathered : (sc : Scope) (at : At) (es : Trees) → step_faults sc at es ≡ gather (step_parts sc at es)
step_gathered sc at tree.Trees.none = refl
step_gathered sc at (tree.Trees.and e es) = simp (shapes, faults_gathered sc at e) refl

test_gathered : (sc : Scope) (after : Bool) (q : Test) (at : At) → test_faults sc after q at ≡ gather (test_parts sc after q at)
test_gathered sc after (stat.Test.condition e) at = simp (shapes, faults_gathered sc at e) refl
test_gathered sc after (stat.Test.code op) at = simp (shapes) refl

labels_gathered : (before xs : List Placed) → repeated 20 before xs ≡ gather (label_parts before xs)
labels_gathered before [] = refl
labels_gathered before (x ∷ xs) = simp (labels_gathered (x ∷ before) xs) refl

mutual
  statement_gathered : (sc : Scope) (labels : List (List ℕ)) (after : Bool) (s : Statement)
      → statement_faults sc labels after s ≡ gather (statement_parts sc labels after s)
  statement_gathered sc labels after stat.Statement.empty = refl
  statement_gathered sc labels after (stat.Statement.labelled x at s) = statement_gathered sc labels false s
  statement_gathered sc labels after (stat.Statement.block ss) = statements_gathered sc (labels ++ list_labels ss) false ss
  statement_gathered sc labels after (stat.Statement.if_test q then_part else_part at) =
      simp (shapes, test_gathered sc after q at, statement_gathered sc labels false then_part, arms_gathered sc labels else_part) refl
  statement_gathered sc labels after (stat.Statement.while_true e s at) =
      simp (shapes, faults_gathered sc at e, statement_gathered sc labels false s) refl
  statement_gathered sc labels after (stat.Statement.until_true s e at) =
      simp (shapes, faults_gathered sc at e, statement_gathered sc labels false s) refl
  statement_gathered sc labels after (stat.Statement.for_values x first step last s at) =
      simp (
        shapes,
        counter_is sc x (sc.names x) at,
        faults_gathered sc at first,
        step_gathered sc at step,
        faults_gathered sc at last,
        statement_gathered sc labels false s,
      ) refl
  statement_gathered sc labels after (stat.Statement.case_of e ss at) =
      simp (shapes, faults_gathered sc at e, arms_gathered sc (labels ++ list_labels ss) ss) refl
  statement_gathered sc labels after (stat.Statement.go_to x at) = simp (shapes) refl
  statement_gathered sc labels after (stat.Statement.return at) = simp (shapes) refl
  statement_gathered sc labels after (stat.Statement.assign to e at) = assign_gathered sc to e at
  statement_gathered sc labels after (stat.Statement.assign_effect to e at) = assign_effect_gathered sc to e at
  statement_gathered sc labels after (stat.Statement.do_effect e at) = effect_gathered sc e at
  statement_gathered sc labels after (stat.Statement.call x es at) = call_gathered sc x es at

  statements_gathered : (sc : Scope) (labels : List (List ℕ)) (after : Bool) (ss : Statements)
      → statements_faults sc labels after ss ≡ gather (statements_parts sc labels after ss)
  statements_gathered sc labels after stat.Statements.none = refl
  statements_gathered sc labels after (stat.Statements.and s ss) =
      simp (shapes, statement_gathered sc labels after s, statements_gathered sc labels (sets_code sc.names s) ss) refl

  arms_gathered : (sc : Scope) (labels : List (List ℕ)) (ss : Statements) → arms_faults sc labels ss ≡ gather (arms_parts sc labels ss)
  arms_gathered sc labels stat.Statements.none = refl
  arms_gathered sc labels (stat.Statements.and s ss) = simp (shapes, statement_gathered sc labels false s, arms_gathered sc labels ss) refl

body_gathered : (sc : Scope) (ss : Statements) → body_faults sc ss ≡ gather (body_parts sc ss)
body_gathered sc ss = simp (shapes, statements_gathered sc (list_labels ss) false ss, labels_gathered [] (all_labels_of ss)) refl

-- ---- items and names

initials_gathered : (names : Names) (k : Kind) (at : At) (cs : List Constant)
    → initials_faults names k at cs ≡ gather (initials_parts names k at cs)
initials_gathered names k at [] = refl
initials_gathered names kind.Integer at (c ∷ cs) = simp (shapes, initials_gathered names kind.Integer at cs) refl
initials_gathered names kind.Logical at (c ∷ cs) = simp (shapes, initials_gathered names kind.Logical at cs) refl
initials_gathered names kind.Byte at (c ∷ cs) = simp (shapes, initials_gathered names kind.Byte at cs) refl
initials_gathered names kind.Double at (c ∷ cs) = simp (shapes, initials_gathered names kind.Double at cs) refl

shape_gathered : (a : Around) (table : Table Sort) (own : Bool) (k : Kind) (s : decl.Shape) (at : At)
    → shape_faults a table own k s at ≡ gather (shape_parts a table own k s at)
shape_gathered a table own k decl.Shape.simple at = refl
shape_gathered a table own k (decl.Shape.array low high) at = simp (shapes) refl
shape_gathered a table own k (decl.Shape.view base) at = simp (shapes) refl
shape_gathered a table own k decl.Shape.pointer at = refl

items_gathered : (a : Around) (table : Table Sort) (own : Bool) (k : Kind) (is : List Item)
    → items_faults a table own k is ≡ gather (items_parts a table own k is)
items_gathered a table own k [] = refl
items_gathered a table own k (i ∷ is) =
    simp (
      shapes,
      shape_gathered a table own k i.shape i.at,
      initials_gathered (within table a.names) k i.at i.first,
      items_gathered a (declared table i.name (shaped (within table a.names) own k i.shape)) own k is,
    ) refl

terms_gathered : (names : Names) (at : At) (ts : List Term) → terms_faults names at ts ≡ gather (terms_parts names at ts)
terms_gathered names at [] = refl
terms_gathered names at (t ∷ ts) = simp (terms_gathered names at ts) refl

equates_gathered : (a : Around) (table : Table Sort) (es : List Equal) → equates_faults a table es ≡ gather (equates_parts a table es)
equates_gathered a table [] = refl
equates_gathered a table (e ∷ es) =
    simp (shapes, terms_gathered (within table a.names) e.at e.terms, equates_gathered a (with_equates a.names table (e ∷ [])) es) refl

intrinsics_gathered : (table : Table Sort) (xs : List Placed) → intrinsics_faults table xs ≡ gather (intrinsics_parts table xs)
intrinsics_gathered table [] = refl
intrinsics_gathered table (x ∷ xs) = simp (shapes, intrinsics_gathered (with_intrinsics table (x ∷ [])) xs) refl

label_names_gathered : (table : Table Sort) (xs : List Placed) → labels_faults table xs ≡ gather (labels_parts table xs)
label_names_gathered table [] = refl
label_names_gathered table (x ∷ xs) = simp (label_names_gathered (with_labels table (x ∷ [])) xs) refl

-- ---- headings

parameters_gathered : (before xs : List Placed) → repeated 2 before xs ≡ gather (parameters_parts before xs)
parameters_gathered before [] = refl
parameters_gathered before (x ∷ xs) = simp (parameters_gathered (x ∷ before) xs) refl

listed_gathered : (names xs : List Placed) → not_parameters names xs ≡ gather (listed_parts names xs)
listed_gathered names [] = refl
listed_gathered names (x ∷ xs) = simp (listed_gathered names xs) refl

values_gathered : (specs : List Spec) (xs : List Placed) → array_values specs xs ≡ gather (values_parts specs xs)
values_gathered specs [] = refl
values_gathered specs (x ∷ xs) = simp (values_gathered specs xs) refl

kinds_gathered : (specs : List Spec) (xs : List Placed) → without_kind specs xs ≡ gather (kinds_parts specs xs)
kinds_gathered specs [] = refl
kinds_gathered specs (x ∷ xs) = simp (kinds_gathered specs xs) refl

again_gathered : (before xs : List Placed) → repeated 18 before xs ≡ gather (again_parts before xs)
again_gathered before [] = refl
again_gathered before (x ∷ xs) = simp (again_gathered (x ∷ before) xs) refl

formals_gathered : (split : Bool) (fs : List Formal) → split_parameters split fs ≡ gather (formals_parts split fs)
formals_gathered split [] = refl
formals_gathered split (f ∷ fs) = simp (formals_gathered split fs) refl

heading_gathered : (split : Bool) (h : Heading) → heading_faults split h ≡ gather (heading_parts split h)
heading_gathered split h =
    simp (
      shapes,
      parameters_gathered [] h.names,
      listed_gathered h.names h.values,
      listed_gathered h.names (all_listed h.specs),
      values_gathered h.specs h.values,
      kinds_gathered h.specs h.names,
      again_gathered [] (all_listed h.specs),
      formals_gathered split (formals_of h),
    ) refl

-- the lists of a heading
ruleset headings = (parameters_gathered, listed_gathered, values_gathered, kinds_gathered, again_gathered, formals_gathered)

-- ---- subroutines, procedures and units

subroutine_gathered : (a : Around) (table : Table Sort) (sc : Scope) (h : Heading) (s : Statement)
    → declared_subroutine a table sc h s ≡ gather (subroutine_parts a table sc h s)
subroutine_gathered a table sc h s =
    simp (shapes, headings, statement_gathered (subroutine_scope sc h) [] false s, labels_gathered [] (all_labels s)) refl

local_gathered_of : (a : Around) (sc : Scope) (table : Table Sort) (d : Declaration)
    → local_faults_of a sc table d ≡ gather (local_parts_of a sc table d)
local_gathered_of a sc table (decl.Declaration.data_items own k items) = items_gathered a table own k items
local_gathered_of a sc table (decl.Declaration.equate es) = equates_gathered a table es
local_gathered_of a sc table (decl.Declaration.intrinsic xs) = intrinsics_gathered table xs
local_gathered_of a sc table (decl.Declaration.label xs) = label_names_gathered table xs
local_gathered_of a sc table (decl.Declaration.forward h) = refl
local_gathered_of a sc table (decl.Declaration.external h) = refl
local_gathered_of a sc table (decl.Declaration.procedure h items ss) = refl
local_gathered_of a sc table (decl.Declaration.subroutine h s) = subroutine_gathered a table sc h s

local_gathered : (a : Around) (sc : Scope) (table : Table Sort) (ds : Declarations)
    → local_faults a sc table ds ≡ gather (local_parts a sc table ds)
local_gathered a sc table decl.none = refl
local_gathered a sc table (decl.and d ds) =
    simp (shapes, local_gathered_of a sc table d, local_gathered a sc (with_declaration a.names table d) ds) refl

procedure_gathered : (globals : Table Sort) (h : Heading) (items : Declarations) (ss : List Statement)
    → procedure_faults globals h items ss ≡ gather (procedure_parts globals h items ss)
procedure_gathered globals h items ss =
    let a : Around = record { names = find globals; in_procedure = true; split = h.split; subprogram = false } in
    let sc = procedure_scope globals h items in
    two (heading_parts h.split h ++ local_parts a sc (parameters (formals_of h)) items) (body_parts sc (statements ss))
    (two (heading_parts h.split h) (local_parts a sc (parameters (formals_of h)) items) (heading_gathered h.split h)
    (local_gathered a sc (parameters (formals_of h)) items))
    (body_gathered sc (statements ss))

external_gathered : (h : Heading) (rs : List Routine) → external_faults h rs ≡ gather (external_parts h rs)
external_gathered h [] = refl
external_gathered h (r ∷ rs) = simp (external_gathered h rs) refl

global_gathered : (a : Around) (sc : Scope) (others : List Routine) (waiting : Waiting) (table : Table Sort) (d : Declaration) (ds : Declarations)
    → global_faults a sc others waiting table d ds ≡ gather (global_parts a sc others waiting table d ds)
global_gathered a sc others waiting table (decl.Declaration.data_items own k items) ds = items_gathered a table own k items
global_gathered a sc others waiting table (decl.Declaration.equate es) ds = equates_gathered a table es
global_gathered a sc others waiting table (decl.Declaration.intrinsic xs) ds = intrinsics_gathered table xs
global_gathered a sc others waiting table (decl.Declaration.label xs) ds = label_names_gathered table xs
global_gathered a sc others waiting table (decl.Declaration.forward h) ds = simp (shapes, headings) refl
global_gathered a sc others waiting table (decl.Declaration.external h) ds =
    simp (shapes, headings, external_gathered h others) refl
global_gathered a sc others waiting table (decl.Declaration.procedure h items ss) ds =
    let globals = with_declaration nothing_declared table (decl.Declaration.procedure h items ss) in
    next (part.body table (find waiting h.name) h) (procedure_parts globals h items ss) refl (procedure_gathered globals h items ss)
global_gathered a sc others waiting table (decl.Declaration.subroutine h s) ds = subroutine_gathered a table sc h s

globals_gathered : (a : Around) (sc : Scope) (others : List Routine) (waiting : Waiting) (table : Table Sort) (ds : Declarations)
    → globals_faults a sc others waiting table ds ≡ gather (globals_parts a sc others waiting table ds)
globals_gathered a sc others waiting table decl.none = refl
globals_gathered a sc others waiting table (decl.and d ds) =
    simp (
      shapes,
      global_gathered a sc others waiting table d ds,
      globals_gathered a sc others (waiting_behind waiting d) (with_declaration nothing_declared table d) ds,
    ) refl

silent_gathered : (at : At) (ss : List Statement) → silent_faults at ss ≡ gather (silent_parts at ss)
silent_gathered at [] = refl
silent_gathered at (s ∷ ss) = simp (silent_gathered at ss) refl

unit_gathered : (others : List Routine) (u : unit.Source) → unit_faults others u ≡ gather (unit_parts others u)
unit_gathered others u =
    simp (
      shapes,
      globals_gathered (record { names = nothing_declared; in_procedure = false; split = false; subprogram = u.subprogram }) (main_scope u)
          others [] [] (declarations u.tree.items),
      body_gathered (main_scope u) (statements u.tree.statements),
      silent_gathered u.tree.at u.tree.statements,
    ) refl

behind_gathered : (before us : List unit.Source) → faults_behind before us ≡ gather (parts_behind before us)
behind_gathered before [] = refl
behind_gathered before (u ∷ us) =
    two (unit_parts (all_routines before ++ all_routines us) u) (parts_behind (before ++ u ∷ []) us)
    (unit_gathered (all_routines before ++ all_routines us) u) (behind_gathered (before ++ u ∷ []) us)

pub all_gathered : (us : List unit.Source) → all_faults us ≡ gather (all_parts us)
all_gathered us = behind_gathered [] us
