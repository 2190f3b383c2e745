-- What is found along statements is the first of their faults.
use Rattle.std.proofs.Common.{ℕ, ◌≡◌, ◌||◌, Bool, true, false, List, [], ◌∷◌, ◌++◌, Option, refl, sym, ap, ◌∙◌}
use Rattle.std.specs.Prelude.{if◌then◌else◌}
use Rattle.spl_meaning.specs.spl_tree.declared.names_and_places.At.{At}
use Rattle.spl_meaning.specs.spl_tree.Trees as tree
use Rattle.spl_meaning.specs.spl_tree.Trees.{Tree, Trees}
use Rattle.spl_meaning.specs.spl_tree.StatementTrees as stat
use Rattle.spl_meaning.specs.spl_tree.StatementTrees.{Statement, Statements, Target, Effect, Test}
use Rattle.spl_meaning.specs.Names.{same_name}
use Rattle.spl_meaning.specs.Kinds.{callable}
use Rattle.spl_meaning.specs.Pending.{profile_formals}
use Rattle.spl_meaning.specs.Faults.{Fault, fault, unless, first_fault}
use Rattle.spl_meaning.specs.ExpressionRules.{Scope, rule_reference, count, has_elements, field_faults, bits_faults, single_faults, may_be_byte, faults, indices_faults}
use Rattle.spl_meaning.specs.StatementRules as sr
use Rattle.spl_found.specs.FoundExpressions.{found, found_far}
use Rattle.spl_found.specs.FoundStatements.{found_reference, found_single, found_condition, found_assign, found_effect, found_answer, found_assign_effect, found_call, found_step, found_test, with_list, found_statement, found_statements, found_arms, found_body}
use Rattle.spl_found.proofs.Order.{first_then}
use Rattle.spl_found.proofs.FoundExpressions.{chosen, found_is, far_is, indices_is, arguments_is}

-- A part that finds the first of its faults, behind another: what both find is the first of the faults of both.
pub behind : (g f : Option Fault) (fs : List Fault) (part : Option Fault → Option Fault) (own : List Fault)
    → ((h : Option Fault) → part h ≡ first_fault h own) → g ≡ first_fault f fs → part g ≡ first_fault f (fs ++ own)
behind g f fs part own is e = is g ∙ ap (λ (h : Option Fault). first_fault h own) e ∙ simp first_then refl

-- and a list of faults behind a part
pub noted : (g f : Option Fault) (fs own : List Fault) → g ≡ first_fault f fs → first_fault g own ≡ first_fault f (fs ++ own)
noted g f fs own e = ap (λ (h : Option Fault). first_fault h own) e ∙ simp first_then refl

pub reference_is : (sc : Scope) (r : Tree) (f : Option Fault) → found_reference sc r f ≡ first_fault f (sr.reference_faults sc r)
reference_is sc (tree.Tree.number v) f = refl
reference_is sc (tree.Tree.wide v) f = refl
reference_is sc (tree.Tree.text bytes) f = refl
reference_is sc (tree.Tree.truth b) f = refl
reference_is sc (tree.Tree.named x es at) f = indices_is sc es at _ ∙ simp first_then refl
reference_is sc (tree.Tree.address x es at) f = refl
reference_is sc (tree.Tree.unary op e at) f = refl
reference_is sc (tree.Tree.binary op a b at) f = refl
reference_is sc (tree.Tree.shift op e by at) f = refl
reference_is sc (tree.Tree.field e start size at) f = refl
reference_is sc (tree.Tree.transfer k e at) f = refl
reference_is sc (tree.Tree.bytes op a b size at) f = refl

pub single_is : (sc : Scope) (at : At) (e : Tree) (f : Option Fault) → found_single sc at e f ≡ first_fault f (sr.single_value_faults sc at e)
single_is sc at e f = noted (found sc at e f) f (faults sc at e) (single_faults sc.names at e) (found_is sc at e f)

pub condition_is : (sc : Scope) (at : At) (e : Tree) (f : Option Fault) → found_condition sc at e f ≡ first_fault f (sr.condition_faults sc at e)
condition_is sc at e f = noted (found sc at e f) f (faults sc at e) (bits_faults sc.names at e) (found_is sc at e f)

pub moved_is : (sc : Scope) (r : Tree) (f : Option Fault) → found_far sc r f ≡ first_fault f (sr.moved_faults sc r)
moved_is sc r f = far_is sc r f

pub assign_is : (sc : Scope) (to : Target) (e : Tree) (at : At) (f : Option Fault) → found_assign sc to e at f ≡ first_fault f (sr.assign_faults sc to e at)
assign_is sc (stat.Target.plain r) e at f =
    rw (reference_is sc r f, found_is sc at e (first_fault f (sr.reference_faults sc r))) (simp first_then refl)
assign_is sc (stat.Target.field r start size) e at f = rw (
  reference_is sc r f,
  found_is sc at e
      (first_fault (first_fault (first_fault f (sr.reference_faults sc r)) (unless (sr.is_single (sr.target_kind sc.names r)) 5 at)) (field_faults sc.names start size at)),
)
    (simp first_then refl)
assign_is sc (stat.Target.address x a) e at f = rw (found_is sc at e (first_fault f (sr.pointer_faults sc x (sc.names x) a))) (simp first_then refl)

pub effect_is : (sc : Scope) (e : Effect) (at : At) (f : Option Fault) → found_effect sc e at f ≡ first_fault f (sr.effect_faults sc e at)
effect_is sc (stat.Effect.move to (stat.Source.counted from size)) at f = rw (
  moved_is sc to f,
  moved_is sc from (first_fault f (sr.moved_faults sc to)),
  single_is sc at size (first_fault (first_fault (first_fault f (sr.moved_faults sc to)) (sr.moved_faults sc from))
      (unless (sr.moves (rule_reference sc.names to) (rule_reference sc.names from)) 24 at)),
) (simp first_then refl)
effect_is sc (stat.Effect.move to (stat.Source.text bytes)) at f = rw (moved_is sc to f) (simp first_then refl)
effect_is sc (stat.Effect.move to (stat.Source.class_of from c)) at f = rw (moved_is sc to f, moved_is sc from (first_fault f (sr.moved_faults sc to))) (simp first_then refl)
effect_is sc (stat.Effect.scan from until test) at f = rw (
  moved_is sc from f,
  single_is sc at test
      (first_fault (first_fault f (sr.moved_faults sc from)) (unless (may_be_byte (rule_reference sc.names from)) 24 at)),
) (simp first_then refl)

pub answer_is : (sc : Scope) (r : Tree) (at : At) (f : Option Fault) → found_answer sc r at f ≡ first_fault f (sr.answer_faults sc r at)
answer_is sc (tree.Tree.number v) at f = refl
answer_is sc (tree.Tree.wide v) at f = refl
answer_is sc (tree.Tree.text bytes) at f = refl
answer_is sc (tree.Tree.truth b) at f = refl
answer_is sc (tree.Tree.named x es a) at f = chosen (has_elements (sc.names x)) f _ _ (fault 3 a ∷ indices_faults sc es a)
    (sr.target_by sc x (sc.names x) (count es) a ++ indices_faults sc es a ++ unless (sr.may_be_moved_to (sr.target_kind_by (sc.names x))) 6 at)
    (indices_is sc es a _)
    (rw (indices_is sc es a (first_fault f (sr.target_by sc x (sc.names x) (count es) a))) (simp first_then refl))
answer_is sc (tree.Tree.address x es a) at f = refl
answer_is sc (tree.Tree.unary op e a) at f = refl
answer_is sc (tree.Tree.binary op a b c) at f = refl
answer_is sc (tree.Tree.shift op e by a) at f = refl
answer_is sc (tree.Tree.field e start size a) at f = refl
answer_is sc (tree.Tree.transfer k e a) at f = refl
answer_is sc (tree.Tree.bytes op a b size c) at f = refl

pub assign_effect_is : (sc : Scope) (to : Target) (e : Effect) (at : At) (f : Option Fault)
    → found_assign_effect sc to e at f ≡ first_fault f (sr.assign_effect_faults sc to e at)
assign_effect_is sc (stat.Target.plain r) e at f = behind (found_answer sc r at f) f (sr.answer_faults sc r at) (found_effect sc e at) (sr.effect_faults sc e at)
    (effect_is sc e at) (answer_is sc r at f)
assign_effect_is sc (stat.Target.field r start size) e at f = behind _ f (fault 3 at ∷ sr.reference_faults sc r ++ field_faults sc.names start size at)
    (found_effect sc e at) (sr.effect_faults sc e at) (effect_is sc e at)
    (rw (reference_is sc r (first_fault f (fault 3 at ∷ []))) (simp first_then refl)) ∙ simp first_then refl
assign_effect_is sc (stat.Target.address x a) e at f = behind _ f (fault 3 at ∷ sr.pointer_faults sc x (sc.names x) a) (found_effect sc e at) (sr.effect_faults sc e at)
    (effect_is sc e at) refl

pub call_is : (sc : Scope) (x : List ℕ) (es : Trees) (at : At) (f : Option Fault) → found_call sc x es at f ≡ first_fault f (sr.call_statement_faults sc x es at)
call_is sc x es at f = arguments_is sc (profile_formals (callable (sc.names x))) es at _ ∙ simp first_then refl

pub step_is : (sc : Scope) (at : At) (es : Trees) (f : Option Fault) → found_step sc at es f ≡ first_fault f (sr.step_faults sc at es)
step_is sc at tree.Trees.none f = refl
step_is sc at (tree.Trees.and e es) f = single_is sc at e f

pub test_is : (sc : Scope) (after : Bool) (q : Test) (at : At) (f : Option Fault) → found_test sc after q at f ≡ first_fault f (sr.test_faults sc after q at)
test_is sc after (stat.Test.condition e) at f = condition_is sc at e f
test_is sc after (stat.Test.code op) at f = refl

-- a name is among the labels of two lists where it is among those of one
pub either_name : (xs ys : List (List ℕ)) (x : List ℕ) → sr.has_name (xs ++ ys) x ≡ (sr.has_name xs x || sr.has_name ys x)
either_name [] ys x = refl
either_name (y ∷ xs) ys x = by (same_name x y) (either_name xs ys x)
  where
    by : (b : Bool) → sr.has_name (xs ++ ys) x ≡ (sr.has_name xs x || sr.has_name ys x)
        → (if b then true else sr.has_name (xs ++ ys) x) ≡ ((if b then true else sr.has_name xs x) || sr.has_name ys x)
    by true h = refl
    by false h = h

-- so the labels of a list beside others are those of both
pub within_list : (labels : List (List ℕ)) (ss : Statements) → with_list (sr.has_name labels) ss ≡ sr.has_name (labels ++ sr.list_labels ss)
within_list labels ss = λ i x. sym (either_name labels (sr.list_labels ss) x) i

mutual
  unfolding found_statement

  pub statement_is : (sc : Scope) (labels : List (List ℕ)) (after : Bool) (s : Statement) (f : Option Fault)
      → found_statement sc (sr.has_name labels) after s f ≡ first_fault f (sr.statement_faults sc labels after s)
  statement_is sc labels after stat.Statement.empty f = refl
  statement_is sc labels after (stat.Statement.labelled x at s) f = statement_is sc labels false s f
  statement_is sc labels after (stat.Statement.block ss) f =
      ap (λ (l : List ℕ → Bool). found_statements sc l false ss f) (within_list labels ss) ∙ statements_is sc (labels ++ sr.list_labels ss) false ss f
  statement_is sc labels after (stat.Statement.if_test q then_part else_part at) f =
      behind _ f (sr.test_faults sc after q at ++ sr.statement_faults sc labels false then_part) (found_arms sc (sr.has_name labels) else_part) (sr.arms_faults sc labels else_part)
      (arms_is sc labels else_part)
      (behind _ f (sr.test_faults sc after q at) (found_statement sc (sr.has_name labels) false then_part) (sr.statement_faults sc labels false then_part)
      (statement_is sc labels false then_part) (test_is sc after q at f)) ∙ simp first_then refl
  statement_is sc labels after (stat.Statement.while_true e s at) f =
      behind _ f (sr.condition_faults sc at e) (found_statement sc (sr.has_name labels) false s) (sr.statement_faults sc labels false s) (statement_is sc labels false s) (condition_is sc at e f)
  statement_is sc labels after (stat.Statement.until_true s e at) f =
      behind _ f (sr.statement_faults sc labels false s) (found_condition sc at e) (sr.condition_faults sc at e) (condition_is sc at e) (statement_is sc labels false s f)
  statement_is sc labels after (stat.Statement.for_values x first step last s at) f =
      behind _ f (sr.counter_by sc x (sc.names x) at ++ sr.single_value_faults sc at first ++ sr.step_faults sc at step ++ sr.single_value_faults sc at last)
      (found_statement sc (sr.has_name labels) false s) (sr.statement_faults sc labels false s) (statement_is sc labels false s)
      (single_is sc at last _ ∙ ap (λ (g : Option Fault). first_fault g (sr.single_value_faults sc at last)) (step_is sc at step _
      ∙ ap (λ (g : Option Fault). first_fault g (sr.step_faults sc at step)) (single_is sc at first _)) ∙ simp first_then refl) ∙ simp first_then refl
  statement_is sc labels after (stat.Statement.case_of e ss at) f =
      ap (λ (l : List ℕ → Bool). found_arms sc l ss (found_single sc at e f)) (within_list labels ss)
      ∙ behind _ f (sr.single_value_faults sc at e) (found_arms sc (sr.has_name (labels ++ sr.list_labels ss)) ss) (sr.arms_faults sc (labels ++ sr.list_labels ss) ss)
      (arms_is sc (labels ++ sr.list_labels ss) ss) (single_is sc at e f)
  statement_is sc labels after (stat.Statement.go_to x at) f = refl
  statement_is sc labels after (stat.Statement.return at) f = refl
  statement_is sc labels after (stat.Statement.assign to e at) f = assign_is sc to e at f
  statement_is sc labels after (stat.Statement.assign_effect to e at) f = assign_effect_is sc to e at f
  statement_is sc labels after (stat.Statement.do_effect e at) f = effect_is sc e at f
  statement_is sc labels after (stat.Statement.call x es at) f = call_is sc x es at f

  pub statements_is : (sc : Scope) (labels : List (List ℕ)) (after : Bool) (ss : Statements) (f : Option Fault)
      → found_statements sc (sr.has_name labels) after ss f ≡ first_fault f (sr.statements_faults sc labels after ss)
  statements_is sc labels after stat.Statements.none f = refl
  statements_is sc labels after (stat.Statements.and s ss) f =
      behind _ f (sr.statement_faults sc labels after s) (found_statements sc (sr.has_name labels) (sr.sets_code sc.names s) ss)
      (sr.statements_faults sc labels (sr.sets_code sc.names s) ss) (statements_is sc labels (sr.sets_code sc.names s) ss) (statement_is sc labels after s f)

  pub arms_is : (sc : Scope) (labels : List (List ℕ)) (ss : Statements) (f : Option Fault)
      → found_arms sc (sr.has_name labels) ss f ≡ first_fault f (sr.arms_faults sc labels ss)
  arms_is sc labels stat.Statements.none f = refl
  arms_is sc labels (stat.Statements.and s ss) f =
      behind _ f (sr.statement_faults sc labels false s) (found_arms sc (sr.has_name labels) ss) (sr.arms_faults sc labels ss) (arms_is sc labels ss) (statement_is sc labels false s f)

-- a body that is a list
pub body_is : (sc : Scope) (ss : Statements) (f : Option Fault) → found_body sc ss f ≡ first_fault f (sr.body_faults sc ss)
body_is sc ss f = noted (found_statements sc (sr.has_name (sr.list_labels ss)) false ss f) f (sr.statements_faults sc (sr.list_labels ss) false ss) (sr.label_faults ss)
    (statements_is sc (sr.list_labels ss) false ss f)
