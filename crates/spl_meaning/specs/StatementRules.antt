-- The rules that statements may break.
use Rattle.std.specs.Prelude.{ℕ, ◌==◌, ◌&&◌, ◌||◌, not, Bool, true, false, if◌then◌else◌, List, [], ◌∷◌, ◌++◌, Option, Some, None, is_some}
use Rattle.spl_tree.specs.declared.names_and_places.At.{At}
use Rattle.spl_tree.specs.declared.expressions.Kind.{Kind}
use Rattle.spl_tree.specs.declared.expressions.Kind.TheVariants as kind
use Rattle.spl_tree.specs.Trees as tree
use Rattle.spl_tree.specs.Trees.{Tree, Trees, Constant}
use Rattle.spl_tree.specs.StatementTrees as stat
use Rattle.spl_tree.specs.StatementTrees.{Statement, Statements, Target, Source, Effect, Test}
use Rattle.spl_tree.specs.DeclarationTrees.{Placed}
use Rattle.spl_meaning.specs.Names as n
use Rattle.spl_meaning.specs.Names.{Names, Sort, Profile, same_name}
use Rattle.spl_meaning.specs.Kinds.{Operand, variable_kind, callable}
use Rattle.spl_meaning.specs.Statements.{is_intrinsic_alone, is_intrinsic, target_keeps_code}
use Rattle.spl_meaning.specs.Faults.{Fault, fault, unless}
use Rattle.spl_meaning.specs.Pending.{profile_formals}
use Rattle.spl_meaning.specs.ExpressionRules.{Scope, fits, count, has_elements, rule_kind, rule_reference, field_faults, variable_faults, split_use, call_faults, bits_faults, single_faults, may_be_byte, far_faults, faults, located_faults, indices_faults, arguments_faults}

-- ---- targets

-- whether a name is among some
abbrev pub has_name : List (List ℕ) → List ℕ → Bool
has_name [] x = false
has_name (y ∷ ys) x = if same_name x y then true else has_name ys x

-- a procedure or a subroutine on the left of :=
-- 12: its name is assigned outside its body, or it has no type. 3: it has arguments there.
abbrev pub result_faults : Scope → List ℕ → Profile → ℕ → At → List Fault
result_faults sc x p given at = unless (has_name sc.results x && is_some p.result) 12 at ++ unless (given == 0) 3 at

-- a name on the left of :=
abbrev pub target_by : Scope → List ℕ → Option Sort → ℕ → At → List Fault
target_by sc x (Some (n.procedure p)) given at = result_faults sc x p given at
target_by sc x (Some (n.subroutine p)) given at = result_faults sc x p given at
target_by sc x s given at = variable_faults sc x given at

-- the kind of what is assigned to
abbrev pub target_kind_by : Option Sort → Option Kind
target_kind_by (Some (n.procedure p)) = p.result
target_kind_by (Some (n.subroutine p)) = p.result
target_kind_by s = variable_kind s

-- the kind of a target
abbrev pub target_kind : Names → Tree → Option Kind
target_kind names (tree.Tree.named x es at) = target_kind_by (names x)
target_kind names _ = None

-- the name and the index of a target
abbrev pub reference_faults : Scope → Tree → List Fault
reference_faults sc (tree.Tree.named x es at) = target_by sc x (sc.names x) (count es) at ++ indices_faults sc es at
reference_faults sc _ = []

-- 3: the target of `@` is no pointer
abbrev pub pointer_faults : Scope → List ℕ → Option Sort → At → List Fault
pointer_faults sc x None at = fault 1 at ∷ []
pointer_faults sc x (Some (n.pointer k own)) at = split_use sc x at
pointer_faults sc x (Some n.unknown) at = []
pointer_faults sc x (Some s) at = fault 3 at ∷ []

-- 6: a value does not fit
abbrev pub fit_faults : Option Kind → Operand → At → List Fault
fit_faults None e at = []
fit_faults (Some k) e at = unless (fits k e) 6 at

-- a kind of one word that is not BYTE, or none
abbrev pub is_single : Option Kind → Bool
is_single (Some kind.Byte) = false
is_single (Some kind.Double) = false
is_single _ = true

-- a bit field holds a single word
abbrev pub field_kind : Option Kind → Option Kind
field_kind None = None
field_kind (Some k) = Some kind.Logical

-- an assignment of a value
abbrev pub assign_faults : Scope → Target → Tree → At → List Fault
assign_faults sc (stat.Target.plain r) e at = reference_faults sc r ++ faults sc at e ++ fit_faults (target_kind sc.names r) (rule_kind sc.names e) at
-- 5: a bit field of a BYTE or a DOUBLE
assign_faults sc (stat.Target.field r start size) e at =
    reference_faults sc r ++ unless (is_single (target_kind sc.names r)) 5 at ++ field_faults sc.names start size at ++ faults sc at e
    ++ fit_faults (field_kind (target_kind sc.names r)) (rule_kind sc.names e) at
assign_faults sc (stat.Target.address x a) e at =
    pointer_faults sc x (sc.names x) a ++ faults sc at e ++ fit_faults (Some kind.Logical) (rule_kind sc.names e) at

-- ---- MOVE and SCAN

-- INTEGER or LOGICAL, or none
abbrev pub is_word_kind : Option Kind → Bool
is_word_kind (Some kind.Integer) = true
is_word_kind (Some kind.Logical) = true
is_word_kind (Some _) = false
is_word_kind None = true

-- both BYTE, or both INTEGER or LOGICAL
abbrev pub moves : Option Kind → Option Kind → Bool
moves a b = (may_be_byte a && may_be_byte b) || (is_word_kind a && is_word_kind b)

-- a kind that is not DOUBLE, or none
abbrev pub may_be_moved_to : Option Kind → Bool
may_be_moved_to (Some kind.Double) = false
may_be_moved_to _ = true

-- a reference of a MOVE or a SCAN
abbrev pub moved_faults : Scope → Tree → List Fault
moved_faults sc r = located_faults sc r ++ far_faults sc r

-- 24: operands do not match. 23: a count or a test word is a DOUBLE.
abbrev pub effect_faults : Scope → Effect → At → List Fault
effect_faults sc (stat.Effect.move to (stat.Source.counted from size)) at =
    moved_faults sc to ++ moved_faults sc from ++ unless (moves (rule_reference sc.names to) (rule_reference sc.names from)) 24 at
    ++ faults sc at size ++ single_faults sc.names at size
effect_faults sc (stat.Effect.move to (stat.Source.text bytes)) at = moved_faults sc to ++ unless (may_be_moved_to (rule_reference sc.names to)) 24 at
effect_faults sc (stat.Effect.move to (stat.Source.class_of from c)) at =
    moved_faults sc to ++ moved_faults sc from
    ++ unless (may_be_byte (rule_reference sc.names to) && may_be_byte (rule_reference sc.names from)) 24 at
effect_faults sc (stat.Effect.scan from until test) at =
    moved_faults sc from ++ unless (may_be_byte (rule_reference sc.names from)) 24 at ++ faults sc at test ++ single_faults sc.names at test

-- the answer of a MOVE or a SCAN goes to a simple variable of one word
-- 3: to an array, a pointer or an element. 6: to a DOUBLE.
abbrev pub answer_by : Scope → List ℕ → Option Sort → Trees → At → At → List Fault
answer_by sc x s es a at =
    if has_elements s then fault 3 a ∷ indices_faults sc es a
    else target_by sc x s (count es) a ++ indices_faults sc es a ++ unless (may_be_moved_to (target_kind_by s)) 6 at

-- the target of an answer
abbrev pub answer_faults : Scope → Tree → At → List Fault
answer_faults sc (tree.Tree.named x es a) at = answer_by sc x (sc.names x) es a at
answer_faults sc _ at = []

-- 3: a MOVE or a SCAN is assigned to a bit field or by `@`
abbrev pub assign_effect_faults : Scope → Target → Effect → At → List Fault
assign_effect_faults sc (stat.Target.plain r) e at = answer_faults sc r at ++ effect_faults sc e at
assign_effect_faults sc (stat.Target.field r start size) e at =
    fault 3 at ∷ reference_faults sc r ++ field_faults sc.names start size at ++ effect_faults sc e at
assign_effect_faults sc (stat.Target.address x a) e at = fault 3 at ∷ pointer_faults sc x (sc.names x) a ++ effect_faults sc e at

-- ---- calls

-- 1: a name is not declared. 3: what is called is no procedure, subroutine or intrinsic.
abbrev pub called_by : Scope → Option Profile → Option Sort → ℕ → At → List Fault
called_by sc (Some p) s given at = call_faults sc s p given false at
called_by sc None None given at = fault 1 at ∷ []
called_by sc None (Some n.unknown) given at = []
called_by sc None (Some s) given at = fault 3 at ∷ []

-- a call as a statement
abbrev pub call_statement_faults : Scope → List ℕ → Trees → At → List Fault
call_statement_faults sc x es at =
    called_by sc (callable (sc.names x)) (sc.names x) (count es) at ++ arguments_faults sc (profile_formals (callable (sc.names x))) es at

-- ---- loops

-- 23: a FOR variable is no simple INTEGER variable or parameter
abbrev pub counter_by : Scope → List ℕ → Option Sort → At → List Fault
counter_by sc x None at = fault 1 at ∷ []
counter_by sc x (Some (n.simple kind.Integer own)) at = split_use sc x at
counter_by sc x (Some (n.value kind.Integer)) at = []
counter_by sc x (Some (n.by_reference kind.Integer)) at = []
counter_by sc x (Some n.unknown) at = []
counter_by sc x (Some s) at = fault 23 at ∷ []

-- an expression of one word
abbrev pub single_value_faults : Scope → At → Tree → List Fault
single_value_faults sc at e = faults sc at e ++ single_faults sc.names at e

-- the step of a loop, where there is one
abbrev pub step_faults : Scope → At → Trees → List Fault
step_faults sc at tree.Trees.none = []
step_faults sc at (tree.Trees.and e es) = single_value_faults sc at e

-- a condition
abbrev pub condition_faults : Scope → At → Tree → List Fault
condition_faults sc at e = faults sc at e ++ bits_faults sc.names at e

-- 22: a test of the condition code is not directly behind what sets it
abbrev pub test_faults : Scope → Bool → Test → At → List Fault
test_faults sc after (stat.Test.condition e) at = condition_faults sc at e
test_faults sc after (stat.Test.code op) at = unless after 22 at

-- a statement sets the code: a call of an intrinsic, or an assignment of one alone to a simple variable that is not BYTE, also
-- behind labels
abbrev pub sets_code : Names → Statement → Bool
sets_code names (stat.Statement.call x es at) = is_intrinsic (names x)
sets_code names (stat.Statement.assign to e at) = is_intrinsic_alone names e && target_keeps_code names to
sets_code names (stat.Statement.labelled x at s) = sets_code names s
sets_code names _ = false

-- ---- labels

-- the labels of a statement, before it
abbrev pub own_labels : Statement → List (List ℕ)
own_labels (stat.Statement.labelled x at s) = x ∷ own_labels s
own_labels _ = []

-- the labels that a list bears
abbrev pub list_labels : Statements → List (List ℕ)
list_labels stat.Statements.none = []
list_labels (stat.Statements.and s ss) = own_labels s ++ list_labels ss

-- all labels of a statement, in order of text
abbrev mutual
  pub all_labels : Statement → List Placed
  all_labels (stat.Statement.labelled x at s) = record { letters = x; at = at } ∷ all_labels s
  all_labels (stat.Statement.block ss) = all_labels_of ss
  all_labels (stat.Statement.if_test q then_part else_part at) = all_labels then_part ++ all_labels_of else_part
  all_labels (stat.Statement.while_true e s at) = all_labels s
  all_labels (stat.Statement.until_true s e at) = all_labels s
  all_labels (stat.Statement.for_values x first step last s at) = all_labels s
  all_labels (stat.Statement.case_of e ss at) = all_labels_of ss
  all_labels _ = []

  -- all labels of statements in order
  pub all_labels_of : Statements → List Placed
  all_labels_of stat.Statements.none = []
  all_labels_of (stat.Statements.and s ss) = all_labels s ++ all_labels_of ss

-- names that stand in a list again, at their places
abbrev pub is_listed : List Placed → List ℕ → Bool
is_listed [] x = false
is_listed (y ∷ ys) x = if same_name x y.letters then true else is_listed ys x

-- each name that stands again breaks a rule
abbrev pub repeated : ℕ → List Placed → List Placed → List Fault
repeated rule before [] = []
repeated rule before (x ∷ xs) = unless (not (is_listed before x.letters)) rule x.at ++ repeated rule (x ∷ before) xs

-- 20: a label stands twice in one body
abbrev pub label_faults : Statements → List Fault
label_faults ss = repeated 20 [] (all_labels_of ss)

-- ---- statements, with the labels of the lists around them, and whether the condition code may be tested

abbrev mutual
  -- a statement
  pub statement_faults : Scope → List (List ℕ) → Bool → Statement → List Fault
  statement_faults sc labels after stat.Statement.empty = []
  statement_faults sc labels after (stat.Statement.labelled x at s) = statement_faults sc labels false s
  statement_faults sc labels after (stat.Statement.block ss) = statements_faults sc (labels ++ list_labels ss) false ss
  statement_faults sc labels after (stat.Statement.if_test q then_part else_part at) =
      test_faults sc after q at ++ statement_faults sc labels false then_part ++ arms_faults sc labels else_part
  statement_faults sc labels after (stat.Statement.while_true e s at) = condition_faults sc at e ++ statement_faults sc labels false s
  statement_faults sc labels after (stat.Statement.until_true s e at) = statement_faults sc labels false s ++ condition_faults sc at e
  statement_faults sc labels after (stat.Statement.for_values x first step last s at) =
      counter_by sc x (sc.names x) at ++ single_value_faults sc at first ++ step_faults sc at step ++ single_value_faults sc at last
      ++ statement_faults sc labels false s
  statement_faults sc labels after (stat.Statement.case_of e ss at) = single_value_faults sc at e ++ arms_faults sc (labels ++ list_labels ss) ss
  -- 21: the label stands in no list around the GO TO
  statement_faults sc labels after (stat.Statement.go_to x at) = unless (has_name labels x) 21 at
  -- 25: RETURN in the main body
  statement_faults sc labels after (stat.Statement.return at) = unless (not sc.is_main) 25 at
  statement_faults sc labels after (stat.Statement.assign to e at) = assign_faults sc to e at
  statement_faults sc labels after (stat.Statement.assign_effect to e at) = assign_effect_faults sc to e at
  statement_faults sc labels after (stat.Statement.do_effect e at) = effect_faults sc e at
  statement_faults sc labels after (stat.Statement.call x es at) = call_statement_faults sc x es at

  -- the statements of a list, one behind the other
  pub statements_faults : Scope → List (List ℕ) → Bool → Statements → List Fault
  statements_faults sc labels after stat.Statements.none = []
  statements_faults sc labels after (stat.Statements.and s ss) =
      statement_faults sc labels after s ++ statements_faults sc labels (sets_code sc.names s) ss

  -- statements none of which is directly behind another
  pub arms_faults : Scope → List (List ℕ) → Statements → List Fault
  arms_faults sc labels stat.Statements.none = []
  arms_faults sc labels (stat.Statements.and s ss) = statement_faults sc labels false s ++ arms_faults sc labels ss

-- a body that is a list
abbrev pub body_faults : Scope → Statements → List Fault
body_faults sc ss = statements_faults sc (list_labels ss) false ss ++ label_faults ss
