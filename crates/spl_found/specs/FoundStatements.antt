-- The first broken rule of statements, as it is found along the tree.
use Rattle.std.specs.Prelude.{ℕ, ◌&&◌, ◌||◌, not, Bool, false, if◌then◌else◌, List, [], ◌∷◌, Option, Some}
use Rattle.spl_meaning.specs.spl_tree.declared.names_and_places.At.{At}
use Rattle.spl_meaning.specs.spl_tree.declared.expressions.Kind.TheVariants as kind
use Rattle.spl_meaning.specs.spl_tree.Trees as tree
use Rattle.spl_meaning.specs.spl_tree.Trees.{Tree, Trees}
use Rattle.spl_meaning.specs.spl_tree.StatementTrees as stat
use Rattle.spl_meaning.specs.spl_tree.StatementTrees.{Statement, Statements, Target, Effect, Test}
use Rattle.spl_meaning.specs.Kinds.{callable}
use Rattle.spl_meaning.specs.Pending.{profile_formals}
use Rattle.spl_meaning.specs.Faults.{Fault, fault, unless, first_fault}
use Rattle.spl_meaning.specs.ExpressionRules.{Scope, rule_kind, rule_reference, count, has_elements, field_faults, bits_faults, single_faults, may_be_byte}
use Rattle.spl_meaning.specs.StatementRules.{has_name, target_by, target_kind, target_kind_by, pointer_faults, fit_faults, is_single, field_kind, moves, may_be_moved_to, called_by, counter_by, sets_code, list_labels, label_faults}
use Rattle.spl_found.specs.FoundExpressions.{found, found_far, found_indices, found_arguments}

-- the name and the index of a target
abbrev pub found_reference : Scope → Tree → Option Fault → Option Fault
found_reference sc (tree.Tree.named x es at) f = found_indices sc es at (first_fault f (target_by sc x (sc.names x) (count es) at))
found_reference sc _ f = f

-- an expression of one word
abbrev pub found_single : Scope → At → Tree → Option Fault → Option Fault
found_single sc at e f = first_fault (found sc at e f) (single_faults sc.names at e)

-- a condition
abbrev pub found_condition : Scope → At → Tree → Option Fault → Option Fault
found_condition sc at e f = first_fault (found sc at e f) (bits_faults sc.names at e)

-- an assignment of a value
abbrev pub found_assign : Scope → Target → Tree → At → Option Fault → Option Fault
found_assign sc (stat.Target.plain r) e at f =
    first_fault (found sc at e (found_reference sc r f)) (fit_faults (target_kind sc.names r) (rule_kind sc.names e) at)
found_assign sc (stat.Target.field r start size) e at f =
    first_fault (found sc at e (first_fault (first_fault (found_reference sc r f) (unless (is_single (target_kind sc.names r)) 5 at))
    (field_faults sc.names start size at))) (fit_faults (field_kind (target_kind sc.names r)) (rule_kind sc.names e) at)
found_assign sc (stat.Target.address x a) e at f =
    first_fault (found sc at e (first_fault f (pointer_faults sc x (sc.names x) a))) (fit_faults (Some kind.Logical) (rule_kind sc.names e) at)

-- a MOVE or a SCAN
abbrev pub found_effect : Scope → Effect → At → Option Fault → Option Fault
found_effect sc (stat.Effect.move to (stat.Source.counted from size)) at f =
    found_single sc at size (first_fault (found_far sc from (found_far sc to f)) (unless (moves (rule_reference sc.names to) (rule_reference sc.names from)) 24 at))
found_effect sc (stat.Effect.move to (stat.Source.text bytes)) at f =
    first_fault (found_far sc to f) (unless (may_be_moved_to (rule_reference sc.names to)) 24 at)
found_effect sc (stat.Effect.move to (stat.Source.class_of from c)) at f =
    first_fault (found_far sc from (found_far sc to f)) (unless (may_be_byte (rule_reference sc.names to) && may_be_byte (rule_reference sc.names from)) 24 at)
found_effect sc (stat.Effect.scan from until test) at f =
    found_single sc at test (first_fault (found_far sc from f) (unless (may_be_byte (rule_reference sc.names from)) 24 at))

-- the target of the answer of a MOVE or a SCAN
abbrev pub found_answer : Scope → Tree → At → Option Fault → Option Fault
found_answer sc (tree.Tree.named x es a) at f =
    if has_elements (sc.names x) then found_indices sc es a (first_fault f (fault 3 a ∷ []))
    else first_fault (found_indices sc es a (first_fault f (target_by sc x (sc.names x) (count es) a))) (unless (may_be_moved_to (target_kind_by (sc.names x))) 6 at)
found_answer sc _ at f = f

-- an assignment of an answer
abbrev pub found_assign_effect : Scope → Target → Effect → At → Option Fault → Option Fault
found_assign_effect sc (stat.Target.plain r) e at f = found_effect sc e at (found_answer sc r at f)
found_assign_effect sc (stat.Target.field r start size) e at f =
    found_effect sc e at (first_fault (found_reference sc r (first_fault f (fault 3 at ∷ []))) (field_faults sc.names start size at))
found_assign_effect sc (stat.Target.address x a) e at f =
    found_effect sc e at (first_fault (first_fault f (fault 3 at ∷ [])) (pointer_faults sc x (sc.names x) a))

-- a call as a statement
abbrev pub found_call : Scope → List ℕ → Trees → At → Option Fault → Option Fault
found_call sc x es at f =
    found_arguments sc (profile_formals (callable (sc.names x))) es at (first_fault f (called_by sc (callable (sc.names x)) (sc.names x) (count es) at))

-- the step of a loop, where there is one
abbrev pub found_step : Scope → At → Trees → Option Fault → Option Fault
found_step sc at tree.Trees.none f = f
found_step sc at (tree.Trees.and e es) f = found_single sc at e f

-- what an IF tests
abbrev pub found_test : Scope → Bool → Test → At → Option Fault → Option Fault
found_test sc after (stat.Test.condition e) at f = found_condition sc at e f
found_test sc after (stat.Test.code op) at f = first_fault f (unless after 22 at)

-- the labels of a list, beside those around it
abbrev pub with_list : (List ℕ → Bool) → Statements → List ℕ → Bool
with_list labels ss x = labels x || has_name (list_labels ss) x

unfoldable mutual
  -- a statement, with which labels the lists around it bear, and whether the condition code may be tested
  pub found_statement : Scope → (List ℕ → Bool) → Bool → Statement → Option Fault → Option Fault
  found_statement sc labels after stat.Statement.empty f = f
  found_statement sc labels after (stat.Statement.labelled x at s) f = found_statement sc labels false s f
  found_statement sc labels after (stat.Statement.block ss) f = found_statements sc (with_list labels ss) false ss f
  found_statement sc labels after (stat.Statement.if_test q then_part else_part at) f =
      found_arms sc labels else_part (found_statement sc labels false then_part (found_test sc after q at f))
  found_statement sc labels after (stat.Statement.while_true e s at) f = found_statement sc labels false s (found_condition sc at e f)
  found_statement sc labels after (stat.Statement.until_true s e at) f = found_condition sc at e (found_statement sc labels false s f)
  found_statement sc labels after (stat.Statement.for_values x first step last s at) f =
      found_statement sc labels false s (found_single sc at last (found_step sc at step (found_single sc at first (first_fault f (counter_by sc x (sc.names x) at)))))
  found_statement sc labels after (stat.Statement.case_of e ss at) f = found_arms sc (with_list labels ss) ss (found_single sc at e f)
  found_statement sc labels after (stat.Statement.go_to x at) f = first_fault f (unless (labels x) 21 at)
  found_statement sc labels after (stat.Statement.return at) f = first_fault f (unless (not sc.is_main) 25 at)
  found_statement sc labels after (stat.Statement.assign to e at) f = found_assign sc to e at f
  found_statement sc labels after (stat.Statement.assign_effect to e at) f = found_assign_effect sc to e at f
  found_statement sc labels after (stat.Statement.do_effect e at) f = found_effect sc e at f
  found_statement sc labels after (stat.Statement.call x es at) f = found_call sc x es at f

  -- the statements of a list, one behind the other
  pub found_statements : Scope → (List ℕ → Bool) → Bool → Statements → Option Fault → Option Fault
  found_statements sc labels after stat.Statements.none f = f
  found_statements sc labels after (stat.Statements.and s ss) f =
      found_statements sc labels (sets_code sc.names s) ss (found_statement sc labels after s f)

  -- statements none of which is directly behind another
  pub found_arms : Scope → (List ℕ → Bool) → Statements → Option Fault → Option Fault
  found_arms sc labels stat.Statements.none f = f
  found_arms sc labels (stat.Statements.and s ss) f = found_arms sc labels ss (found_statement sc labels false s f)

-- a body that is a list
abbrev pub found_body : Scope → Statements → Option Fault → Option Fault
found_body sc ss f = first_fault (found_statements sc (has_name (list_labels ss)) false ss f) (label_faults ss)
