-- The parts of statements, in order of text.
use Rattle.std.specs.Prelude.{ℕ, Bool, false, List, [], ◌∷◌, ◌++◌, Some}
use Rattle.spl_meaning.specs.spl_tree.declared.names_and_places.At.{At}
use Rattle.spl_meaning.specs.spl_tree.declared.expressions.Kind.TheVariants as kind
use Rattle.spl_meaning.specs.spl_tree.Trees as tree
use Rattle.spl_meaning.specs.spl_tree.Trees.{Tree, Trees}
use Rattle.spl_meaning.specs.spl_tree.StatementTrees as stat
use Rattle.spl_meaning.specs.spl_tree.StatementTrees.{Statement, Statements, Target, Source, Effect, Test}
use Rattle.spl_meaning.specs.spl_tree.DeclarationTrees.{Placed}
use Rattle.spl_meaning.specs.Kinds.{callable}
use Rattle.spl_meaning.specs.Pending.{profile_formals}
use Rattle.spl_meaning.specs.ExpressionRules.{Scope, count, rule_kind}
use Rattle.spl_meaning.specs.StatementRules.{target_kind, field_kind, sets_code, list_labels, all_labels_of}
use Rattle.spl_rules.specs.Parts as part
use Rattle.spl_rules.specs.Parts.{Part, Role}
use Rattle.spl_rules.specs.ExpressionParts.{call_parts, field_parts, expression_parts, reference_parts, indices_parts, arguments_parts}

-- the name and the index of what is assigned to
abbrev pub target_parts : Role → Scope → Tree → List Part
target_parts role sc (tree.Tree.named x es at) = part.name role sc x (count es) at ∷ indices_parts sc es at
target_parts role sc _ = []

-- an assignment of a value
abbrev pub assign_parts : Scope → Target → Tree → At → List Part
assign_parts sc (stat.Target.plain r) e at =
    target_parts part.target sc r ++ expression_parts sc at e ++ part.assigned (target_kind sc.names r) (rule_kind sc.names e) at ∷ []
assign_parts sc (stat.Target.field r start size) e at =
    target_parts part.target sc r ++ part.replaced sc.names r at ∷ field_parts sc.names start size at ++ expression_parts sc at e
    ++ part.assigned (field_kind (target_kind sc.names r)) (rule_kind sc.names e) at ∷ []
assign_parts sc (stat.Target.address x a) e at =
    part.name part.pointer sc x 0 a ∷ expression_parts sc at e ++ part.assigned (Some kind.Logical) (rule_kind sc.names e) at ∷ []

-- a reference of a MOVE or a SCAN
abbrev pub moved_parts : Scope → Tree → List Part
moved_parts sc r = reference_parts sc r ++ part.far sc r ∷ []

-- an expression that has to be a word
abbrev pub word_parts : Scope → At → Tree → List Part
word_parts sc at e = expression_parts sc at e ++ part.word sc.names at e ∷ []

-- a MOVE or a SCAN
abbrev pub effect_parts : Scope → Effect → At → List Part
effect_parts sc (stat.Effect.move to (stat.Source.counted from size)) at =
    moved_parts sc to ++ moved_parts sc from ++ part.effect sc.names (stat.Effect.move to (stat.Source.counted from size)) at ∷ word_parts sc at size
effect_parts sc (stat.Effect.move to (stat.Source.text bytes)) at =
    moved_parts sc to ++ part.effect sc.names (stat.Effect.move to (stat.Source.text bytes)) at ∷ []
effect_parts sc (stat.Effect.move to (stat.Source.class_of from c)) at =
    moved_parts sc to ++ moved_parts sc from ++ part.effect sc.names (stat.Effect.move to (stat.Source.class_of from c)) at ∷ []
effect_parts sc (stat.Effect.scan from until test) at =
    moved_parts sc from ++ part.effect sc.names (stat.Effect.scan from until test) at ∷ word_parts sc at test

-- what takes the answer of a MOVE or a SCAN
abbrev pub answer_parts : Scope → Tree → At → List Part
answer_parts sc (tree.Tree.named x es a) at =
    part.name part.answer sc x (count es) a ∷ indices_parts sc es a ++ part.answer_kind (sc.names x) at ∷ []
answer_parts sc _ at = []

-- an assignment of the answer
abbrev pub assign_effect_parts : Scope → Target → Effect → At → List Part
assign_effect_parts sc (stat.Target.plain r) e at = answer_parts sc r at ++ effect_parts sc e at
assign_effect_parts sc (stat.Target.field r start size) e at =
    part.answered (stat.Target.field r start size) at ∷ target_parts part.target sc r ++ field_parts sc.names start size at ++ effect_parts sc e at
assign_effect_parts sc (stat.Target.address x a) e at =
    part.answered (stat.Target.address x a) at ∷ part.name part.pointer sc x 0 a ∷ effect_parts sc e at

-- a call as a statement
abbrev pub call_statement_parts : Scope → List ℕ → Trees → At → List Part
call_statement_parts sc x es at =
    part.name part.callee sc x (count es) at ∷ call_parts sc x (callable (sc.names x)) (count es) false at
    ++ arguments_parts sc (profile_formals (callable (sc.names x))) es at

-- the step of a loop, where there is one
abbrev pub step_parts : Scope → At → Trees → List Part
step_parts sc at tree.Trees.none = []
step_parts sc at (tree.Trees.and e es) = word_parts sc at e

-- a condition
abbrev pub condition_parts : Scope → At → Tree → List Part
condition_parts sc at e = expression_parts sc at e ++ part.bits sc.names at e ∷ []

-- what an IF tests, and whether the condition code may be tested there
abbrev pub test_parts : Scope → Bool → Test → At → List Part
test_parts sc after (stat.Test.condition e) at = condition_parts sc at e
test_parts sc after (stat.Test.code op) at = part.code_test after at ∷ []

-- each label of a body, behind those before it
abbrev pub label_parts : List Placed → List Placed → List Part
label_parts before [] = []
label_parts before (x ∷ xs) = part.label before x ∷ label_parts (x ∷ before) xs

abbrev mutual
  -- the parts of a statement, with the labels of the lists around it, and whether the condition code may be tested
  pub statement_parts : Scope → List (List ℕ) → Bool → Statement → List Part
  statement_parts sc labels after stat.Statement.empty = []
  -- behind a label, and in the arms of a CASE, none is directly behind another
  statement_parts sc labels after (stat.Statement.labelled x at s) = statement_parts sc labels false s
  statement_parts sc labels after (stat.Statement.block ss) = statements_parts sc (labels ++ list_labels ss) false ss
  statement_parts sc labels after (stat.Statement.if_test q then_part else_part at) =
      test_parts sc after q at ++ statement_parts sc labels false then_part ++ arms_parts sc labels else_part
  statement_parts sc labels after (stat.Statement.while_true e s at) = condition_parts sc at e ++ statement_parts sc labels false s
  statement_parts sc labels after (stat.Statement.until_true s e at) = statement_parts sc labels false s ++ condition_parts sc at e
  statement_parts sc labels after (stat.Statement.for_values x first step last s at) =
      part.name part.counter sc x 0 at ∷ word_parts sc at first ++ step_parts sc at step ++ word_parts sc at last ++ statement_parts sc labels false s
  statement_parts sc labels after (stat.Statement.case_of e ss at) = word_parts sc at e ++ arms_parts sc (labels ++ list_labels ss) ss
  statement_parts sc labels after (stat.Statement.go_to x at) = part.jump labels x at ∷ []
  statement_parts sc labels after (stat.Statement.return at) = part.leave sc at ∷ []
  statement_parts sc labels after (stat.Statement.assign to e at) = assign_parts sc to e at
  statement_parts sc labels after (stat.Statement.assign_effect to e at) = assign_effect_parts sc to e at
  statement_parts sc labels after (stat.Statement.do_effect e at) = effect_parts sc e at
  statement_parts sc labels after (stat.Statement.call x es at) = call_statement_parts sc x es at

  -- statements of a list, one behind the other
  pub statements_parts : Scope → List (List ℕ) → Bool → Statements → List Part
  statements_parts sc labels after stat.Statements.none = []
  statements_parts sc labels after (stat.Statements.and s ss) =
      statement_parts sc labels after s ++ statements_parts sc labels (sets_code sc.names s) ss

  -- statements none of which is directly behind another
  pub arms_parts : Scope → List (List ℕ) → Statements → List Part
  arms_parts sc labels stat.Statements.none = []
  arms_parts sc labels (stat.Statements.and s ss) = statement_parts sc labels false s ++ arms_parts sc labels ss

-- a body that is a list
abbrev pub body_parts : Scope → Statements → List Part
body_parts sc ss = statements_parts sc (list_labels ss) false ss ++ label_parts [] (all_labels_of ss)
