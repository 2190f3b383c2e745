-- Statements that break no rule assign to no cell of what is called.
use Rattle.std.proofs.Common.{◌≡◌, ℕ, not, true, false, List, [], ◌∷◌, ◌++◌, Option, Some, None, refl}
use Rattle.std.proofs.lemmas.Bool.{and_from}
use Rattle.spl_readings.specs.spl_tree.declared.names_and_places.At.{At}
use Rattle.spl_readings.specs.spl_tree.declared.expressions.Kind.TheVariants as kind
use Rattle.spl_readings.specs.spl_tree.Trees.{Tree}
use Rattle.spl_readings.specs.spl_tree.StatementTrees as stat
use Rattle.spl_readings.specs.spl_tree.StatementTrees.{Statement, Statements, Target, Effect}
use Rattle.spl_ruled_bodies.specs.spl_meaning.Names as n
use Rattle.spl_ruled_bodies.specs.spl_meaning.Names.{Sort}
use Rattle.spl_ruled_bodies.specs.spl_meaning.Faults.{fault}
use Rattle.spl_ruled_bodies.specs.spl_meaning.ExpressionRules.{Scope, rule_kind, faults}
use Rattle.spl_ruled_bodies.specs.spl_meaning.StatementRules.{list_labels, sets_code, test_faults, condition_faults, counter_by, single_value_faults, step_faults, pointer_faults, fit_faults, assign_faults, assign_effect_faults, effect_faults, statement_faults, statements_faults, arms_faults}
use Rattle.spl_readings.specs.spl_module_code.Bodies.{is_called}
use Rattle.spl_readings.specs.Readings.{is_plain_target, is_plain_statement, are_plain}
use Rattle.spl_ruled_bodies.proofs.spl_sound_names_proofs.Tables.{left_none, right_none, clash}
use Rattle.spl_sound_bodies.specs.Laws.{SoundStatementsArePlain, SoundListsArePlain}

-- a pointer is not called
pointer_plain : (sc : Scope) (x : List ℕ) (s : Option Sort) (at : At) → pointer_faults sc x s at ≡ [] → not (is_called s) ≡ true
pointer_plain sc x None at none = refl
pointer_plain sc x (Some (n.pointer k own)) at none = refl
pointer_plain sc x (Some n.unknown) at none = refl
pointer_plain sc x (Some (n.simple k own)) at none = refl
pointer_plain sc x (Some (n.array k own low high)) at none = refl
pointer_plain sc x (Some (n.view k own base)) at none = refl
pointer_plain sc x (Some (n.value k)) at none = refl
pointer_plain sc x (Some (n.by_reference k)) at none = refl
pointer_plain sc x (Some (n.array_parameter k)) at none = refl
pointer_plain sc x (Some (n.equate v)) at none = refl
pointer_plain sc x (Some n.label) at none = refl
pointer_plain sc x (Some (n.intrinsic i)) at none = refl
pointer_plain sc x (Some (n.procedure p)) at none = clash (fault 3 at) [] none
pointer_plain sc x (Some (n.subroutine p)) at none = clash (fault 3 at) [] none

-- the cell of what is no pointer is refused
target_plain : (sc : Scope) (to : Target) (e : Tree) (at : At) → assign_faults sc to e at ≡ [] → is_plain_target sc.names to ≡ true
target_plain sc (stat.Target.plain r) e at none = refl
target_plain sc (stat.Target.field r start size) e at none = refl
target_plain sc (stat.Target.address x a) e at none =
    let own = pointer_faults sc x (sc.names x) a in
    let value = faults sc at e in
    let fit = fit_faults (Some kind.Logical) (rule_kind sc.names e) at in
    pointer_plain sc x (sc.names x) a (left_none own value (left_none (own ++ value) fit none))

-- no effect is assigned to a cell
answer_plain : (sc : Scope) (to : Target) (e : Effect) (at : At) → assign_effect_faults sc to e at ≡ [] → is_plain_target sc.names to ≡ true
answer_plain sc (stat.Target.plain r) e at none = refl
answer_plain sc (stat.Target.field r start size) e at none = refl
answer_plain sc (stat.Target.address x a) e at none =
    let own = fault 3 at ∷ pointer_faults sc x (sc.names x) a in clash (fault 3 at) (pointer_faults sc x (sc.names x) a) (left_none own (effect_faults sc e at) none)

mutual
  -- a statement: assignments alone have targets
  pub plain : SoundStatementsArePlain
  plain sc labels after stat.Statement.empty none = refl
  plain sc labels after (stat.Statement.labelled x at s) none = plain sc labels false s none
  plain sc labels after (stat.Statement.block ss) none = list_plain sc (labels ++ list_labels ss) false ss none
  plain sc labels after (stat.Statement.if_test q s ss at) none =
      let test = test_faults sc after q at in
      let one = statement_faults sc labels false s in
      let rest = arms_faults sc labels ss in
      let both = left_none (test ++ one) rest none in
      and_from (is_plain_statement sc.names s) (are_plain sc.names ss) (plain sc labels false s (right_none test one both))
      (arms_plain sc labels ss (right_none (test ++ one) rest none))
  plain sc labels after (stat.Statement.while_true e s at) none =
      plain sc labels false s (right_none (condition_faults sc at e) (statement_faults sc labels false s) none)
  plain sc labels after (stat.Statement.until_true s e at) none =
      plain sc labels false s (left_none (statement_faults sc labels false s) (condition_faults sc at e) none)
  plain sc labels after (stat.Statement.for_values x first step last s at) none =
      plain sc labels false s
      (right_none (counter_by sc x (sc.names x) at ++ single_value_faults sc at first ++ step_faults sc at step ++ single_value_faults sc at last)
      (statement_faults sc labels false s) none)
  plain sc labels after (stat.Statement.case_of e ss at) none =
      arms_plain sc (labels ++ list_labels ss) ss (right_none (single_value_faults sc at e) (arms_faults sc (labels ++ list_labels ss) ss) none)
  plain sc labels after (stat.Statement.go_to x at) none = refl
  plain sc labels after (stat.Statement.return at) none = refl
  plain sc labels after (stat.Statement.assign to e at) none = target_plain sc to e at none
  plain sc labels after (stat.Statement.assign_effect to e at) none = answer_plain sc to e at none
  plain sc labels after (stat.Statement.do_effect e at) none = refl
  plain sc labels after (stat.Statement.call x es at) none = refl

  -- a list, statement by statement
  pub list_plain : SoundListsArePlain
  list_plain sc labels after stat.Statements.none none = refl
  list_plain sc labels after (stat.Statements.and s ss) none =
      let one = statement_faults sc labels after s in
      let rest = statements_faults sc labels (sets_code sc.names s) ss in
      and_from (is_plain_statement sc.names s) (are_plain sc.names ss) (plain sc labels after s (left_none one rest none))
      (list_plain sc labels (sets_code sc.names s) ss (right_none one rest none))

  -- arms, each for itself
  arms_plain : (sc : Scope) (labels : List (List ℕ)) (ss : Statements) → arms_faults sc labels ss ≡ [] → are_plain sc.names ss ≡ true
  arms_plain sc labels stat.Statements.none none = refl
  arms_plain sc labels (stat.Statements.and s ss) none =
      let one = statement_faults sc labels false s in
      let rest = arms_faults sc labels ss in
      and_from (is_plain_statement sc.names s) (are_plain sc.names ss) (plain sc labels false s (left_none one rest none))
      (arms_plain sc labels ss (right_none one rest none))
