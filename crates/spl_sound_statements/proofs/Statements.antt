-- Statements that break no rule are covered, along the tree.
use Rattle.std.proofs.Common.{◌≡◌, ℕ, ◌+◌, ◌&&◌, not, Bool, true, false, List, [], ◌++◌, Option, refl, subst}
use Rattle.std.proofs.lemmas.Bool.{and_from, and_parts}
use Rattle.spl_sound_values.specs.spl_tree.declared.names_and_places.At.{At}
use Rattle.spl_sound_values.specs.spl_tree.declared.expressions.Kind.{Kind}
use Rattle.spl_sound_values.specs.spl_tree.StatementTrees as stat
use Rattle.spl_sound_values.specs.spl_tree.StatementTrees.{Statement, Statements, Test}
use Rattle.spl_sound_values.specs.spl_meaning.Limits.{uses, test_uses, step_uses, statement_uses, statements_uses}
use Rattle.spl_sound_values.specs.spl_meaning.Places.{Place}
use Rattle.spl_sound_values.specs.spl_meaning.References.{Setting}
use Rattle.spl_sound_values.specs.spl_meaning.Values.{Who}
use Rattle.spl_sound_values.specs.spl_meaning.ExpressionRules as rule
use Rattle.spl_sound_values.specs.spl_meaning.StatementRules.{counter_by, single_value_faults, step_faults, condition_faults, test_faults, sets_code, list_labels, statement_faults, statements_faults, arms_faults}
use Rattle.spl_sound_values.specs.spl_code.Calls.{Scope}
use Rattle.spl_sound_values.specs.spl_covered.Covered.{is_covered}
use Rattle.spl_stores.specs.Covered.{is_counted_name, is_covered_step, is_covered_statement, are_covered}
use Rattle.spl_sound_values.specs.spl_places.Programs.{Each}
use Rattle.spl_sound_values.specs.spl_shapes.Shapes.{is_shaped, are_shaped, is_one_at_most, is_shaped_target, is_shaped_effect, is_shaped_test, are_one_at_most, is_shaped_statement, are_shaped_statements}
use Rattle.spl_sound_values.proofs.spl_sound_names_proofs.Tables.{left_none, right_none, unless_none, never}
use Rattle.spl_sound_values.specs.Seen.{Seen, UseAllowed}
use Rattle.spl_sound_values.proofs.Parts.{each_left, each_right, not_so, ruled, ruled_same, ruled_seen}
use Rattle.spl_sound_statements.specs.Results.{ResultsSeen}
use Rattle.spl_sound_statements.specs.Laws.{SoundStatementsAreCovered, SoundListsAreCovered}
use Rattle.spl_sound_statements.proofs.Effects.{effect_covered}
use Rattle.spl_sound_statements.proofs.Parts.{condition_covered, one_covered, step_covered, counter_covered, assign_covered, assign_effect_covered, call_covered}

module _ (may : Who → Bool) (returns : Bool) (c : Scope) (results : List ℕ → Option (Kind × Place)) (st : Setting) (rules : rule.Scope)
    (seen : Seen may c st (ruled c st rules)) (given : ResultsSeen c st (ruled c st rules) results) (outside : rules.is_main ≡ false → returns ≡ true) where
  abbrev sc : rule.Scope
  sc = ruled c st rules

  -- what an IF tests
  abbrev is_covered_test : Test → ℕ → Bool
  is_covered_test (stat.Test.condition e) k = is_covered may c st e k
  is_covered_test (stat.Test.code op) k = true

  test_covered : (after : Bool) (q : Test) (at : At) (k : ℕ) → test_faults sc after q at ≡ [] → is_shaped_test q ≡ true
      → Each (UseAllowed may c) (test_uses c.names q k) → is_covered_test q k ≡ true
  test_covered after (stat.Test.condition e) at k none shaped us = condition_covered may c results st rules seen given e at k none shaped us
  test_covered after (stat.Test.code op) at k none shaped us = refl

  -- an IF has one other part at most
  if_covered : (q : Test) (s : Statement) (ss : Statements) (at : At) (k : ℕ) → is_covered_test q k ≡ true
      → is_covered_statement may returns c results st s k ≡ true → are_one_at_most ss ≡ true → are_covered may returns c results st ss k ≡ true
      → is_covered_statement may returns c results st (stat.Statement.if_test q s ss at) k ≡ true
  if_covered (stat.Test.condition e) s stat.Statements.none at k test one few others =
      and_from (is_covered may c st e k) (is_covered_statement may returns c results st s k) test one
  if_covered (stat.Test.condition e) s (stat.Statements.and other stat.Statements.none) at k test one few others =
      and_from (is_covered may c st e k && is_covered_statement may returns c results st s k) (is_covered_statement may returns c results st other k)
      (and_from (is_covered may c st e k) (is_covered_statement may returns c results st s k) test one)
      (and_parts (is_covered_statement may returns c results st other k) true others).0
  if_covered (stat.Test.code op) s stat.Statements.none at k test one few others = one
  if_covered (stat.Test.code op) s (stat.Statements.and other stat.Statements.none) at k test one few others =
      and_from (is_covered_statement may returns c results st s k) (is_covered_statement may returns c results st other k) one
      (and_parts (is_covered_statement may returns c results st other k) true others).0
  if_covered q s (stat.Statements.and other (stat.Statements.and more ss)) at k test one few others = never few

  mutual
    pub statement_covered : (labels : List (List ℕ)) (after : Bool) (s : Statement) (k : ℕ) → statement_faults sc labels after s ≡ []
        → is_shaped_statement s ≡ true → Each (UseAllowed may c) (statement_uses c.names s k)
        → is_covered_statement may returns c results st s k ≡ true
    statement_covered labels after stat.Statement.empty k none shaped us = refl
    statement_covered labels after (stat.Statement.labelled x at s) k none shaped us = statement_covered labels false s k none shaped us
    statement_covered labels after (stat.Statement.block ss) k none shaped us =
        statements_covered (labels ++ list_labels ss) false ss k none shaped us
    statement_covered labels after (stat.Statement.if_test q s ss at) k none shaped us =
        let test = test_faults sc after q at in
        let first = statement_faults sc labels false s in
        let other = arms_faults sc labels ss in
        let front = left_none (test ++ first) other none in
        let shape = and_parts (is_shaped_test q && is_shaped_statement s) (are_one_at_most ss && are_shaped_statements ss) shaped in
        let own = and_parts (is_shaped_test q) (is_shaped_statement s) shape.0 in
        let rest = and_parts (are_one_at_most ss) (are_shaped_statements ss) shape.1 in
        let one = test_uses c.names q k in
        let two = statement_uses c.names s k in
        let three = statements_uses c.names ss k in
        let us_front = each_left (UseAllowed may c) (one ++ two) three us in
        if_covered q s ss at k (test_covered after q at k (left_none test first front) own.0 (each_left (UseAllowed may c) one two us_front))
        (statement_covered labels false s k (right_none test first front) own.1 (each_right (UseAllowed may c) one two us_front)) rest.0
        (arms_covered labels ss k (right_none (test ++ first) other none) rest.1 (each_right (UseAllowed may c) (one ++ two) three us))
    statement_covered labels after (stat.Statement.while_true e s at) k none shaped us =
        let condition = condition_faults sc at e in
        let first = statement_faults sc labels false s in
        let shape = and_parts (is_shaped e) (is_shaped_statement s) shaped in
        let one = uses c.names e k in
        let two = statement_uses c.names s k in
        and_from (is_covered may c st e k) (is_covered_statement may returns c results st s k)
        (condition_covered may c results st rules seen given e at k (left_none condition first none) shape.0 (each_left (UseAllowed may c) one two us))
        (statement_covered labels false s k (right_none condition first none) shape.1 (each_right (UseAllowed may c) one two us))
    statement_covered labels after (stat.Statement.until_true s e at) k none shaped us =
        let condition = condition_faults sc at e in
        let first = statement_faults sc labels false s in
        let shape = and_parts (is_shaped_statement s) (is_shaped e) shaped in
        let one = statement_uses c.names s k in
        let two = uses c.names e k in
        and_from (is_covered may c st e k) (is_covered_statement may returns c results st s k)
        (condition_covered may c results st rules seen given e at k (right_none first condition none) shape.1 (each_right (UseAllowed may c) one two us))
        (statement_covered labels false s k (left_none first condition none) shape.0 (each_left (UseAllowed may c) one two us))
    statement_covered labels after (stat.Statement.for_values x first step last s at) k none shaped us =
        let counter = counter_by sc x (c.names x) at in
        let one = single_value_faults sc at first in
        let two = step_faults sc at step in
        let three = single_value_faults sc at last in
        let own = statement_faults sc labels false s in
        let to_three = left_none (counter ++ one ++ two ++ three) own none in
        let to_two = left_none (counter ++ one ++ two) three to_three in
        let to_one = left_none (counter ++ one) two to_two in
        let shape = and_parts (is_shaped first && is_shaped last && (is_one_at_most step && are_shaped step)) (is_shaped_statement s) shaped in
        let values = and_parts (is_shaped first && is_shaped last) (is_one_at_most step && are_shaped step) shape.0 in
        let ends = and_parts (is_shaped first) (is_shaped last) values.0 in
        let u-one = uses c.names first k in
        let u-two = step_uses c.names step (k + 1) in
        let u-three = uses c.names last (k + 2) in
        let u-own = statement_uses c.names s (k + 3) in
        let us-three = each_left (UseAllowed may c) (u-one ++ u-two ++ u-three) u-own us.1 in
        let us-two = each_left (UseAllowed may c) (u-one ++ u-two) u-three us-three in
        and_from _ (is_covered_statement may returns c results st s (k + 3))
        (and_from _ (is_covered may c st last (k + 2))
        (and_from _ (is_covered_step may c st step (k + 1))
        (and_from (is_counted_name st k (c.names x) (c.places x)) (is_covered may c st first k)
        (counter_covered may c results st rules seen given x at k (left_none counter one to_one) us.0)
        (one_covered may c results st rules seen given first at k (right_none counter one to_one) ends.0 (each_left (UseAllowed may c) u-one u-two us-two)))
        (step_covered may c results st rules seen given step at (k + 1) (right_none (counter ++ one) two to_two)
        (and_parts (is_one_at_most step) (are_shaped step) values.1).1 (each_right (UseAllowed may c) u-one u-two us-two)))
        (one_covered may c results st rules seen given last at (k + 2) (right_none (counter ++ one ++ two) three to_three) ends.1
        (each_right (UseAllowed may c) (u-one ++ u-two) u-three us-three)))
        (statement_covered labels false s (k + 3) (right_none (counter ++ one ++ two ++ three) own none) shape.1
        (each_right (UseAllowed may c) (u-one ++ u-two ++ u-three) u-own us.1))
    statement_covered labels after (stat.Statement.case_of e ss at) k none shaped us =
        let value = single_value_faults sc at e in
        let arms = arms_faults sc (labels ++ list_labels ss) ss in
        let shape = and_parts (is_shaped e) (are_shaped_statements ss) shaped in
        let one = uses c.names e k in
        let two = statements_uses c.names ss k in
        and_from (is_covered may c st e k) (are_covered may returns c results st ss k)
        (one_covered may c results st rules seen given e at k (left_none value arms none) shape.0 (each_left (UseAllowed may c) one two us))
        (arms_covered (labels ++ list_labels ss) ss k (right_none value arms none) shape.1 (each_right (UseAllowed may c) one two us))
    statement_covered labels after (stat.Statement.go_to x at) k none shaped us = refl
    statement_covered labels after (stat.Statement.return at) k none shaped us =
        outside (not_so rules.is_main (unless_none (not rules.is_main) 25 at none))
    statement_covered labels after (stat.Statement.assign to e at) k none shaped us =
        let shape = and_parts (is_shaped_target to) (is_shaped e) shaped in
        assign_covered may c results st rules seen given to e at k none shape.0 shape.1 us
    statement_covered labels after (stat.Statement.assign_effect to e at) k none shaped us =
        let shape = and_parts (is_shaped_target to) (is_shaped_effect e) shaped in
        assign_effect_covered may c results st rules seen given to e at k none shape.0 shape.1 us
    statement_covered labels after (stat.Statement.do_effect e at) k none shaped us = effect_covered may c st rules seen false e at k none shaped us
    statement_covered labels after (stat.Statement.call x es at) k none shaped us =
        call_covered may c results st rules seen given x es at k none shaped us

    pub statements_covered : (labels : List (List ℕ)) (after : Bool) (ss : Statements) (k : ℕ) → statements_faults sc labels after ss ≡ []
        → are_shaped_statements ss ≡ true → Each (UseAllowed may c) (statements_uses c.names ss k)
        → are_covered may returns c results st ss k ≡ true
    statements_covered labels after stat.Statements.none k none shaped us = refl
    statements_covered labels after (stat.Statements.and s ss) k none shaped us =
        let first = statement_faults sc labels after s in
        let others = statements_faults sc labels (sets_code c.names s) ss in
        let shape = and_parts (is_shaped_statement s) (are_shaped_statements ss) shaped in
        let one = statement_uses c.names s k in
        let two = statements_uses c.names ss k in
        and_from (is_covered_statement may returns c results st s k) (are_covered may returns c results st ss k)
        (statement_covered labels after s k (left_none first others none) shape.0 (each_left (UseAllowed may c) one two us))
        (statements_covered labels (sets_code c.names s) ss k (right_none first others none) shape.1 (each_right (UseAllowed may c) one two us))

    pub arms_covered : (labels : List (List ℕ)) (ss : Statements) (k : ℕ) → arms_faults sc labels ss ≡ [] → are_shaped_statements ss ≡ true
        → Each (UseAllowed may c) (statements_uses c.names ss k) → are_covered may returns c results st ss k ≡ true
    arms_covered labels stat.Statements.none k none shaped us = refl
    arms_covered labels (stat.Statements.and s ss) k none shaped us =
        let first = statement_faults sc labels false s in
        let others = arms_faults sc labels ss in
        let shape = and_parts (is_shaped_statement s) (are_shaped_statements ss) shaped in
        let one = statement_uses c.names s k in
        let two = statements_uses c.names ss k in
        and_from (is_covered_statement may returns c results st s k) (are_covered may returns c results st ss k)
        (statement_covered labels false s k (left_none first others none) shape.0 (each_left (UseAllowed may c) one two us))
        (arms_covered labels ss k (right_none first others none) shape.1 (each_right (UseAllowed may c) one two us))

-- what is seen of results, in the scope with a code's names
ruled_results : (c : Scope) (st : Setting) (own : rule.Scope) (results : List ℕ → Option (Kind × Place)) → ResultsSeen c st own results
    → ResultsSeen c st (ruled c st own) results
ruled_results c st own results r = record { means = r.means; placed = r.placed; framed = r.framed }

-- so it is in the scope of what is seen
pub sound_statements : SoundStatementsAreCovered
sound_statements may returns c results st sc seen given outside labels after s k none =
    statement_covered may returns c results st sc (ruled_seen may c st sc seen) (ruled_results c st sc results given) outside labels after s k
    (subst (λ (r : rule.Scope). statement_faults r labels after s ≡ []) (ruled_same c st sc seen.names seen.split) none)

pub sound_lists : SoundListsAreCovered
sound_lists may returns c results st sc seen given outside labels after ss k none =
    statements_covered may returns c results st sc (ruled_seen may c st sc seen) (ruled_results c st sc results given) outside labels after ss k
    (subst (λ (r : rule.Scope). statements_faults r labels after ss ≡ []) (ruled_same c st sc seen.names seen.split) none)
