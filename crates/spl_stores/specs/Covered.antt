-- Which statements are proved: those whose every part has a law. A further construct makes it larger.
use Rattle.std.specs.Prelude.{ℕ, ◌+◌, ◌&&◌, not, Bool, true, false, List, Option, Some}
use Rattle.spl_counts.specs.spl_tree.declared.expressions.Kind.{Kind}
use Rattle.spl_counts.specs.spl_tree.declared.expressions.Kind.TheVariants as kind
use Rattle.spl_counts.specs.spl_tree.Trees as tree
use Rattle.spl_counts.specs.spl_tree.Trees.{Trees}
use Rattle.spl_counts.specs.spl_tree.StatementTrees as stat
use Rattle.spl_counts.specs.spl_tree.StatementTrees.{Statement, Statements, Target, Effect}
use Rattle.spl_counts.specs.spl_meaning.Values.{Who}
use Rattle.spl_counts.specs.spl_meaning.Names as n
use Rattle.spl_counts.specs.spl_meaning.Names.{Sort}
use Rattle.spl_counts.specs.spl_meaning.Pending.{waiting}
use Rattle.spl_counts.specs.spl_meaning.Places.{Place}
use Rattle.spl_counts.specs.spl_meaning.References.{Setting}
use Rattle.spl_counts.specs.spl_code.Calls.{Scope}
use Rattle.spl_moved.specs.spl_names.Names.{has_seen}
use Rattle.spl_moved.specs.spl_covered.Covered.{is_covered}
use Rattle.spl_calls.specs.spl_targets.Targets.{is_word_target}
use Rattle.spl_assigned.specs.Assigned.{is_covered_assignment}
use Rattle.spl_calls.specs.Covered.{is_covered_call}
use Rattle.spl_moved.specs.Moved.{is_covered_effect}

-- what a MOVE or SCAN answers, in a target of one word
abbrev pub is_stored_effect : (Who → Bool) → Scope → (List ℕ → Option (Kind × Place)) → Setting → Target → Effect → ℕ → Bool
is_stored_effect may c results st to e k = is_word_target may c results st to k && is_covered_effect may c st true e (waiting to k)

-- the variable of a FOR: an INTEGER one, simple or a parameter by value, or in no split mode one by reference, where it is seen
abbrev pub is_counted_name : Setting → ℕ → Option Sort → Option Place → Bool
is_counted_name st k (Some (n.simple kind.Integer own)) place = has_seen st k place
is_counted_name st k (Some (n.value kind.Integer)) place = has_seen st k place
is_counted_name st k (Some (n.by_reference kind.Integer)) place = not st.split && has_seen st k place
is_counted_name st k _ place = false

-- its step, which may be left out
abbrev pub is_covered_step : (Who → Bool) → Scope → Setting → Trees → ℕ → Bool
is_covered_step may c st tree.Trees.none k = true
is_covered_step may c st (tree.Trees.and e es) k = is_covered may c st e k

abbrev mutual
  -- A statement, in a body with this setting and while k words wait: the empty one, assignments of what is covered and of what a
  -- MOVE or SCAN answers, blocks of such, IF, WHILE and DO of such with a condition that is covered, IF on the condition code, CASE of such with a value
  -- that is, calls, MOVE and SCAN by themselves, GO TO, RETURN where it may stand, such behind labels, and
  -- FOR of such with values that are, each while as many words more wait as stand before it.
  pub is_covered_statement : (Who → Bool) → Bool → Scope → (List ℕ → Option (Kind × Place)) → Setting → Statement → ℕ → Bool
  is_covered_statement may returns c results st stat.Statement.empty k = true
  is_covered_statement may returns c results st (stat.Statement.block ss) k = are_covered may returns c results st ss k
  is_covered_statement may returns c results st (stat.Statement.assign to e at) k =
      is_covered_assignment may c results st to e k
  is_covered_statement may returns c results st (stat.Statement.if_test (stat.Test.condition e) s stat.Statements.none at) k =
      is_covered may c st e k && is_covered_statement may returns c results st s k
  is_covered_statement may returns c results st (stat.Statement.if_test (stat.Test.condition e) s (stat.Statements.and other stat.Statements.none) at) k =
      is_covered may c st e k && is_covered_statement may returns c results st s k && is_covered_statement may returns c results st other k
  is_covered_statement may returns c results st
      (stat.Statement.if_test (stat.Test.code o) s stat.Statements.none at) k = is_covered_statement may returns c results st s k
  is_covered_statement may returns c results st (stat.Statement.if_test (stat.Test.code o) s (stat.Statements.and other stat.Statements.none) at) k =
      is_covered_statement may returns c results st s k && is_covered_statement may returns c results st other k
  is_covered_statement may returns c results st
      (stat.Statement.while_true e s at) k = is_covered may c st e k && is_covered_statement may returns c results st s k
  is_covered_statement may returns c results st
      (stat.Statement.until_true s e at) k = is_covered may c st e k && is_covered_statement may returns c results st s k
  is_covered_statement may returns c results st (stat.Statement.for_values x first step last s at) k =
      is_counted_name st k (c.names x) (c.places x) && is_covered may c st first k && is_covered_step may c st step (k + 1) && is_covered may c st last (k + 2)
      && is_covered_statement may returns c results st s (k + 3)
  is_covered_statement may returns c results st (stat.Statement.case_of e ss at) k = is_covered may c st e k && are_covered may returns c results st ss k
  is_covered_statement may returns c results st (stat.Statement.call x es at) k = is_covered_call may c st x (c.names x) es k
  is_covered_statement may returns c results st (stat.Statement.labelled y at s) k = is_covered_statement may returns c results st s k
  is_covered_statement may returns c results st (stat.Statement.go_to y at) k = true
  is_covered_statement may returns c results st (stat.Statement.return at) k = returns
  is_covered_statement may returns c results st (stat.Statement.assign_effect to e at) k = is_stored_effect may c results st to e k
  is_covered_statement may returns c results st (stat.Statement.do_effect e at) k = is_covered_effect may c st false e k
  is_covered_statement may returns c results st _ k = false

  -- a list of such
  pub are_covered : (Who → Bool) → Bool → Scope → (List ℕ → Option (Kind × Place)) → Setting → Statements → ℕ → Bool
  are_covered may returns c results st stat.Statements.none k = true
  are_covered may returns c results st
      (stat.Statements.and s ss) k = is_covered_statement may returns c results st s k && are_covered may returns c results st ss k
