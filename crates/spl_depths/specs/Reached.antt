-- The first use of a subroutine's parameter or result that is too far beneath the top, as it is found along the tree: the first limit behind
-- a part, where so many words wait and this was the first before it.
use Rattle.std.specs.Prelude.{ℕ, ◌+◌, Bool, true, false, List, [], Option}
use Rattle.spl_tree.specs.declared.names_and_places.At.{At}
use Rattle.spl_tree.specs.Trees as tree
use Rattle.spl_tree.specs.Trees.{Tree, Trees}
use Rattle.spl_tree.specs.StatementTrees as stat
use Rattle.spl_tree.specs.StatementTrees.{Statement, Statements, Target, Source, Effect, Test}
use Rattle.spl_sorts.specs.spl_meaning.Names.{Names, Formal}
use Rattle.spl_sorts.specs.spl_meaning.Kinds.{callable}
use Rattle.spl_sorts.specs.spl_meaning.Pending.{first_formal, other_formals, argument_words, profile_formals, profile_result_words, left_words, waiting, behind_first, behind_second}
use Rattle.spl_sorts.specs.spl_meaning.Limits.{Full, use_of}
use Rattle.spl_depths.specs.Reach.{Reach, reached_by}

unfoldable mutual
  -- an expression
  pub reached : Names → Reach → Tree → ℕ → Option Full → Option Full
  reached names r (tree.Tree.number v) k f = f
  reached names r (tree.Tree.wide v) k f = f
  reached names r (tree.Tree.text bytes) k f = f
  reached names r (tree.Tree.truth b) k f = f
  reached names r (tree.Tree.named x es at) k f =
      reached_among names r (profile_formals (callable (names x))) es (k + profile_result_words (callable (names x)))
      (reached_by r (use_of x at k false) f)
  reached names r (tree.Tree.address x es at) k f = reached_among names r [] es k (reached_by r (use_of x at k false) f)
  reached names r (tree.Tree.unary op e at) k f = reached names r e k f
  reached names r (tree.Tree.binary op a b at) k f = reached names r b (k + left_words names op a b) (reached names r a k f)
  reached names r (tree.Tree.shift op e by at) k f = reached names r e k f
  reached names r (tree.Tree.field e start size at) k f = reached names r e k f
  reached names r (tree.Tree.transfer to e at) k f = reached names r e k f
  reached names r (tree.Tree.bytes op a b size at) k f = reached names r size (k + 2) (reached names r b (k + 1) (reached names r a k f))

  -- arguments, each of which waits for those behind it
  pub reached_among : Names → Reach → List Formal → Trees → ℕ → Option Full → Option Full
  reached_among names r fs tree.Trees.none k f = f
  reached_among names r fs (tree.Trees.and e es) k f =
      reached_among names r (other_formals fs) es (k + argument_words (first_formal fs)) (reached names r e k f)

-- a name with what stands behind it
abbrev pub reached_call : Names → Reach → List ℕ → At → Trees → ℕ → Option Full → Option Full
reached_call names r x at es k f =
    reached_among names r (profile_formals (callable (names x))) es (k + profile_result_words (callable (names x)))
    (reached_by r (use_of x at k false) f)

-- a reference that is assigned: its name, and its index
abbrev pub reached_index : Names → Reach → Tree → ℕ → Option Full → Option Full
reached_index names r (tree.Tree.named x es at) k f = reached_among names r [] es k (reached_by r (use_of x at k true) f)
reached_index names r _ k f = f

-- a target
abbrev pub reached_target : Names → Reach → Target → ℕ → Option Full → Option Full
reached_target names r (stat.Target.plain e) k f = reached_index names r e k f
reached_target names r (stat.Target.field e start size) k f = reached_index names r e k f
reached_target names r (stat.Target.address x at) k f = reached_by r (use_of x at k true) f

-- what a MOVE moves
abbrev pub reached_source : Names → Reach → Bool → Source → ℕ → Option Full → Option Full
reached_source names r used (stat.Source.counted from size) k f =
    reached names r size (behind_second used k) (reached names r from (behind_first used k) f)
reached_source names r used (stat.Source.text bytes) k f = f
reached_source names r used (stat.Source.class_of from c) k f = reached names r from (behind_first used k) f

-- a MOVE or a SCAN, whose answer is used or not
abbrev pub reached_effect : Names → Reach → Bool → Effect → ℕ → Option Full → Option Full
reached_effect names r used (stat.Effect.move to from) k f = reached_source names r used from k (reached names r to k f)
reached_effect names r used (stat.Effect.scan from until e) k f = reached names r e (behind_first used k) (reached names r from k f)

-- what an IF tests
abbrev pub reached_test : Names → Reach → Test → ℕ → Option Full → Option Full
reached_test names r (stat.Test.condition e) k f = reached names r e k f
reached_test names r (stat.Test.code op) k f = f

-- the step of a loop
abbrev pub reached_step : Names → Reach → Trees → ℕ → Option Full → Option Full
reached_step names r tree.Trees.none k f = f
reached_step names r (tree.Trees.and e es) k f = reached names r e k f

-- the counter of a FOR, its first value, its step and its last value
abbrev pub reached_head : Names → Reach → List ℕ → At → Tree → Trees → Tree → ℕ → Option Full → Option Full
reached_head names r x at first step last k f =
    reached names r last (k + 2) (reached_step names r step (k + 1) (reached names r first k (reached_by r (use_of x at k true) f)))

unfoldable mutual
  -- a statement
  pub reached_statement : Names → Reach → Statement → ℕ → Option Full → Option Full
  reached_statement names r stat.Statement.empty k f = f
  reached_statement names r (stat.Statement.labelled x at s) k f = reached_statement names r s k f
  reached_statement names r (stat.Statement.block ss) k f = reached_statements names r ss k f
  reached_statement names r (stat.Statement.if_test q then_part else_part at) k f =
      reached_statements names r else_part k (reached_statement names r then_part k (reached_test names r q k f))
  reached_statement names r (stat.Statement.while_true e s at) k f = reached_statement names r s k (reached names r e k f)
  reached_statement names r (stat.Statement.until_true s e at) k f = reached names r e k (reached_statement names r s k f)
  reached_statement names r (stat.Statement.for_values x first step last s at) k f =
      reached_statement names r s (k + 3) (reached_head names r x at first step last k f)
  reached_statement names r (stat.Statement.case_of e ss at) k f = reached_statements names r ss k (reached names r e k f)
  reached_statement names r (stat.Statement.go_to x at) k f = f
  reached_statement names r (stat.Statement.return at) k f = f
  reached_statement names r (stat.Statement.assign to e at) k f = reached names r e (waiting to k) (reached_target names r to k f)
  reached_statement names r (stat.Statement.assign_effect to e at) k f = reached_effect names r true e (waiting to k) (reached_target names r to k f)
  reached_statement names r (stat.Statement.do_effect e at) k f = reached_effect names r false e k f
  reached_statement names r (stat.Statement.call x es at) k f = reached_call names r x at es k f

  -- statements in order
  pub reached_statements : Names → Reach → Statements → ℕ → Option Full → Option Full
  reached_statements names r stat.Statements.none k f = f
  reached_statements names r (stat.Statements.and s ss) k f = reached_statements names r ss k (reached_statement names r s k f)

-- a statement in which no other stands
abbrev pub reached_simple : Names → Reach → Statement → ℕ → Option Full → Option Full
reached_simple names r (stat.Statement.assign to e at) k f = reached names r e (waiting to k) (reached_target names r to k f)
reached_simple names r (stat.Statement.assign_effect to e at) k f = reached_effect names r true e (waiting to k) (reached_target names r to k f)
reached_simple names r (stat.Statement.do_effect e at) k f = reached_effect names r false e k f
reached_simple names r (stat.Statement.call x es at) k f = reached_call names r x at es k f
reached_simple names r s k f = f
