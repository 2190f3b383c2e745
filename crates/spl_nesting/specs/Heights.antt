-- How many parts may wait at one point of an expression or a statement, each with the words of a call at most: left operands, arguments,
-- values and addresses that stand before others.
use Rattle.std.specs.Prelude.{ℕ, suc, max}
use Rattle.spl_sound.specs.spl_tree.Trees as tree
use Rattle.spl_sound.specs.spl_tree.Trees.{Tree, Trees}
use Rattle.spl_sound.specs.spl_tree.StatementTrees as stat
use Rattle.spl_sound.specs.spl_tree.StatementTrees.{Statement, Statements, Target, Source, Effect, Test}

abbrev mutual
  -- in an expression
  pub height : Tree → ℕ
  height (tree.Tree.number v) = 0
  height (tree.Tree.wide v) = 0
  height (tree.Tree.text bytes) = 0
  height (tree.Tree.truth b) = 0
  height (tree.Tree.named x es at) = height_among es
  height (tree.Tree.address x es at) = height_among es
  height (tree.Tree.unary op e at) = height e
  height (tree.Tree.binary op a b at) = max (height a) (suc (height b))
  height (tree.Tree.shift op e by at) = height e
  height (tree.Tree.field e start size at) = height e
  height (tree.Tree.transfer k e at) = height e
  height (tree.Tree.bytes op a b size at) = max (height a) (max (suc (height b)) (suc (height size)))

  -- in arguments, or an index
  pub height_among : Trees → ℕ
  height_among tree.Trees.none = 0
  height_among (tree.Trees.and e es) = max (suc (height e)) (height_among es)

-- in a reference that is assigned
abbrev pub height_index : Tree → ℕ
height_index (tree.Tree.named x es at) = height_among es
height_index _ = 0

-- in a target
abbrev pub height_target : Target → ℕ
height_target (stat.Target.plain r) = height_index r
height_target (stat.Target.field r start size) = height_index r
height_target (stat.Target.address x at) = 0

-- in what a MOVE moves
abbrev pub height_source : Source → ℕ
height_source (stat.Source.counted r size) = max (suc (height r)) (suc (height size))
height_source (stat.Source.text bytes) = 0
height_source (stat.Source.class_of r c) = suc (height r)

-- in a MOVE or a SCAN
abbrev pub height_effect : Effect → ℕ
height_effect (stat.Effect.move r from) = max (height r) (height_source from)
height_effect (stat.Effect.scan r until e) = max (height r) (suc (height e))

-- in a test
abbrev pub height_test : Test → ℕ
height_test (stat.Test.condition e) = height e
height_test (stat.Test.code op) = 0

abbrev mutual
  -- in a statement
  pub statement_height : Statement → ℕ
  statement_height stat.Statement.empty = 0
  statement_height (stat.Statement.labelled x at s) = statement_height s
  statement_height (stat.Statement.block ss) = statements_height ss
  statement_height (stat.Statement.if_test q then_part else_part at) =
      max (height_test q) (max (statement_height then_part) (statements_height else_part))
  statement_height (stat.Statement.while_true q s at) = max (height q) (statement_height s)
  statement_height (stat.Statement.until_true s q at) = max (statement_height s) (height q)
  statement_height (stat.Statement.for_values x first step last s at) =
      max (height first) (max (height_among step) (max (suc (height last)) (suc (statement_height s))))
  statement_height (stat.Statement.case_of e ss at) = max (height e) (statements_height ss)
  statement_height (stat.Statement.go_to x at) = 0
  statement_height (stat.Statement.return at) = 0
  statement_height (stat.Statement.assign to e at) = max (height_target to) (suc (height e))
  statement_height (stat.Statement.assign_effect to e at) = max (height_target to) (suc (height_effect e))
  statement_height (stat.Statement.do_effect e at) = height_effect e
  statement_height (stat.Statement.call x es at) = height_among es

  -- in a list
  pub statements_height : Statements → ℕ
  statements_height stat.Statements.none = 0
  statements_height (stat.Statements.and s ss) = max (statement_height s) (statements_height ss)
