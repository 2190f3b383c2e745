-- How often the code of a unit calls at most, and how many entries it has: each name in an expression may call, each statement that calls does,
-- and each procedure and each subroutine is an entry.
use Rattle.std.specs.Prelude.{ℕ, suc, ◌+◌}
use Rattle.spl_sound.specs.spl_tree.Trees as tree
use Rattle.spl_sound.specs.spl_tree.Trees.{Tree, Trees}
use Rattle.spl_sound.specs.spl_tree.StatementTrees as stat
use Rattle.spl_sound.specs.spl_tree.StatementTrees.{Statement, Statements, Target, Source, Effect, Test, statements}
use Rattle.spl_sound.specs.spl_tree.DeclarationTrees as decl
use Rattle.spl_sound.specs.spl_tree.DeclarationTrees.{Declaration, Declarations, UnitTree, declarations}

abbrev mutual
  -- in an expression
  pub calls : Tree → ℕ
  calls (tree.Tree.number v) = 0
  calls (tree.Tree.wide v) = 0
  calls (tree.Tree.text bytes) = 0
  calls (tree.Tree.truth b) = 0
  calls (tree.Tree.named x es at) = suc (calls_among es)
  calls (tree.Tree.address x es at) = calls_among es
  calls (tree.Tree.unary op e at) = calls e
  calls (tree.Tree.binary op a b at) = calls a + calls b
  calls (tree.Tree.shift op e by at) = calls e
  calls (tree.Tree.field e start size at) = calls e
  calls (tree.Tree.transfer to e at) = calls e
  calls (tree.Tree.bytes op a b count at) = calls a + calls b + calls count

  -- in arguments, or an index
  pub calls_among : Trees → ℕ
  calls_among tree.Trees.none = 0
  calls_among (tree.Trees.and e es) = calls e + calls_among es

-- in a target
abbrev pub target_calls : Target → ℕ
target_calls (stat.Target.plain r) = calls r
target_calls (stat.Target.field r start size) = calls r
target_calls (stat.Target.address x at) = 0

-- in what a MOVE moves
abbrev pub source_calls : Source → ℕ
source_calls (stat.Source.counted from count) = calls from + calls count
source_calls (stat.Source.text bytes) = 0
source_calls (stat.Source.class_of from class) = calls from

-- in a MOVE or a SCAN
abbrev pub effect_calls : Effect → ℕ
effect_calls (stat.Effect.move to from) = calls to + source_calls from
effect_calls (stat.Effect.scan from until test) = calls from + calls test

-- in what an IF tests
abbrev pub test_calls : Test → ℕ
test_calls (stat.Test.condition e) = calls e
test_calls (stat.Test.code op) = 0

abbrev mutual
  -- in a statement
  pub calls_in : Statement → ℕ
  calls_in stat.Statement.empty = 0
  calls_in (stat.Statement.labelled x at s) = calls_in s
  calls_in (stat.Statement.block ss) = calls_within ss
  calls_in (stat.Statement.if_test q then_part else_part at) = test_calls q + calls_in then_part + calls_within else_part
  calls_in (stat.Statement.while_true e s at) = calls e + calls_in s
  calls_in (stat.Statement.until_true s e at) = calls_in s + calls e
  calls_in (stat.Statement.for_values x first step last s at) = calls first + calls_among step + calls last + calls_in s
  calls_in (stat.Statement.case_of e ss at) = calls e + calls_within ss
  calls_in (stat.Statement.go_to x at) = 0
  calls_in (stat.Statement.return at) = 0
  calls_in (stat.Statement.assign to e at) = target_calls to + calls e
  calls_in (stat.Statement.assign_effect to e at) = target_calls to + effect_calls e
  calls_in (stat.Statement.do_effect e at) = effect_calls e
  calls_in (stat.Statement.call x es at) = suc (calls_among es)

  -- in the statements of a list
  pub calls_within : Statements → ℕ
  calls_within stat.Statements.none = 0
  calls_within (stat.Statements.and s ss) = calls_in s + calls_within ss

abbrev mutual
  -- the calls and the entries of a declaration
  pub declared_calls : Declaration → ℕ
  declared_calls (decl.Declaration.procedure h items ss) = suc (all_declared_calls items + calls_within (statements ss))
  declared_calls (decl.Declaration.subroutine h s) = suc (calls_in s)
  declared_calls d = 0

  -- of declarations in order
  pub all_declared_calls : Declarations → ℕ
  all_declared_calls decl.none = 0
  all_declared_calls (decl.and d ds) = declared_calls d + all_declared_calls ds

-- of a unit, the main body of which calls what ends the program
abbrev pub unit_calls : UnitTree → ℕ
unit_calls u = all_declared_calls (declarations u.items) + suc (calls_within (statements u.statements))
