-- The trees of the types as those that the grammar speaks of: names and strings by their bytes, boxes and vectors by
-- what they hold.
use Rattle.std.specs.Prelude.{ℕ, List, [], ◌∷◌, map, Option, Some, None, Box}
use Rattle.spl_tree.specs.declared.names_and_places.Name.{Name}
use Rattle.spl_tree.specs.declared.expressions.Expr.{Expr}
use Rattle.spl_tree.specs.declared.expressions.Expr.TheOpen.{Expr-F, Ref-F}
use Rattle.spl_tree.specs.declared.expressions.Expr.TheFolds.{fold-Expr, fold-Ref}
use Rattle.spl_tree.specs.declared.expressions.Ref.{Ref}
use Rattle.spl_tree.specs.declared.expressions.Const.{Const}
use Rattle.spl_tree.specs.declared.expressions.Const.TheVariants as const
use Rattle.spl_tree.specs.declared.statements.Stmt.{Stmt}
use Rattle.spl_tree.specs.declared.statements.Stmt.TheOpen.{Stmt-F}
use Rattle.spl_tree.specs.declared.statements.Stmt.TheFolds.{fold-Stmt}
use Rattle.spl_tree.specs.declared.statements.Target.{Target}
use Rattle.spl_tree.specs.declared.statements.Target.TheVariants as target
use Rattle.spl_tree.specs.declared.statements.Source.{Source}
use Rattle.spl_tree.specs.declared.statements.Source.TheVariants as source
use Rattle.spl_tree.specs.declared.statements.Effect.{Effect}
use Rattle.spl_tree.specs.declared.statements.Effect.TheVariants as effect
use Rattle.spl_tree.specs.declared.statements.Test.{Test}
use Rattle.spl_tree.specs.declared.statements.Test.TheVariants as test
use Rattle.spl_tree.specs.Trees as tree
use Rattle.spl_tree.specs.Trees.{Tree, Trees, trees, Constant}
use Rattle.spl_tree.specs.StatementTrees as stat

-- the bytes of a name
abbrev pub letters : Name → List ℕ
letters name = name.text.items

abbrev pub constant : Const → Constant
constant (const.Number minus v) = tree.Constant.number minus v
constant (const.Wide minus v) = tree.Constant.wide minus v
constant (const.Text chars) = tree.Constant.text chars.bytes.items
constant (const.Truth b) = tree.Constant.truth b
constant (const.Name name at) = tree.Constant.name (letters name) at

-- what a box holds, where there is one
abbrev pub boxed : {A : Type 0} → Option (Box Tree A) → List Tree
boxed None = []
boxed (Some b) = b.value ∷ []

-- one layer of an expression, and of a reference
abbrev pub expression_step : Expr-F Tree Tree → Tree
expression_step (Expr-F.Number v) = tree.Tree.number v
expression_step (Expr-F.Wide v) = tree.Tree.wide v
expression_step (Expr-F.Text chars) = tree.Tree.text chars.bytes.items
expression_step (Expr-F.Truth b) = tree.Tree.truth b
expression_step (Expr-F.Named name args at) = tree.Tree.named (letters name) (trees args.items) at
expression_step (Expr-F.Address name index at) = tree.Tree.address (letters name) (trees (boxed index)) at
expression_step (Expr-F.Unary op e at) = tree.Tree.unary op e.value at
expression_step (Expr-F.Binary op a b at) = tree.Tree.binary op a.value b.value at
expression_step (Expr-F.Shift kind e by at) = tree.Tree.shift kind e.value (constant by) at
expression_step (Expr-F.Field e start length at) = tree.Tree.field e.value (constant start) (constant length) at
expression_step (Expr-F.Transfer kind e at) = tree.Tree.transfer kind e.value at
expression_step (Expr-F.Bytes op a b count at) = tree.Tree.bytes op a b count.value at

abbrev pub reference_step : Ref-F Tree Tree → Tree
reference_step r = tree.Tree.named (letters r.name) (trees (boxed r.index)) r.at

-- an expression, and a reference
abbrev pub expression : Expr → Tree
expression = fold-Expr Tree Tree expression_step reference_step

abbrev pub reference : Ref → Tree
reference = fold-Ref Tree Tree expression_step reference_step

-- an expression, where there is one
abbrev pub optional : Option Expr → List Tree
optional None = []
optional (Some e) = expression e ∷ []

abbrev pub target_tree : Target → stat.Target
target_tree (target.Plain r) = stat.Target.plain (reference r)
target_tree (target.Field r start length) = stat.Target.field (reference r) (constant start) (constant length)
target_tree (target.Address name at) = stat.Target.address (letters name) at

abbrev pub source_tree : Source → stat.Source
source_tree (source.Counted r e) = stat.Source.counted (reference r) (expression e)
source_tree (source.Text chars) = stat.Source.text chars.bytes.items
source_tree (source.While r n) = stat.Source.class_of (reference r) n

abbrev pub effect_tree : Effect → stat.Effect
effect_tree (effect.Move r from) = stat.Effect.move (reference r) (source_tree from)
effect_tree (effect.Scan r until e) = stat.Effect.scan (reference r) until (expression e)

abbrev pub test_tree : Test → stat.Test
test_tree (test.Of e) = stat.Test.condition (expression e)
test_tree (test.Code op) = stat.Test.code op

abbrev pub boxed_statement : {A : Type 0} → Option (Box stat.Statement A) → List stat.Statement
boxed_statement None = []
boxed_statement (Some b) = b.value ∷ []

-- one layer of a statement
abbrev pub statement_step : Stmt-F stat.Statement → stat.Statement
statement_step Stmt-F.Empty = stat.Statement.empty
statement_step (Stmt-F.Labelled name at s) = stat.Statement.labelled (letters name) at s.value
statement_step (Stmt-F.Block ss) = stat.Statement.block (stat.statements ss.items)
statement_step (Stmt-F.If q s no_part at) = stat.Statement.if_test (test_tree q) s.value
    (stat.statements (boxed_statement no_part)) at
statement_step (Stmt-F.While q s at) = stat.Statement.while_true (expression q) s.value at
statement_step (Stmt-F.Until s q at) = stat.Statement.until_true s.value (expression q) at
statement_step (Stmt-F.For name first step last s at) = stat.Statement.for_values (letters name) (expression first)
    (trees (optional step)) (expression last) s.value at
statement_step (Stmt-F.Case e ss at) = stat.Statement.case_of (expression e) (stat.statements ss.items) at
statement_step (Stmt-F.Goto name at) = stat.Statement.go_to (letters name) at
statement_step (Stmt-F.Return at) = stat.Statement.return at
statement_step (Stmt-F.Assign to e at) = stat.Statement.assign (target_tree to) (expression e) at
statement_step (Stmt-F.AssignEffect to e at) = stat.Statement.assign_effect (target_tree to) (effect_tree e) at
statement_step (Stmt-F.Do e at) = stat.Statement.do_effect (effect_tree e) at
statement_step (Stmt-F.Call name args at) = stat.Statement.call (letters name) (trees (map expression args.items)) at

abbrev pub statement : Stmt → stat.Statement
statement = fold-Stmt stat.Statement statement_step
