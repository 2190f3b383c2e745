-- Parts of statements that hold no statement, and statements in boxes.
use Rattle.std.specs.Prelude.{ℕ, List, [], ◌∷◌, Option, Some, None, Box}
use Rattle.std.specs.declared.alloc.Global.{Global}
use Rattle.spl_tree.specs.declared.expressions.Expr.{Expr}
use Rattle.spl_tree.specs.declared.statements.Stmt.{Stmt}
use Rattle.spl_tree.specs.declared.symbols.Reserved.TheVariants as w
use Rattle.spl_tree.specs.declared.symbols.Symbol.TheVariants as s
use Rattle.spl_tree.specs.Trees.{Tree}
use Rattle.spl_tree.specs.StatementTrees as stat
use Rattle.spl_tree.specs.Views as view
use Rattle.spl_reading.specs.Readers.{Parser, ◌>>=◌, pure, expect}
use Rattle.spl_reading.specs.ReadExpressions.{expression, condition}
use Rattle.spl_reading.specs.ReadStatements.{stepped}
use Rattle.spl_statement_parts.specs.declared.trees.Values.{Values}

-- UNTIL condition
unfoldable pub until_condition : ℕ → Parser Tree
until_condition room = expect (s.Word w.Until) >>= λ _. condition room 0

-- UNTIL expr
unfoldable pub limit : ℕ → Parser Tree
limit room = expect (s.Word w.Until) >>= λ _. expression room 0

-- [STEP expr] UNTIL expr
unfoldable pub bounds : ℕ → Parser (List Tree × Tree)
bounds room = stepped room >>= λ es. limit room >>= λ b. pure (es, b)

-- expr [STEP expr] UNTIL expr
unfoldable pub values : ℕ → Parser (Tree × (List Tree × Tree))
values room = expression room 0 >>= λ a. bounds room >>= λ b. pure (a, b)

-- a statement in a box
abbrev pub in_box : Box Stmt Global → stat.Statement
in_box b = view.statement b.value

abbrev pub boxed : Option (Box Stmt Global) → List stat.Statement
boxed None = []
boxed (Some b) = in_box b ∷ []

-- the step of a FOR and its last value
abbrev pub step_and_last : Option Expr × Expr → List Tree × Tree
step_and_last b = (view.optional b.0, view.expression b.1)

-- the values of a FOR
abbrev pub all_of : Values → Tree × (List Tree × Tree)
all_of v = (view.expression v.first, (view.optional v.step, view.expression v.last))
