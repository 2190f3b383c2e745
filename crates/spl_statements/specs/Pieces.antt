-- Pieces of statements that are read before what they belong to is needed.
use Rattle.std.specs.Prelude.{ℕ, Bool, true, false, List, [], ◌∷◌, ◌++◌, if◌then◌else◌, Option, Some, None}
use Rattle.spl_tree.specs.declared.statements.Stmt.{Stmt}
use Rattle.spl_tree.specs.declared.symbols.Reserved.{Reserved}
use Rattle.spl_tree.specs.declared.symbols.Reserved.TheVariants as w
use Rattle.spl_tree.specs.declared.symbols.Symbol.{Symbol}
use Rattle.spl_tree.specs.declared.symbols.Symbol.TheVariants as s
use Rattle.spl_tree.specs.StatementTrees as stat
use Rattle.spl_tree.specs.Views as view
use Rattle.spl_reading.specs.Readers.{Parser, ◌>>=◌, pure, by_symbol, take, expect}
use Rattle.spl_reading.specs.ReadExpressions.{is}
use Rattle.spl_reading.specs.ReadStatements as r
use Rattle.spl_statements.specs.Nests.{inner}

-- a word, and the statement inside
unfoldable pub behind : ℕ → Reserved → Parser stat.Statement
behind room word = expect (s.Word word) >>= λ _. inner room

-- [mark statement]
unfoldable pub marked : ℕ → Symbol → Parser (List stat.Statement)
marked room mark = by_symbol (λ k. if is mark k then (take >>= λ _. inner room >>= λ y. pure (y ∷ [])) else pure [])

-- OF BEGIN statements END
unfoldable pub arms : ℕ → Parser (List stat.Statement)
arms room = do
  _ ← expect (s.Word w.Of)
  _ ← expect (s.Word w.Begin)
  xs ← r.statement_list (inner room)
  _ ← expect (s.Word w.End)
  pure xs

-- a statement, where there is one
abbrev pub optional : Option Stmt → List stat.Statement
optional None = []
optional (Some s) = view.statement s ∷ []

-- statements, and whether one more was read behind them
abbrev pub longer : List stat.Statement → List stat.Statement → Bool × List stat.Statement
longer xs [] = (false, xs)
longer xs (y ∷ ys) = (true, xs ++ y ∷ [])
