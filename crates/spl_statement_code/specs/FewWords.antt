-- How many words the code of a statement takes at most: its weight, with twelve to spare.
use Rattle.std.specs.Prelude.{ℕ, ◌+◌, ◌*◌, ◌≤◌, max, List}
use Rattle.spl_code.specs.spl_tree.StatementTrees as stat
use Rattle.spl_code.specs.spl_tree.StatementTrees.{Statement, Statements}
use Rattle.spl_code.specs.spl_meaning.Bound.{statement_weight, statements_weight}
use Rattle.spl_code.specs.spl_branch.Pieces.{count_of}
use Rattle.spl_code.specs.Parts.{Wanted}
use Rattle.spl_statement_code.specs.Landings.{Context}
use Rattle.spl_statement_code.specs.Statements.{statement, listed}

-- how many FORs stand one inside the other, at most
abbrev mutual
  pub nested_loops : Statement → ℕ
  nested_loops (stat.Statement.labelled x at s) = nested_loops s
  nested_loops (stat.Statement.block ss) = nested_among ss
  nested_loops (stat.Statement.if_test q then_part else_part at) = max (nested_loops then_part) (nested_among else_part)
  nested_loops (stat.Statement.while_true e s at) = nested_loops s
  nested_loops (stat.Statement.until_true s e at) = nested_loops s
  nested_loops (stat.Statement.for_values x first step last s at) = 1 + nested_loops s
  nested_loops (stat.Statement.case_of e ss at) = nested_among ss
  nested_loops _ = 0

  -- in the statements of a list
  pub nested_among : Statements → ℕ
  nested_among stat.Statements.none = 0
  nested_among (stat.Statements.and s ss) = max (nested_loops s) (nested_among ss)

-- Where the words that wait, with three for each FOR, are at most 255, one instruction deletes them: so GO TO and RETURN have few words.
abbrev pub StatementHasFewWords : Type 0
StatementHasFewWords = (c : Context) (s : Statement) (k l : ℕ) (ws : List Wanted) → k + 3 * nested_loops s ≤ 255
    → count_of (statement c s k l ws).pieces + 12 ≤ statement_weight s

-- of the statements of a list
abbrev pub StatementsHaveFewWords : Type 0
StatementsHaveFewWords = (c : Context) (ss : Statements) (k l : ℕ) (ws : List Wanted) → k + 3 * nested_among ss ≤ 255
    → count_of (listed c ss k l ws).pieces ≤ statements_weight ss
