-- The laws of statements: how the grammar and what is read by it determine each other.
use Rattle.std.specs.Prelude.{ℕ, ◌≡◌, ◌+◌, ◌⊎◌, List, ◌∷◌, length}
use Rattle.spl_reading.specs.spl_tree.Symbols.{Lexeme}
use Rattle.spl_reading.specs.spl_tree.Parts as part
use Rattle.spl_reading.specs.spl_tree.OpenExpressions.{Part, Opens, limit}
use Rattle.spl_reading.specs.spl_tree.StatementTrees as stat
use Rattle.spl_reading.specs.spl_tree.Statements as st
use Rattle.spl_reading.specs.Readers.{Got, Bad}
use Rattle.spl_reading.specs.ReadStatements.{statement}
use Rattle.spl_grammar.specs.Following.{After}
use Rattle.spl_grammar.specs.Answers.{DeepBefore, Agrees, Explains, Completes, ChainsReach, DeepFirst, Longest, FaultFirst}

-- What is spelled as a statement, with a token behind it that ends it, is read, unless it is too deep before its end.
abbrev pub StatementsAreRead : Type 0
StatementsAreRead = (x : stat.Statement) (ts rest : List Lexeme) (room : ℕ) → st.Statement x ts rest → After x rest
    → (statement room ts ≡ Got x rest) ⊎ DeepBefore (length rest) (statement room ts)

-- What is read as a statement is spelled; a fault comes behind tokens that open one, at most as deep as may be; and
-- where it is too
-- deep, the tokens up to and with that one open more. Here d constructs are open around it.
abbrev pub StatementsAreExplained : Type 0
StatementsAreExplained = (room d : ℕ) (ts : List Lexeme) → d + room ≡ limit
    → Explains limit (λ x rest. st.Statement x ts rest) part.statement d 0 ts (statement room ts)

-- A fault in a statement depends on no token behind its place: each list that agrees up to that token has the same one,
-- and begins
-- with no statement.
abbrev pub StatementFaultsStand : Type 0
StatementFaultsStand = (room : ℕ) (t : Lexeme) (us vs ts more : List Lexeme) → statement room ts ≡ Bad (t ∷ us)
    → Agrees us vs ts more
    → (statement room more ≡ Bad (t ∷ vs)) ×
    ((x : stat.Statement) (rest : List Lexeme) → st.Statement x more rest → After x rest → ⊥)

-- A list begins with at most one statement that what follows ends, however deep it is.
abbrev pub StatementsAreUnique : Type 0
StatementsAreUnique = (x y : stat.Statement) (ts rest more : List Lexeme) → st.Statement x ts rest → After x rest
    → st.Statement y ts more → After y more
    → (x ≡ y) × (rest ≡ more)

-- Behind the tokens of each chain a statement can be completed.
abbrev pub StatementPrefixesAreCompleted : Type 0
StatementPrefixesAreCompleted = (q : Part) (d n j k : ℕ) (ts mid : List Lexeme)
    → Opens part.statement d n ts q j k mid → Completes (λ us rest. (x : stat.Statement) × st.Statement x us rest) ts mid

-- Each chain of a statement goes no further than what is read.
abbrev pub StatementsReach : Type 0
StatementsReach = ChainsReach part.statement statement

-- Where a statement is too deep at a token, no chain over the tokens before it has more open than may be.
abbrev pub StatementsSinkFirst : Type 0
StatementsSinkFirst = DeepFirst part.statement statement

-- No chain goes over the token behind a statement that was read.
abbrev pub StatementsAreLongest : Type 0
StatementsAreLongest = Longest part.statement statement

-- No chain of a statement goes over the token at which a fault stands.
abbrev pub StatementsFailFirst : Type 0
StatementsFailFirst = FaultFirst part.statement statement
