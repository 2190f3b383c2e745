-- The laws of expressions and conditions: how the grammar and what is read by it determine each other.
use Rattle.std.specs.Prelude.{ℕ, ◌≡◌, ◌+◌, ◌⊎◌, true, false, List, ◌∷◌, length, None}
use Rattle.spl_reading.specs.spl_tree.Symbols.{Lexeme}
use Rattle.spl_reading.specs.spl_tree.Operators.{Form}
use Rattle.spl_reading.specs.spl_tree.Expressions as g
use Rattle.spl_reading.specs.spl_tree.OpenExpressions as op
use Rattle.spl_reading.specs.spl_tree.OpenExpressions.{limit}
use Rattle.spl_reading.specs.spl_tree.Trees as tree
use Rattle.spl_reading.specs.Readers.{Got, Bad}
use Rattle.spl_reading.specs.ReadExpressions.{expression, condition}
use Rattle.spl_grammar.specs.Following.{Follow}
use Rattle.spl_grammar.specs.Answers.{DeepBefore, Agrees, Explains, Spelled, SpelledCondition, Completes, ChainsReach, DeepFirst, Longest, FaultFirst}

-- What is spelled as an expression, with a token behind it that can't go on with it, is read, unless it is too deep
-- before its end.
abbrev pub ExpressionsAreRead : Type 0
ExpressionsAreRead = (n : ℕ) (x : Form) (e : tree.Tree) (ts rest : List Lexeme) (room taken : ℕ)
    → g.Level false None 10 n x e ts rest → Follow false 10 rest
    → (expression room taken ts ≡ Got e rest) ⊎ DeepBefore (length rest) (expression room taken ts)

-- And so are conditions. No comma may stand behind one: where the condition ends in two references and a relation, as A=B, a
-- comma goes on with the count of a comparison of bytes, so A=B is not read before one. No production has a comma there.
abbrev pub ConditionsAreRead : Type 0
ConditionsAreRead = (n : ℕ) (x : Form) (e : tree.Tree) (ts rest : List Lexeme) (room taken : ℕ)
    → g.Level true None 10 n x e ts rest → Follow true 10 rest
    → (condition room taken ts ≡ Got e rest) ⊎ DeepBefore (length rest) (condition room taken ts)

-- What is read as an expression is spelled; a fault comes behind tokens that open one, at most as deep as may be; and
-- where it is
-- too deep, the tokens up to and with that one are the first to be so. Here d constructs are open around it.
abbrev pub ExpressionsAreExplained : Type 0
ExpressionsAreExplained = (room d : ℕ) (ts : List Lexeme) → d + room ≡ limit
    → Explains limit (λ e rest. Spelled e ts rest) (op.level false None 10) d 0 ts (expression room 0 ts)

abbrev pub ConditionsAreExplained : Type 0
ConditionsAreExplained = (room d : ℕ) (ts : List Lexeme) → d + room ≡ limit
    → Explains limit (λ e rest. SpelledCondition e ts rest) (op.level true None 10) d 0 ts (condition room 0 ts)

-- A fault in an expression depends on no token behind its place: each list that agrees up to that token has the same
-- one, and
-- begins with no expression.
abbrev pub ExpressionFaultsStand : Type 0
ExpressionFaultsStand = (room taken : ℕ) (t : Lexeme) (us vs ts more : List Lexeme)
    → expression room taken ts ≡ Bad (t ∷ us) → Agrees us vs ts more
    → (expression room taken more ≡ Bad (t ∷ vs)) ×
    ((n : ℕ) (x : Form) (e : tree.Tree) (rest : List Lexeme) → g.Level false None 10 n x e more rest
    → Follow false 10 rest → ⊥)

abbrev pub ConditionFaultsStand : Type 0
ConditionFaultsStand = (room taken : ℕ) (t : Lexeme) (us vs ts more : List Lexeme)
    → condition room taken ts ≡ Bad (t ∷ us) → Agrees us vs ts more
    → (condition room taken more ≡ Bad (t ∷ vs)) ×
    ((n : ℕ) (x : Form) (e : tree.Tree) (rest : List Lexeme) → g.Level true None 10 n x e more rest
    → Follow true 10 rest → ⊥)

-- A list begins with at most one expression that ends where no token goes on with it, however deep it is.
abbrev pub ExpressionsAreUnique : Type 0
ExpressionsAreUnique = (n m : ℕ) (x y : Form) (e d : tree.Tree) (ts rest more : List Lexeme)
    → g.Level false None 10 n x e ts rest → Follow false 10 rest
    → g.Level false None 10 m y d ts more → Follow false 10 more → (e ≡ d) × (rest ≡ more)

abbrev pub ConditionsAreUnique : Type 0
ConditionsAreUnique = (n m : ℕ) (x y : Form) (e d : tree.Tree) (ts rest more : List Lexeme)
    → g.Level true None 10 n x e ts rest → Follow true 10 rest
    → g.Level true None 10 m y d ts more → Follow true 10 more → (e ≡ d) × (rest ≡ more)

-- Behind the tokens of each chain an expression can be completed.
abbrev pub ExpressionPrefixesAreCompleted : Type 0
ExpressionPrefixesAreCompleted = (q : op.Part) (d n j k : ℕ) (ts mid : List Lexeme)
    → op.Opens (op.level false None 10) d n ts q j k mid
    → Completes (λ us rest. (e : tree.Tree) × Spelled e us rest) ts mid

-- And behind those of each chain of a condition a condition.
abbrev pub ConditionPrefixesAreCompleted : Type 0
ConditionPrefixesAreCompleted = (q : op.Part) (d n j k : ℕ) (ts mid : List Lexeme)
    → op.Opens (op.level true None 10) d n ts q j k mid
    → Completes (λ us rest. (e : tree.Tree) × SpelledCondition e us rest) ts mid

-- Each chain of an expression goes no further than what is read.
abbrev pub ExpressionsReach : Type 0
ExpressionsReach = ChainsReach (op.level false None 10) (λ room. expression room 0)

-- Where an expression is too deep at a token, no chain over the tokens before it has more open than may be.
abbrev pub ExpressionsSinkFirst : Type 0
ExpressionsSinkFirst = DeepFirst (op.level false None 10) (λ room. expression room 0)

-- No chain goes over the token behind an expression that was read.
abbrev pub ExpressionsAreLongest : Type 0
ExpressionsAreLongest = Longest (op.level false None 10) (λ room. expression room 0)

-- No chain of an expression goes over the token at which a fault stands.
abbrev pub ExpressionsFailFirst : Type 0
ExpressionsFailFirst = FaultFirst (op.level false None 10) (λ room. expression room 0)

-- Each chain of a condition goes no further than what is read.
abbrev pub ConditionsReach : Type 0
ConditionsReach = ChainsReach (op.level true None 10) (λ room. condition room 0)

-- Where a condition is too deep at a token, no chain over the tokens before it has more open than may be.
abbrev pub ConditionsSinkFirst : Type 0
ConditionsSinkFirst = DeepFirst (op.level true None 10) (λ room. condition room 0)

-- No chain goes over the token behind a condition that was read.
abbrev pub ConditionsAreLongest : Type 0
ConditionsAreLongest = Longest (op.level true None 10) (λ room. condition room 0)

-- No chain of a condition goes over the token at which a fault stands.
abbrev pub ConditionsFailFirst : Type 0
ConditionsFailFirst = FaultFirst (op.level true None 10) (λ room. condition room 0)
