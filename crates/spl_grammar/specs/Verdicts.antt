-- What a list of tokens comes to as a unit: it spells one; or there is a first token that no unit goes on with; or a first
-- one at which more is open than may be.
use Rattle.std.specs.Prelude.{ℕ, ◌≡◌, ◌↔◌, ◌<◌, ◌≤◌, ◌++◌, List, [], ◌∷◌, length}
use Rattle.spl_reading.specs.spl_tree.Symbols.{Lexeme}
use Rattle.spl_reading.specs.spl_tree.DeclarationTrees.{UnitTree}
use Rattle.spl_reading.specs.spl_tree.Parts as part
use Rattle.spl_reading.specs.spl_tree.OpenExpressions.{Part, Opens, OpensAt, limit, nesting}
use Rattle.spl_reading.specs.spl_tree.Units.{Unit_of}
use Rattle.spl_reading.specs.Readers.{Outcome, Got, Bad, Deep}
use Rattle.spl_reading.specs.ReadDeclarations.{unit}
use Rattle.spl_grammar.specs.Answers.{Agrees}
use Rattle.spl_grammar.specs.Ends.{Ended}

-- no chain over tokens that all stand before `rest` has more open than may be
abbrev pub NotTooDeep : List Lexeme → List Lexeme → Type 0
NotTooDeep rest ts = (q : Part) (j k : ℕ) (mid : List Lexeme) → Opens part.unit 0 0 ts q j k mid
    → length rest ≤ length mid → nesting j k ≤ limit

-- no list with the same tokens, up to and with the last before `rest`, spells a unit
abbrev pub NoUnit : List Lexeme → List Lexeme → Type 0
NoUnit rest ts = (u : UnitTree) (vs more : List Lexeme) → Agrees rest vs ts more → Unit_of u more → ⊥

pub data Verdict (ts : List Lexeme) : Outcome UnitTree → Type 0 where
  -- the list is a unit, and nowhere too deep
  spelled : {u : UnitTree} → Unit_of u ts → NotTooDeep [] ts → Verdict ts (Got u [])
  -- the tokens before t open a unit that is not too deep, and with t they begin none
  refused : {t : Lexeme} {rest : List Lexeme} → OpensAt part.unit 0 0 ts (t ∷ rest) → NotTooDeep (t ∷ rest) ts
      → NoUnit rest ts → Verdict ts (Bad (t ∷ rest))
  -- the tokens up to and with t open a unit with more open than may be, and those before it with no more
  too_deep : {t : Lexeme} {rest : List Lexeme} (front : List Lexeme) → ts ≡ front ++ t ∷ rest
      → (o : OpensAt part.unit 0 0 ts rest) → limit < nesting o.constructs o.operators → NotTooDeep (t ∷ rest) ts
      → Verdict ts (Deep (t ∷ rest))

-- A list has at most one verdict, and that at one place.
abbrev pub VerdictsAreUnique : Type 0
VerdictsAreUnique = (ts : List Lexeme) (o p : Outcome UnitTree) → Verdict ts o → Verdict ts p → o ≡ p

-- In a list that ends, what is read where as many constructs may be open as may be at all is the list's verdict.
abbrev pub VerdictsAreRead : Type 0
VerdictsAreRead = (ts : List Lexeme) (o : Outcome UnitTree) → Ended ts → (unit limit ts ≡ o) ↔ Verdict ts o
