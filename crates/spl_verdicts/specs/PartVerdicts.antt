-- What a list of tokens comes to as an expression or a condition: it begins with one; or there is a first token that
-- none
-- goes on with; or a first one at which more is open than may be.
use Rattle.std.specs.Prelude.{ℕ, ◌≡◌, ◌↔◌, ◌+◌, ◌<◌, ◌≤◌, ◌++◌, Bool, true, false, List, [], ◌∷◌, length, None}
use Rattle.spl_grammar.specs.spl_tree.Symbols.{Lexeme}
use Rattle.spl_grammar.specs.spl_tree.Operators.{Form}
use Rattle.spl_grammar.specs.spl_tree.Expressions as g
use Rattle.spl_grammar.specs.spl_tree.Trees.{Tree}
use Rattle.spl_grammar.specs.spl_tree.OpenExpressions.{Part, level, Opens, OpensAt, limit, nesting}
use Rattle.spl_grammar.specs.spl_reading.Readers.{Outcome, Got, Bad, Deep, Parser}
use Rattle.spl_grammar.specs.spl_reading.ReadExpressions.{expression, condition}
use Rattle.spl_grammar.specs.Answers.{Agrees}
use Rattle.spl_grammar.specs.Ends.{Ended}

-- a whole expression, or a condition where c is true
abbrev pub part : Bool → Part
part c = level c None 10

-- it stands at the front of the tokens ts, and rest follows it
pub record Stands (c : Bool) (e : Tree) (ts rest : List Lexeme) : Type 0 where
  pub operators : ℕ
  pub form : Form
  pub spelled : g.Level c None 10 operators form e ts rest

-- no list with the same tokens, up to and with the last before `rest`, is one
abbrev pub NoPart : Bool → List Lexeme → List Lexeme → Type 0
NoPart c rest ts = (e : Tree) (vs more : List Lexeme) → Agrees rest vs ts more → Stands c e more [] → ⊥

-- the tokens before `rest` are none
abbrev pub NotWhole : Bool → List Lexeme → List Lexeme → Type 0
NotWhole c rest ts = (e : Tree) → Stands c e ts rest → ⊥

-- no chain over tokens that all stand before `rest` has more open than may be, where d constructs are open around
-- the part
abbrev pub NotTooDeep : Bool → ℕ → List Lexeme → List Lexeme → Type 0
NotTooDeep c d rest ts = (q : Part) (j k : ℕ) (mid : List Lexeme) → Opens (part c) d 0 ts q j k mid
    → length rest ≤ length mid → nesting j k ≤ limit

pub data Verdict (c : Bool) (d : ℕ) (ts : List Lexeme) : Outcome Tree → Type 0 where
  -- the tokens before t are a part that is nowhere too deep, and with t they begin none
  spelled : {e : Tree} {t : Lexeme} {rest : List Lexeme} → Stands c e ts (t ∷ rest) → NotTooDeep c d (t ∷ rest) ts
      → NoPart c rest ts → Verdict c d ts (Got e (t ∷ rest))
  -- the tokens before t open a part that is not too deep and are none themselves, and with t they begin none
  refused : {t : Lexeme} {rest : List Lexeme} → OpensAt (part c) d 0 ts (t ∷ rest) → NotTooDeep c d (t ∷ rest) ts
      → NotWhole c (t ∷ rest) ts → NoPart c rest ts → Verdict c d ts (Bad (t ∷ rest))
  -- the tokens up to and with t open a part with more open than may be, and those before it with no more
  too_deep : {t : Lexeme} {rest : List Lexeme} (front : List Lexeme) → ts ≡ front ++ t ∷ rest
      → (o : OpensAt (part c) d 0 ts rest) → limit < nesting o.constructs o.operators → NotTooDeep c d (t ∷ rest) ts
      → Verdict c d ts (Deep (t ∷ rest))

-- what is read of the part, where so many constructs may be opened
abbrev pub read : Bool → ℕ → Parser Tree
read false room = expression room 0
read true room = condition room 0

-- A list has at most one verdict, and that at one place.
abbrev pub PartVerdictsAreUnique : Type 0
PartVerdictsAreUnique = (c : Bool) (d : ℕ) (ts : List Lexeme) (o p : Outcome Tree) → Verdict c d ts o
    → Verdict c d ts p → o ≡ p

-- In a list that ends, what is read where as many constructs may be open as may be at all is the list's verdict.
abbrev pub PartVerdictsAreRead : Type 0
PartVerdictsAreRead = (c : Bool) (d room : ℕ) (ts : List Lexeme) (o : Outcome Tree) → d + room ≡ limit → Ended ts
    → (read c room ts ≡ o) ↔ Verdict c d ts o

-- A part that stands before a token is read there, or reading goes on over the token, or it is too deep: it is not
-- refused.
abbrev pub WholePartsAreNotRefused : Type 0
WholePartsAreNotRefused = (c : Bool) (room : ℕ) (e : Tree) (t : Lexeme) (ts rest : List Lexeme)
    → Stands c e ts (t ∷ rest)
    → read c room ts ≡ Bad (t ∷ rest) → ⊥
