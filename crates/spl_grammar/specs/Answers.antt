-- What is claimed of the readers' answers.
use Rattle.std.specs.Prelude.{ℕ, ◌≡◌, ◌+◌, ◌<◌, ◌≤◌, ◌++◌, true, false, List, ◌∷◌, length, None}
use Rattle.spl_reading.specs.spl_tree.Symbols.{Lexeme}
use Rattle.spl_reading.specs.spl_tree.Operators.{Form}
use Rattle.spl_reading.specs.spl_tree.Expressions as g
use Rattle.spl_reading.specs.spl_tree.OpenExpressions.{Part, Opens, OpensAt, limit, nesting}
use Rattle.spl_reading.specs.spl_tree.Trees as tree
use Rattle.spl_reading.specs.Readers.{Outcome, Got, Bad, Deep, Parser}

-- too deep where more tokens than these are left
pub data DeepBefore {A : Type 0} (n : ℕ) : Outcome A → Type 0 where
  deep : {rest : List Lexeme} → n < length rest → DeepBefore n (Deep rest)

-- the list at which a reader stops
abbrev pub end_of : {A : Type 0} → Outcome A → List Lexeme
end_of (Got a rest) = rest
end_of (Bad rest) = rest
end_of (Deep rest) = rest

-- us and vs stand behind the last token up to which the two lists agree
pub data Agrees (us vs : List Lexeme) : List Lexeme → List Lexeme → Type 0 where
  here : {t : Lexeme} → Agrees us vs (t ∷ us) (t ∷ vs)
  there : {t : Lexeme} {ts more : List Lexeme} → Agrees us vs ts more → Agrees us vs (t ∷ ts) (t ∷ more)

-- What is read is W; a fault comes behind tokens that open the part, with at most so many constructs open; where it is
-- too deep,
-- the tokens up to and with that one open more. Around the part d constructs are open, and n operators stand before it.
pub data Explains {A : Type 0} (most : ℕ) (W : A → List Lexeme → Type 0) (p : Part) (d n : ℕ) (ts : List Lexeme) :
    Outcome A → Type 0 where
  got : {a : A} {rest : List Lexeme} → W a rest → Explains most W p d n ts (Got a rest)
  bad : {rest : List Lexeme} (o : OpensAt p d n ts rest) → nesting o.constructs o.operators ≤ most
      → Explains most W p d n ts (Bad rest)
  deep : {t : Lexeme} {rest : List Lexeme} (o : OpensAt p d n ts rest) → most < nesting o.constructs o.operators
      → Explains most W p d n ts (Deep (t ∷ rest))

-- an expression that is spelled
pub record Spelled (e : tree.Tree) (ts rest : List Lexeme) : Type 0 where
  pub operators : ℕ
  pub form : Form
  pub spelled : g.Level false None 10 operators form e ts rest

-- a condition that is spelled
pub record SpelledCondition (e : tree.Tree) (ts rest : List Lexeme) : Type 0 where
  pub operators : ℕ
  pub form : Form
  pub spelled : g.Level true None 10 operators form e ts rest

-- The tokens before the second list begin a part: with those of the tail behind them one is whole, whatever follows.
pub record Completes (P : List Lexeme → List Lexeme → Type 0) (ts mid : List Lexeme) : Type 0 where
  pub front : List Lexeme
  pub tail : List Lexeme
  pub before : ts ≡ front ++ mid
  pub whole : (more : List Lexeme) → P (front ++ (tail ++ more)) more

-- A chain up to mid goes no further than what was read, where d constructs are open around its last part and n operators stand
-- before it: reading is too deep before mid, or it ends there or behind, and no more is open than may be.
pub data Reaches {A : Type 0} (d n : ℕ) (mid : List Lexeme) : Outcome A → Type 0 where
  sinks : {o : Outcome A} → DeepBefore (length mid) o → Reaches d n mid o
  goes_on : {o : Outcome A} → length (end_of o) ≤ length mid → nesting d n ≤ limit → Reaches d n mid o

-- Each chain of a part goes no further than what its reader answers where so many constructs may be opened.
abbrev pub ChainsReach : {A : Type 0} → Part → (ℕ → Parser A) → Type 0
ChainsReach p read = (room d : ℕ) (q : Part) (j k : ℕ) (ts mid : List Lexeme) → d + room ≡ limit
    → Opens p d 0 ts q j k mid → Reaches j k mid (read room ts)

-- Where it is too deep at a token, it is at none before: no chain over the tokens before it has more open than may be.
abbrev pub DeepFirst : {A : Type 0} → Part → (ℕ → Parser A) → Type 0
DeepFirst p read = (room d : ℕ) (q : Part) (j k : ℕ) (ts mid us : List Lexeme) → d + room ≡ limit
    → Opens p d 0 ts q j k mid → read room ts ≡ Deep us → length us ≤ length mid → nesting j k ≤ limit

-- A part that is read is the longest: no chain goes over the token behind it.
abbrev pub Longest : {A : Type 0} → Part → (ℕ → Parser A) → Type 0
Longest {A} p read = (room d : ℕ) (q : Part) (j k : ℕ) (ts mid us : List Lexeme) (a : A) → d + room ≡ limit
    → Opens p d 0 ts q j k mid → read room ts ≡ Got a us → length us ≤ length mid

-- A fault stands at the first token that can't: no chain goes over it.
abbrev pub FaultFirst : {A : Type 0} → Part → (ℕ → Parser A) → Type 0
FaultFirst p read = (room d : ℕ) (q : Part) (j k : ℕ) (ts mid us : List Lexeme) → d + room ≡ limit
    → Opens p d 0 ts q j k mid → read room ts ≡ Bad us → length us ≤ length mid
