-- The words in which the rules read tokens.
use Rattle.std.specs.Prelude.{ℕ, zero, suc, ◌==◌, ◌&&◌, Bool, true, false, if◌then◌else◌, List, [], ◌∷◌, length, Option, Some, None}
use Rattle.spl_tree.specs.declared.names_and_places.At.{At}
use Rattle.spl_tree.specs.declared.symbols.Symbol.{Symbol}
use Rattle.spl_tree.specs.declared.symbols.Symbol.TheVariants as s
use Rattle.spl_tree.specs.declared.symbols.Reserved.{Reserved}
use Rattle.spl_tree.specs.declared.symbols.Reserved.TheVariants as w
use Rattle.spl_tree.specs.declared.expressions.Kind.{Kind}
use Rattle.spl_tree.specs.declared.expressions.Kind.TheVariants as kind
use Rattle.spl_tree.specs.Symbols.{Lexeme}

-- What reading a part comes to: the part and the tokens behind it, or the tokens from the first on that can't stand
-- there,
-- or from the first on at which more is open than may be.
pub data Outcome (A : Type 0) : Type 0 where
  Got : A → List Lexeme → Outcome A
  Bad : List Lexeme → Outcome A
  Deep : List Lexeme → Outcome A

abbrev pub Parser : Type 0 → Type 0
Parser A = List Lexeme → Outcome A

-- goes on behind a part that was read
unfoldable pub and_then : {A B : Type 0} → Outcome A → (A → Parser B) → Outcome B
and_then (Got a rest) f = f a rest
and_then (Bad rest) f = Bad rest
and_then (Deep rest) f = Deep rest

-- one part, and then what depends on it
unfoldable pub followed : {A B : Type 0} → Parser A → (A → Parser B) → Parser B
unfolding and_then
followed p f = λ ts. and_then (p ts) f

infixl 10 ◌>>=◌
abbrev pub ◌>>=◌ : {A B : Type 0} → Parser A → (A → Parser B) → Parser B
p >>= f = followed p f

infixl 10 ◌>>◌
abbrev pub ◌>>◌ : {A B : Type 0} → Parser A → Parser B → Parser B
p >> q = followed p (λ _. q)

-- nothing is read
unfoldable pub pure : {A : Type 0} → A → Parser A
pure a = λ ts. Got a ts

-- the token can't stand here
unfoldable pub refuse : {A : Type 0} → Parser A
refuse = λ ts. Bad ts

-- what is read depends on the first symbol
unfoldable pub by_symbol : {A : Type 0} → (Symbol → Parser A) → Parser A
by_symbol f [] = Bad []
by_symbol f (t ∷ ts) = f t.symbol (t ∷ ts)

-- the next token
unfoldable pub take : Parser Lexeme
take [] = Bad []
take (t ∷ ts) = Got t ts

-- the place of the next token
unfoldable pub at_place : Parser At
at_place [] = Bad []
at_place (t ∷ ts) = Got t.at (t ∷ ts)

-- the next token, with which one more construct is open, where this is so
unfoldable pub allowed : Bool → Parser Lexeme
allowed true = take
allowed false = by_symbol (λ k. λ ts. Deep ts)

-- a symbol as two numbers
unfoldable pub kind_number : Kind → ℕ
kind_number kind.Integer = 0
kind_number kind.Logical = 1
kind_number kind.Byte = 2
kind_number kind.Double = 3

unfoldable pub reserved_number : Reserved → ℕ
reserved_number w.Array = 0
reserved_number w.Begin = 1
reserved_number w.Case = 2
reserved_number w.Do = 3
reserved_number w.Else = 4
reserved_number w.End = 5
reserved_number w.Equate = 6
reserved_number w.For = 7
reserved_number w.Go = 8
reserved_number w.Goto = 9
reserved_number w.If = 10
reserved_number w.Intrinsic = 11
reserved_number w.Label = 12
reserved_number w.Move = 13
reserved_number w.Of = 14
reserved_number w.Options = 15
reserved_number w.Own = 16
reserved_number w.Pointer = 17
reserved_number w.Procedure = 18
reserved_number w.Return = 19
reserved_number w.Scan = 20
reserved_number w.Step = 21
reserved_number w.Subroutine = 22
reserved_number w.Then = 23
reserved_number w.To = 24
reserved_number w.Until = 25
reserved_number w.Value = 26
reserved_number w.While = 27
reserved_number w.Unused = 28

unfoldable pub truth_number : Bool → ℕ
truth_number false = 0
truth_number true = 1

unfoldable pub symbol_number : Symbol → ℕ × ℕ
symbol_number s.Name = (0, 0)
symbol_number (s.Number v) = (1, v)
symbol_number (s.Wide v) = (2, v)
symbol_number s.Text = (3, 0)
symbol_number (s.Truth b) = (4, truth_number b)
symbol_number (s.Operator op) = (5, op)
symbol_number s.Not = (6, 0)
symbol_number (s.Type k) = (7, kind_number k)
symbol_number s.Open = (8, 0)
symbol_number s.Close = (9, 0)
symbol_number s.Comma = (10, 0)
symbol_number s.Semicolon = (11, 0)
symbol_number s.Colon = (12, 0)
symbol_number s.Dot = (13, 0)
symbol_number s.Ampersand = (14, 0)
symbol_number s.AtSign = (15, 0)
symbol_number s.Assign = (16, 0)
symbol_number (s.Word w) = (17, reserved_number w)
symbol_number s.Stop = (18, 0)

-- the two symbols are the same
unfoldable pub same_symbol : Symbol → Symbol → Bool
same_symbol a b = (symbol_number a).0 == (symbol_number b).0 && (symbol_number a).1 == (symbol_number b).1

-- the next token, which is this symbol
unfoldable pub expect : Symbol → Parser Lexeme
expect k = by_symbol (λ found. if same_symbol found k then take else refuse)

-- the number that a table has for the next name
unfoldable pub numbered : Option ℕ → Parser ℕ
numbered None = refuse
numbered (Some n) = take >> pure n

unfoldable pub named_number : (List ℕ → Option ℕ) → Parser ℕ
named_number table [] = Bad []
named_number table (t ∷ ts) = if same_symbol t.symbol s.Name then numbered (table t.letters) (t ∷ ts) else Bad (t ∷ ts)

-- turns of a loop, each of which says whether another follows
unfoldable pub turns : {S : Type 0} → (S → Parser (Bool × S)) → ℕ → S → Parser S
turns step zero s = refuse
turns step (suc n) s = step s >>= λ r. if r.0 then turns step n r.1 else pure r.1

-- a loop, whose turns take tokens
unfoldable pub repeat : {S : Type 0} → (S → Parser (Bool × S)) → S → Parser S
repeat step s = λ ts. turns step (suc (length ts)) s ts
