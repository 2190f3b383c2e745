-- What a rule of the code answers: what the reading of the tokens that are left comes to.
use Rattle.std.specs.Prelude.{ℕ, ◌≡◌, Bool, List, [], ◌∷◌, Option, Some, None, Result, Ok, Err, if◌then◌else◌}
use denote.Ref.{Bor}
use Rattle.spl_tree.specs.declared.symbols.Symbol.{Symbol}
use Rattle.spl_tree.specs.declared.symbols.Symbol.TheVariants as s
use Rattle.spl_tree.specs.declared.tokens.Token.{Token}
use Rattle.spl_tree.specs.Symbols.{Lexeme, lexeme_of}
use Rattle.spl_reading.specs.Readers.{Outcome, Got, Bad, Deep, Parser, pure, refuse, by_symbol, same_symbol}
use Rattle.spl_tokens.specs.declared.faults.Fault.{Fault}
use Rattle.spl_tokens.specs.declared.faults.Fault.TheVariants.{Syntax, TooDeep, NoMemory}

-- the reading has this fault, and the tokens from its place on are left; nothing is said where memory is wanting
abbrev pub Fails : {A : Type 0} → Outcome A → Fault → List Lexeme → Type 0
Fails read Syntax rest = read ≡ Bad rest
Fails read TooDeep rest = read ≡ Deep rest
Fails read NoMemory rest = Unit {0}

-- what is read is what the answer shows, and the tokens behind it are left
abbrev pub Reads : {X A : Type 0} → (X → A) → Outcome A → Result X Fault → List Lexeme → Type 0
Reads view read (Ok x) rest = read ≡ Got (view x) rest
Reads view read (Err e) rest = Fails read e rest

-- a value as it is
abbrev pub same_as : {A : Type 0} → A → A
same_as a = a

-- a token as the grammar sees it
unfoldable pub lexeme : Token → Lexeme
lexeme t = lexeme_of t

-- a token that is lent
abbrev pub shown : Bor Token → Lexeme
shown t = lexeme t.now

-- the symbol of the next token, which is left
unfoldable pub peeked : Parser Symbol
peeked = by_symbol pure

-- letters that are lent
abbrev pub lent : Bor (List ℕ) → List ℕ
lent letters = letters.now

-- the letters of a token, where it is a name
abbrev pub name_in : Lexeme → Option (List ℕ)
name_in t = if same_symbol t.symbol s.Name then Some t.letters else None

-- the letters of the next token, which is a name, and left
abbrev pub named_by : Option (List ℕ) → Parser (List ℕ)
named_by None = refuse
named_by (Some letters) = pure letters

unfoldable pub named : Parser (List ℕ)
named [] = Bad []
named (t ∷ ts) = named_by (name_in t) (t ∷ ts)

-- what a turn of a loop answers: whether another follows, and what was read
abbrev pub paired : {X A : Type 0} → (X → A) → Bool × X → Bool × A
paired view r = (r.0, view r.1)
