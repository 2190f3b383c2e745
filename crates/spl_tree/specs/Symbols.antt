-- Tokens as the grammar sees them: a symbol, the letters of a name or a string, a place and a segment.
use Rattle.std.specs.Prelude.{ℕ, List, [], ◌∷◌, ◌≡◌, Bool, true, false, if◌then◌else◌, codes, nat_eq, get_or}
use Rattle.spl_tree.specs.declared.names_and_places.At.{At}
use Rattle.spl_tree.specs.declared.symbols.Symbol.{Symbol}
use Rattle.spl_tree.specs.declared.symbols.Symbol.TheVariants as s
use Rattle.spl_tree.specs.declared.symbols.Reserved.TheVariants as w
use Rattle.spl_tree.specs.declared.expressions.Kind.TheVariants as kind
use Rattle.spl_tree.specs.declared.tokens.Token.{Token}
use Rattle.spl_tree.specs.declared.tokens.What.{What}
use Rattle.spl_tree.specs.declared.tokens.What.TheVariants as what
use lib.Pointwise.{pointwise}
use Prim.Native.String.{String}

-- a token of the grammar; the letters are those of a name, or the characters of a string, and else none
pub record Lexeme : Type 0 where
  pub symbol : Symbol
  pub letters : List ℕ
  pub at : At
  pub segment : ℕ

-- the token is this symbol
abbrev pub Is : Symbol → Lexeme → Type 0
Is k t = t.symbol ≡ k

-- these letters are those of the word
abbrev pub is_word : List ℕ → String → Bool
is_word letters word = pointwise nat_eq letters (codes word)

-- the symbols of the reserved words; operators by their numbers, from those that bind least
abbrev pub reserved_words : List (String × Symbol)
reserved_words =
    ("AND", s.Operator 1) ∷ ("ARRAY", s.Word w.Array) ∷ ("ASSEMBLE", s.Word w.Unused) ∷ ("BEGIN", s.Word w.Begin)
    ∷ ("BYTE", s.Type kind.Byte) ∷ ("CASE", s.Word w.Case) ∷ ("COMMENT", s.Word w.Unused)
    ∷ ("DEFINE", s.Word w.Unused) ∷ ("DO", s.Word w.Do) ∷ ("DOUBLE", s.Type kind.Double) ∷ ("ELSE", s.Word w.Else)
    ∷ ("END", s.Word w.End) ∷ ("ENTRY", s.Word w.Unused) ∷ ("EQUATE", s.Word w.Equate) ∷ ("FALSE", s.Truth false)
    ∷ ("FOR", s.Word w.For) ∷ ("GLOBAL", s.Word w.Unused) ∷ ("GO", s.Word w.Go) ∷ ("GOTO", s.Word w.Goto)
    ∷ ("IF", s.Word w.If) ∷ ("INTEGER", s.Type kind.Integer) ∷ ("INTRINSIC", s.Word w.Intrinsic)
    ∷ ("LABEL", s.Word w.Label) ∷ ("LAND", s.Operator 4) ∷ ("LOGICAL", s.Type kind.Logical)
    ∷ ("LONG", s.Word w.Unused) ∷ ("LOR", s.Operator 2) ∷ ("MOD", s.Operator 15) ∷ ("MOVE", s.Word w.Move)
    ∷ ("NOT", s.Not) ∷ ("OF", s.Word w.Of) ∷ ("OPTION", s.Word w.Options) ∷ ("OR", s.Operator 0)
    ∷ ("OWN", s.Word w.Own) ∷ ("POINTER", s.Word w.Pointer) ∷ ("PROCEDURE", s.Word w.Procedure)
    ∷ ("REAL", s.Word w.Unused) ∷ ("RETURN", s.Word w.Return) ∷ ("SCAN", s.Word w.Scan) ∷ ("STEP", s.Word w.Step)
    ∷ ("SUBROUTINE", s.Word w.Subroutine) ∷ ("SWITCH", s.Word w.Unused) ∷ ("THEN", s.Word w.Then)
    ∷ ("TO", s.Word w.To) ∷ ("TOS", s.Word w.Unused) ∷ ("TRUE", s.Truth true) ∷ ("UNTIL", s.Word w.Until)
    ∷ ("VALUE", s.Word w.Value) ∷ ("WHILE", s.Word w.While) ∷ ("XOR", s.Operator 3) ∷ []

-- the symbol of a word, in a list of reserved words: a name, where it is none of them
abbrev pub symbol_among : List (String × Symbol) → List ℕ → Symbol
symbol_among [] letters = s.Name
symbol_among (w ∷ ws) letters = if is_word letters w.0 then w.1 else symbol_among ws letters

-- the symbols of the marks ( ) , ; : . = < > + - * / & @ # := <= >= <>
abbrev pub mark_symbols : List Symbol
mark_symbols =
    s.Open ∷ s.Close ∷ s.Comma ∷ s.Semicolon ∷ s.Colon ∷ s.Dot ∷ s.Operator 5 ∷ s.Operator 7 ∷ s.Operator 8
    ∷ s.Operator 11 ∷ s.Operator 12 ∷ s.Operator 13 ∷ s.Operator 14 ∷ s.Ampersand ∷ s.AtSign ∷ s.Word w.Unused
    ∷ s.Assign ∷ s.Operator 9 ∷ s.Operator 10 ∷ s.Operator 6 ∷ []

-- the symbol of what stands at a token
abbrev pub symbol_of : What → Symbol
symbol_of (what.Word name) = symbol_among reserved_words name.text.items
symbol_of (what.Number v) = s.Number v
symbol_of (what.Wide v) = s.Wide v
symbol_of (what.Text chars) = s.Text
symbol_of (what.Mark m) = get_or mark_symbols m (s.Word w.Unused)
symbol_of what.End = s.Stop

-- the letters of a word, the characters of a string
abbrev pub letters_of : What → List ℕ
letters_of (what.Word name) = name.text.items
letters_of (what.Number v) = []
letters_of (what.Wide v) = []
letters_of (what.Text chars) = chars.bytes.items
letters_of (what.Mark m) = []
letters_of what.End = []

-- a token as the grammar sees it
abbrev pub lexeme_of : Token → Lexeme
lexeme_of t = record { symbol = symbol_of t.what; letters = letters_of t.what; at = t.at; segment = t.segment }
