-- What the cursor keeps beside the tokens that are left, and the table of reserved words.
use Rattle.std.specs.Prelude.{ℕ, List, [], ◌∷◌, Option, Some, None, nat_eq, if◌then◌else◌}
use lib.Pointwise.{pointwise}
use denote.Ref.{Bor}
use Rattle.spl_tree.specs.declared.symbols.Symbol.{Symbol}
use Rattle.spl_tree.specs.declared.symbols.Symbol.TheVariants as s
use Rattle.spl_tree.specs.declared.tokens.Token.{Token}
use Rattle.spl_tree.specs.Symbols.{symbol_of}

-- the symbol of the first token, where there is one
abbrev pub first_symbol : List Token → Option Symbol
first_symbol [] = None
first_symbol (t ∷ ts) = Some (symbol_of t.what)

-- the symbol of a word, in a table of words that are lent: a name, where it is none of them
abbrev pub symbol_in : List (Bor (List ℕ) × Symbol) → List ℕ → Symbol
symbol_in [] letters = s.Name
symbol_in (w ∷ ws) letters = if pointwise nat_eq letters w.0.now then w.1 else symbol_in ws letters
