-- The tokens that a text is cut into, as the grammar sees them.
use Rattle.std.specs.Prelude.{ℕ, List, [], map, get_or}
use Rattle.spl_tree.specs.declared.symbols.Symbol.{Symbol}
use Rattle.spl_tree.specs.declared.symbols.Symbol.TheVariants as symbol
use Rattle.spl_tree.specs.declared.symbols.Reserved.TheVariants as reserved
use Rattle.spl_tree.specs.Symbols.{Lexeme, symbol_among, reserved_words, mark_symbols}
use Rattle.spl_cuts.specs.Signs.{Sign, word, number, wide, chars, mark, stop, Placed, Listed}

-- the symbol of what stands at a token
abbrev pub sign_symbol : Sign → Symbol
sign_symbol (word letters) = symbol_among reserved_words letters
sign_symbol (number v) = symbol.Number v
sign_symbol (wide v) = symbol.Wide v
sign_symbol (chars bytes) = symbol.Text
sign_symbol (mark m) = get_or mark_symbols m (symbol.Word reserved.Unused)
sign_symbol stop = symbol.Stop

-- the letters of a word, the characters of a string
abbrev pub sign_letters : Sign → List ℕ
sign_letters (word letters) = letters
sign_letters (chars bytes) = bytes
sign_letters _ = []

-- a token with its place and its segment
abbrev pub lexeme : Placed → Lexeme
lexeme t = record { symbol = sign_symbol t.what; letters = sign_letters t.what; at = t.at; segment = t.segment }

-- the tokens of a unit
abbrev pub lexemes : Listed → List Lexeme
lexemes x = map lexeme x.tokens
