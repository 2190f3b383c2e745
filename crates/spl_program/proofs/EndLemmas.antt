-- A text's tokens end, as the grammar sees them, with the end of the text, which stands nowhere else.
use Rattle.std.proofs.Common.{ℕ, zero, suc, ◌≡◌, ◌&&◌, not, Bool, true, false, if◌then◌else◌, List, [], ◌∷◌, map, get_or, refl, ap}
use Prim.Native.String.{String}
use Rattle.spl_tree.specs.declared.symbols.Symbol.{Symbol}
use Rattle.spl_tree.specs.declared.symbols.Symbol.TheVariants as symbol
use Rattle.spl_tree.specs.declared.symbols.Reserved.TheVariants as reserved
use Rattle.spl_tree.specs.declared.tokens.Token.{Token}
use Rattle.spl_tree.specs.declared.tokens.What.{What}
use Rattle.spl_tree.specs.declared.tokens.What.TheVariants as what
use Rattle.spl_tree.specs.declared.tokens.Lexed.{Lexed}
use Rattle.spl_tree.specs.Symbols.{lexeme_of, is_word, symbol_among, reserved_words, mark_symbols, symbol_of, letters_of}
use Rattle.spl_cuts.specs.Signs.{Sign, word, number, wide, chars, mark, stop, Placed}
use Rattle.spl_sound.specs.spl_grammar.Ends as ends
use Rattle.spl_sound.specs.spl_grammar.Ends.{is_stop, Ended}
use Rattle.spl_lexer.specs.spl_pieces.SignViews.{sign_of}
use Rattle.spl_cuts.specs.Whole.{is_end, Ends, last, before}
use Rattle.spl_lexer.specs.TokenViews.{placed_of, listed_of}
use Rattle.spl_parser.specs.Answers.{tokens_of}
use Rattle.spl_cuts.specs.Lexemes.{sign_symbol, sign_letters, lexeme, lexemes}

-- No word and no mark is the end.

-- none of these words is
abbrev no_stops : List (String × Symbol) → Bool
no_stops [] = true
no_stops (w ∷ ws) = not (is_stop w.1) && no_stops ws

-- both halves
first_is : (a b : Bool) → (not a && b) ≡ true → a ≡ false
first_is false b e = refl
first_is true b e = cc

second_is : (a b : Bool) → (not a && b) ≡ true → b ≡ true
second_is false b e = e
second_is true b e = cc

no_stop_among : (ws : List (String × Symbol)) (letters : List ℕ) → no_stops ws ≡ true → is_stop (symbol_among ws letters) ≡ false
no_stop_among [] letters e = refl
no_stop_among (w ∷ ws) letters e = go (is_word letters w.0) (first_is (is_stop w.1) (no_stops ws) e)
    (no_stop_among ws letters (second_is (is_stop w.1) (no_stops ws) e))
  where
    go : (b : Bool) → is_stop w.1 ≡ false → is_stop (symbol_among ws letters) ≡ false
        → is_stop (if b then w.1 else symbol_among ws letters) ≡ false
    go true f g = f
    go false f g = g

-- none of these symbols is
abbrev no_end : List Symbol → Bool
no_end [] = true
no_end (k ∷ ks) = not (is_stop k) && no_end ks

no_stop_at : (ks : List Symbol) (m : ℕ) → no_end ks ≡ true → is_stop (get_or ks m (symbol.Word reserved.Unused)) ≡ false
no_stop_at [] m e = refl
no_stop_at (k ∷ ks) zero e = first_is (is_stop k) (no_end ks) e
no_stop_at (k ∷ ks) (suc m) e = no_stop_at ks m (second_is (is_stop k) (no_end ks) e)

-- what is not the end of the text is not so to the grammar
no_stop : (x : Sign) → is_end x ≡ false → is_stop (sign_symbol x) ≡ false
no_stop (word letters) e = no_stop_among reserved_words letters refl
no_stop (number v) e = refl
no_stop (wide v) e = refl
no_stop (chars bytes) e = refl
no_stop (mark m) e = no_stop_at mark_symbols m refl
no_stop stop e = cc

-- so a list that ends does so to the grammar
ended_list : {unit segments : ℕ} {ts : List Placed} → Ends unit segments ts → Ended (map lexeme ts)
ended_list (last e i) = ends.last (ap sign_symbol e)
ended_list (before {t = t} e i r) = ends.before (no_stop t.what e) (ended_list r)

-- The tokens of the code are those of the text.

symbol_is : (x : What) → symbol_of x ≡ sign_symbol (sign_of x)
symbol_is (what.Word name) = refl
symbol_is (what.Number v) = refl
symbol_is (what.Wide v) = refl
symbol_is (what.Text s) = refl
symbol_is (what.Mark m) = refl
symbol_is what.End = refl

letters_is : (x : What) → letters_of x ≡ sign_letters (sign_of x)
letters_is (what.Word name) = refl
letters_is (what.Number v) = refl
letters_is (what.Wide v) = refl
letters_is (what.Text s) = refl
letters_is (what.Mark m) = refl
letters_is what.End = refl

lexeme_is : (t : Token) → lexeme_of t ≡ lexeme (placed_of t)
lexeme_is t = rw (symbol_is t.what, letters_is t.what) refl

tokens_are : (ts : List Token) → map lexeme_of ts ≡ map lexeme (map placed_of ts)
tokens_are [] = refl
tokens_are (t ∷ ts) = rw (lexeme_is t, tokens_are ts) refl

pub lexemes_are : (x : Lexed) → tokens_of x ≡ lexemes (listed_of x)
lexemes_are x = tokens_are x.tokens.items

pub ended : {unit segments : ℕ} (x : Lexed) → Ends unit segments (listed_of x).tokens → Ended (tokens_of x)
ended x e = rw (lexemes_are x) (ended_list e)
