-- The cursor's list and symbol, read.
use Rattle.std.proofs.Common.{Result, Ok, Err, IfOk, ℕ, ◌≡◌, List, [], ◌∷◌, map, Some, None, refl, ap, ◌∙◌, length, arith, ◌+◌, ◌<◌, true, false, nat_eq, get_or, drop, if◌then◌else◌}
use Rattle.std.proofs.lemmas.List.{at_drop_more}
use lib.Pointwise.{pointwise}
use denote.Ref.{Bor}
use Rattle.spl_tree.specs.declared.symbols.Symbol.{Symbol}
use Rattle.spl_tree.specs.declared.symbols.Symbol.TheVariants as s
use Rattle.spl_tree.specs.declared.tokens.Token.{Token}
use Rattle.spl_tree.specs.Symbols.{Lexeme, lexeme_of, symbol_of, letters_of}
use Rattle.spl_reading.specs.Readers.{Got, Bad, by_symbol, pure, refuse, take, at_place, same_symbol}
use Rattle.spl_reading.specs.ReadDeclarations.{next_segment}
use Rattle.spl_reading.proofs.SameSymbol.{same_is}
use Rattle.spl_tokens.specs.declared.faults.Fault.{Fault}
use Rattle.spl_tokens.specs.Cursor.{first_symbol, symbol_in}
use Rattle.spl_tokens.specs.Reads.{peeked, lexeme, named, named_by}

-- where the symbol is absent, no token is left
pub peek_none : (ts : List Token) → None ≡ first_symbol ts → peeked (map lexeme_of ts) ≡ Bad (map lexeme_of ts)
unfolding peeked by_symbol pure
peek_none [] e = refl
peek_none (t ∷ ts) e = cc

-- and else it is that of the next token
pub peek_some : (ts : List Token) (k : Symbol) → Some k ≡ first_symbol ts → peeked (map lexeme_of ts) ≡ Got k (map lexeme_of ts)
unfolding peeked by_symbol pure
peek_some [] k e = cc
peek_some (t ∷ ts) k e = let f : symbol_of t.what ≡ k = cc in ap (λ s. Got s (map lexeme_of (t ∷ ts))) f

-- where no token is left there is no place
pub place_none : (ts : List Token) → length ts ≡ 0 → at_place (map lexeme_of ts) ≡ Bad (map lexeme_of ts)
unfolding at_place
place_none [] e = refl
place_none (t ∷ ts) e = absurd (omega arith)

-- and else it is that of the next
pub place_some : (ts : List Token) (t : Token) (rest : List Token) → ts ≡ t ∷ rest → at_place (map lexeme_of ts) ≡ Got t.at (map lexeme_of ts)
unfolding at_place
place_some ts t rest e = rw e refl

-- where no token is left none is taken
pub take_none : (ts : List Token) → length ts ≡ 0 → take (map lexeme_of ts) ≡ Bad (map lexeme_of ts)
unfolding take
take_none [] e = refl
take_none (t ∷ ts) e = absurd (omega arith)

-- and else the next
pub take_some : (ts : List Token) (t : Token) (rest : List Token) → ts ≡ t ∷ rest → take (map lexeme_of ts) ≡ Got (lexeme t) (map lexeme_of rest)
unfolding take lexeme
take_some ts t rest e = rw e refl

-- whose symbol is the one that was next
pub peek_taken : (ts : List Token) (t : Token) (rest : List Token) → ts ≡ t ∷ rest → peeked (map lexeme_of ts) ≡ Got (lexeme t).symbol (map lexeme_of ts)
unfolding peeked by_symbol pure lexeme
peek_taken ts t rest e = rw e refl

-- where no token is left there is no name
pub named_none : (ts : List Token) → length ts ≡ 0 → named (map lexeme_of ts) ≡ Bad (map lexeme_of ts)
unfolding named
named_none [] e = refl
named_none (t ∷ ts) e = absurd (omega arith)

-- nor where the next token is none
pub named_other : (ts : List Token) (t : Token) (rest : List Token) → ts ≡ t ∷ rest → same_symbol (symbol_of t.what) s.Name ≡ false
    → named (map lexeme_of ts) ≡ Bad (map lexeme_of ts)
unfolding named refuse
named_other ts t rest e n = rw e (ap (λ b. named_by (if b then Some (letters_of t.what) else None) (map lexeme_of (t ∷ rest))) n)

-- and else it is the next token's
pub named_some : (ts : List Token) (t : Token) (rest : List Token) (letters : List ℕ) → ts ≡ t ∷ rest → same_symbol (symbol_of t.what) s.Name ≡ true
    → letters ≡ (lexeme t).letters → named (map lexeme_of ts) ≡ Got letters (map lexeme_of ts)
unfolding named pure lexeme
named_some ts t rest letters e n l = rw (e, l) (ap (λ b. named_by (if b then Some (letters_of t.what) else None) (map lexeme_of (t ∷ rest))) n)

-- a symbol that is a name's
pub name_symbol : (t : Token) → same_symbol (symbol_of t.what) s.Name ≡ true → (lexeme t).symbol ≡ s.Name
unfolding lexeme
name_symbol t h = same_is (symbol_of t.what) s.Name h

-- the words from the next on
pub word_found : (words : List (Bor (List ℕ) × Symbol)) (letters : List ℕ) (i : ℕ) (w : Bor (List ℕ) × Symbol) → i < length words
    → pointwise nat_eq letters (get_or words i w).0.now ≡ true → symbol_in (drop i words) letters ≡ (get_or words i w).1
word_found words letters i w below e = at_drop_more (λ ws. symbol_in ws letters) words i w below ∙ rw e refl

pub word_passed : (words : List (Bor (List ℕ) × Symbol)) (letters : List ℕ) (i : ℕ) (w : Bor (List ℕ) × Symbol) → i < length words
    → pointwise nat_eq letters (get_or words i w).0.now ≡ false → symbol_in (drop i words) letters ≡ symbol_in (drop (i + 1) words) letters
word_passed words letters i w below e = at_drop_more (λ ws. symbol_in ws letters) words i w below ∙ rw e refl

-- a token that was taken where this symbol was next
pub taken_symbol : (ts : List Lexeme) (wanted k : Symbol) (r : Result (Bor Token) Fault) → peeked ts ≡ Got k ts → same_symbol k wanted ≡ true
    → IfOk r (λ t. peeked ts ≡ Got (lexeme t.now).symbol ts) → IfOk r (λ t. (lexeme t.now).symbol ≡ wanted)
taken_symbol ts wanted k (Ok t) e same h = let s = same_is k wanted same in cc
taken_symbol ts wanted k (Err e) p same h = h

-- where no token is left there is no segment
pub segment_none : (ts : List Token) → length ts ≡ 0 → next_segment (map lexeme_of ts) ≡ Bad (map lexeme_of ts)
unfolding next_segment
segment_none [] e = refl
segment_none (t ∷ ts) e = absurd (omega arith)

-- and else it is that of the next
pub segment_some : (ts : List Token) (t : Token) (rest : List Token) → ts ≡ t ∷ rest → next_segment (map lexeme_of ts) ≡ Got t.segment (map lexeme_of ts)
unfolding next_segment
segment_some ts t rest e = rw e refl
