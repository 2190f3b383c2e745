-- What stops a part, and what a turn of a loop does at it.
use Rattle.std.proofs.Common.{ℕ, suc, ◌≡◌, ◌==◌, ◌&&◌, ◌<◌, ◌≤◌, Bool, true, false, List, ◌∷◌, Option, refl, arith, ◌⊎◌, inl, inr, rules}
use Rattle.std.proofs.lemmas.Bool.Decides.{nat_tests}
use Rattle.spl_reading.specs.spl_tree.declared.names_and_places.At.{At}
use Rattle.spl_reading.specs.spl_tree.declared.symbols.Symbol.{Symbol}
use Rattle.spl_reading.specs.spl_tree.declared.symbols.Symbol.TheVariants as s
use Rattle.spl_reading.specs.spl_tree.Symbols.{Lexeme, Is}
use Rattle.spl_reading.specs.spl_tree.Operators.{binds}
use Rattle.spl_reading.specs.spl_tree.Trees as tree
use Rattle.spl_reading.specs.Readers.{Parser, Got, same_symbol, symbol_number, by_symbol, pure, repeat, turns, followed, and_then}
use Rattle.spl_reading.specs.ReadExpressions.{Found, is, operator_of, turn, turn_by, is_comparison}
use Rattle.spl_grammar.specs.Following.{Stops, Follow, behind}
use Rattle.spl_grammar.proofs.NearReaders.{Near, near_last, near_else, near_pure, near_head}

-- what stops a level stops those below
pub stops_below : (c : Bool) (h j : ℕ) (k : Symbol) → j ≤ h → Stops c h k → Stops c j k
stops_below c h j k l st = record {
  dot = st.dot;
  opening = st.opening;
  operator = o st.operator;
  mark = m st.mark;
  comma = q st.comma;
}
  where
    o : (binds (operator_of k) ≡ 0) ⊎ (h < binds (operator_of k))
        → (binds (operator_of k) ≡ 0) ⊎ (j < binds (operator_of k))
    o (inl e) = inl e
    o (inr e) = inr (omega arith)

    m : (h ≡ 0) ⊎ (is s.Ampersand k ≡ false) → (j ≡ 0) ⊎ (is s.Ampersand k ≡ false)
    m (inl e) = inl (omega arith)
    m (inr e) = inr e

    q : (c ≡ false) ⊎ ((h < 8) ⊎ (is s.Comma k ≡ false)) → (c ≡ false) ⊎ ((j < 8) ⊎ (is s.Comma k ≡ false))
    q (inl e) = inl e
    q (inr (inl e)) = inr (inl (omega arith))
    q (inr (inr e)) = inr (inr e)

pub follow_below : (c : Bool) (h j : ℕ) {ts : List Lexeme} → j ≤ h → Follow c h ts → Follow c j ts
follow_below c h j l (behind {t = t} st) = behind (stops_below c h j t.symbol l st)

-- a token of this symbol stops, if the symbol does
pub follow_is : {c : Bool} {h : ℕ} {k : Symbol} {t : Lexeme} {ts : List Lexeme} → Is k t → Stops c h k
    → Follow c h (t ∷ ts)
follow_is e st = behind (rw e st)

-- "," and ")" stop an expression
pub stops_close : (c : Bool) (h : ℕ) → Stops c h s.Close
unfolding same_symbol symbol_number operator_of binds
stops_close c h = record { dot = refl; opening = refl; operator = inl refl; mark = inr refl; comma = inr (inr refl) }

pub stops_comma : (h : ℕ) → Stops false h s.Comma
unfolding same_symbol symbol_number operator_of binds
stops_comma h = record { dot = refl; opening = refl; operator = inl refl; mark = inr refl; comma = inl refl }

-- an operator stops what binds more
pub stops_operator : (c : Bool) (h op : ℕ) → h < binds op → Stops c h (s.Operator op)
unfolding same_symbol symbol_number operator_of
stops_operator c h op l = record
    { dot = refl; opening = refl; operator = inr l; mark = inr refl; comma = inr (inr refl) }

-- `&` stops an operand
pub stops_mark : (c : Bool) → Stops c 0 s.Ampersand
unfolding same_symbol symbol_number operator_of binds
stops_mark c = record { dot = refl; opening = refl; operator = inl refl; mark = inl refl; comma = inr (inr refl) }

-- a comma stops what is below the comparisons of bytes
pub stops_comma_below : (c : Bool) (h : ℕ) → h < 8 → Stops c h s.Comma
unfolding same_symbol symbol_number operator_of binds
stops_comma_below c h l = record
    { dot = refl; opening = refl; operator = inl refl; mark = inr refl; comma = inr (inl l) }

-- the tests of a turn at what stops its level
pub not_operator : (h b : ℕ) → (b ≡ 0) ⊎ (suc h < b) → (b == suc h) ≡ false
not_operator h b (inl e) = grind (arith, nat_tests)
not_operator h b (inr e) = grind (arith, nat_tests)

pub not_mark : (h : ℕ) (b : Bool) → (suc h ≡ 0) ⊎ (b ≡ false) → ((suc h == 1) && b) ≡ false
not_mark h b (inl e) = absurd (omega arith)
not_mark h b (inr e) = rw e (go (suc h == 1))
  where
    go : (a : Bool) → (a && false) ≡ false
    go true = refl
    go false = refl

pub not_bytes : (c : Bool) (h : ℕ) (b x : Bool) → (c ≡ false) ⊎ ((suc h < 8) ⊎ (b ≡ false))
    → (c && (suc h == 8) && b && x) ≡ false
not_bytes c h b x (inl e) = rw e (go (suc h == 8) b x)
  where
    go : (a b x : Bool) → (false && a && b && x) ≡ false
    go a b x = search rules
not_bytes c h b x (inr (inl e)) = let n : (suc h == 8) ≡ false = grind (arith, nat_tests) in rw n (go c b x)
  where
    go : (c b x : Bool) → (c && false && b && x) ≡ false
    go true b x = search rules
    go false b x = search rules
not_bytes c h b x (inr (inr e)) = rw e (go c (suc h == 8) x)
  where
    go : (c a x : Bool) → (c && a && false && x) ≡ false
    go true true x = search rules
    go true false x = search rules
    go false true x = search rules
    go false false x = search rules

module _ (u : ℕ → Option At → Parser Found) (count : ℕ → Parser tree.Tree) (room : ℕ) (c : Bool) (taken : ℕ)
    (below : ℕ → Option At → Parser Found) (h : ℕ) (at : At) (r : Found) where
  -- a loop ends at what stops its level
  pub repeat_stops : (ts : List Lexeme) → Follow c (suc h) ts
      → Near (repeat (turn u count room c taken below h at) r) ts ts (Got r ts)
  unfolding turn turn_by
  repeat_stops _ (behind st) = near_last _ (near_head _ (near_else _ (not_operator h _ st.operator)
      (near_else _ (not_mark h _ st.mark) (near_else _ (not_bytes c h _ _ st.comma) (near_pure _ _)))))

  pub turn_stops : (ts : List Lexeme) → Follow c (suc h) ts
      → turn u count room c taken below h at r ts ≡ Got (false, r) ts
  unfolding turn turn_by by_symbol pure
  turn_stops _ (behind {t = t} {ts = ts} st) = rw (
    not_operator h (binds (operator_of t.symbol)) st.operator,
    not_mark h (is s.Ampersand t.symbol) st.mark,
    not_bytes c h (is s.Comma t.symbol) (is_comparison r.form) st.comma,
  ) refl

  -- the loop answers what was read so far
  pub repeat_is : (ts : List Lexeme) → Follow c (suc h) ts
      → repeat (turn u count room c taken below h at) r ts ≡ Got r ts
  unfolding repeat turns followed and_then pure
  repeat_is ts w = rw (turn_stops ts w) refl
