-- What may stand behind a part so that the part ends there.
use Rattle.std.specs.Prelude.{ℕ, ◌≡◌, ◌<◌, ◌⊎◌, Bool, true, false, List, ◌∷◌}
use Rattle.spl_reading.specs.spl_tree.declared.symbols.Symbol.{Symbol}
use Rattle.spl_reading.specs.spl_tree.declared.symbols.Symbol.TheVariants as s
use Rattle.spl_reading.specs.spl_tree.declared.symbols.Reserved.TheVariants as w
use Rattle.spl_reading.specs.spl_tree.Symbols.{Lexeme, Is}
use Rattle.spl_reading.specs.spl_tree.StatementTrees as stat
use Rattle.spl_reading.specs.spl_tree.StatementTrees.{closed}
use Rattle.spl_reading.specs.spl_tree.Operators.{binds}
use Rattle.spl_reading.specs.ReadExpressions.{is, operator_of}

-- The symbol can't go on with a part of level h: it is no dot and no "(", no operator of that level or one below, no
-- `&`
-- but behind an operand; and no comma behind a condition that can be a comparison of bytes.
pub record Stops (c : Bool) (h : ℕ) (k : Symbol) : Type 0 where
  pub dot : is s.Dot k ≡ false
  pub opening : is s.Open k ≡ false
  pub operator : (binds (operator_of k) ≡ 0) ⊎ (h < binds (operator_of k))
  pub mark : (h ≡ 0) ⊎ (is s.Ampersand k ≡ false)
  pub comma : (c ≡ false) ⊎ ((h < 8) ⊎ (is s.Comma k ≡ false))

-- there is a token, and it can't go on with the part
pub data Follow (c : Bool) (h : ℕ) : List Lexeme → Type 0 where
  behind : {t : Lexeme} {ts : List Lexeme} → Stops c h t.symbol → Follow c h (t ∷ ts)

-- What may stand behind a statement so that it ends there: ";", END, UNTIL, and ELSE where it can't belong to the
-- statement.
pub data After (x : stat.Statement) : List Lexeme → Type 0 where
  semicolon : {t : Lexeme} {ts : List Lexeme} → Is s.Semicolon t → After x (t ∷ ts)
  end : {t : Lexeme} {ts : List Lexeme} → Is (s.Word w.End) t → After x (t ∷ ts)
  until : {t : Lexeme} {ts : List Lexeme} → Is (s.Word w.Until) t → After x (t ∷ ts)
  other : {t : Lexeme} {ts : List Lexeme} → closed x ≡ true → Is (s.Word w.Else) t → After x (t ∷ ts)
