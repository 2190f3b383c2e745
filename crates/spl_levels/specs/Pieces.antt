-- Pieces of productions that are read before what they belong to is needed.
use Rattle.std.specs.Prelude.{ℕ, Bool}
use Rattle.spl_tree.specs.declared.symbols.Symbol.TheVariants as s
use Rattle.spl_tree.specs.declared.expressions.Const.{Const}
use Rattle.spl_tree.specs.Operators.{shift_of}
use Rattle.spl_tree.specs.Trees as tree
use Rattle.spl_tree.specs.Views as view
use Rattle.spl_reading.specs.Readers.{Parser, ◌>>=◌, pure, take, expect, named_number}
use Rattle.spl_reading.specs.ReadExpressions as r
use Rattle.spl_levels.specs.Nests.{counted_bytes}

-- "&" (ASL|ASR|LSL|LSR|CSL|CSR) "(" const ")", behind n operators
unfoldable pub amount : Bool → ℕ → ℕ → ℕ → Parser (ℕ × tree.Constant)
amount c room taken n = do
  _ ← r.counted (r.unary room) (counted_bytes c room) room c taken n
  k ← named_number shift_of
  _ ← expect s.Open
  v ← r.constant
  _ ← expect s.Close
  pure (k, v)

-- "," "(" expr ")", where so many constructs are taken of the room
unfoldable pub length : ℕ → ℕ → Parser tree.Tree
length room taken = do
  _ ← take
  _ ← r.opening room taken
  e ← r.within room taken
  _ ← expect s.Close
  pure e

-- the number of a shift, and how far it goes
abbrev pub shift : ℕ × Const → ℕ × tree.Constant
shift a = (a.0, view.constant a.1)
