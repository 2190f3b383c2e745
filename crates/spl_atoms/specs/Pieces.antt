-- Pieces of productions that are read before what they belong to is needed.
use Rattle.spl_tree.specs.declared.symbols.Symbol.TheVariants as s
use Rattle.spl_tree.specs.declared.expressions.Const.{Const}
use Rattle.spl_tree.specs.Trees as tree
use Rattle.spl_tree.specs.Views as view
use Rattle.spl_reading.specs.Readers.{Parser, ◌>>=◌, pure, expect}
use Rattle.spl_reading.specs.ReadExpressions as r

-- ".(" const ":" const ")"
unfoldable pub extent : Parser (tree.Constant × tree.Constant)
extent = do
  _ ← expect s.Dot
  _ ← expect s.Open
  a ← r.constant
  _ ← expect s.Colon
  b ← r.constant
  _ ← expect s.Close
  pure (a, b)

-- a start and a length
abbrev pub extents : Const × Const → tree.Constant × tree.Constant
extents e = (view.constant e.0, view.constant e.1)
