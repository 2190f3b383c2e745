-- A bit field, by the piece that is read apart.
use Rattle.std.proofs.Common.{◌≡◌, List}
use Rattle.spl_tree.specs.declared.names_and_places.At.{At}
use Rattle.spl_tree.specs.Symbols.{Lexeme}
use Rattle.spl_tree.specs.Operators.{other}
use Rattle.spl_tree.specs.Trees as tree
use Rattle.spl_reading.specs.Readers.{pure, followed}
use Rattle.spl_reading.specs.ReadExpressions as r
use Rattle.spl_tokens.proofs.Chains.{along, along_end}
use Rattle.spl_atoms.specs.Pieces.{extent}

-- a bit field, by its start and its length
pub bits_is : (at : At) (f : r.Found) (ts : List Lexeme) → r.bits at f ts
    ≡ followed extent (λ e. pure (r.plain other (tree.Tree.field f.tree e.0 e.1 at))) ts
unfolding r.bits extent
bits_is at f ts = along _ _ _ _ (λ _ us. along _ _ _ _ (λ _ vs. along _ _ _ _ (λ a ws. along _ _ _ _ (λ _ xs.
    along _ _ _ _ (λ b ys. along _ _ _ _ (λ _ zs. along_end _ _ zs) ys) xs) ws) vs) us) ts
