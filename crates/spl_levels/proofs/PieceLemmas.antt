-- Productions, by the pieces that are read apart.
use Rattle.std.proofs.Common.{ℕ, suc, ◌≡◌, ◌+◌, ◌/◌, Bool, true, List}
use Rattle.spl_tree.specs.declared.names_and_places.At.{At}
use Rattle.spl_tree.specs.Symbols.{Lexeme}
use Rattle.spl_tree.specs.Operators.{other, bytes_of}
use Rattle.spl_tree.specs.Trees as tree
use Rattle.spl_reading.specs.Readers.{pure, followed}
use Rattle.spl_reading.specs.ReadExpressions as r
use Rattle.spl_tokens.proofs.Chains.{along, along_end}
use Rattle.spl_levels.specs.Nests.{counted_bytes, bytes}
use Rattle.spl_levels.specs.Pieces.{amount, length}

-- a shift, by its number and how far it goes
pub shifted_is : (c : Bool) (room taken : ℕ) (at : At) (f : r.Found) (ts : List Lexeme)
    → r.shifted (r.unary room) (counted_bytes c room) room c taken at f ts
    ≡ followed (amount c room taken f.count) (λ a. pure (
      true,
      record { count = suc f.count; form = other; tree = tree.Tree.shift a.0 f.tree a.1 at },
    )) ts
unfolding r.shifted amount
shifted_is c room taken at f ts = along _ _ _ _ (λ _ us. along _ _ _ _ (λ k vs. along _ _ _ _ (λ _ ws.
    along _ _ _ _ (λ v xs. along _ _ _ _ (λ _ ys. along_end _ _ ys) xs) ws) vs) us) ts

-- a comparison of bytes, by their number
pub bytes_is : (room taken : ℕ) (f : r.Found) (ts : List Lexeme) → bytes room taken f ts
    ≡ followed (length room (taken + f.count / 8)) (λ e. pure (
      true,
      record { count = f.count; form = other; tree = bytes_of f.tree e },
    )) ts
unfolding r.bytes length
bytes_is room taken f ts = along _ _ _ _ (λ _ us. along _ _ _ _ (λ _ vs. along _ _ _ _ (λ e ws. along _ _ _ _ (λ _ xs.
    along_end _ _ xs) ws) vs) us) ts
