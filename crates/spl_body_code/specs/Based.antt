-- Cells of arrays in a frame, wherever the frame stands.
use Rattle.std.specs.Prelude.{◌≡◌, ℕ, ◌+◌, ◌*◌, ◌%◌, ℤ}
use Rattle.spl_code.specs.spl_tree.declared.expressions.Kind.{Kind}
use Rattle.spl_code.specs.spl_tree.declared.expressions.Kind.TheVariants as kind
use Rattle.spl_code.specs.spl_meaning.Places.{cell_word}

-- the address of the base, for BYTEs that of its word's left byte
abbrev pub base_word : Kind → ℕ → ℕ
base_word kind.Byte base = 2 * base
base_word _ base = base

-- The cell of an array whose data begin so far above the base is that address and the cell of data that begin so far above word 0, modulo
-- 65,536.
abbrev pub CellsMoveWithTheBase : Type 0
CellsMoveWithTheBase = (k : Kind) (low : ℤ) (base above : ℕ) → (base_word k base + cell_word k low above) % 65536 ≡ cell_word k low (base + above)
