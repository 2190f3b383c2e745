-- A MOVE, one step at a time.
use Rattle.std.proofs.Common.{ℕ, ◌≡◌, List, refl}
use Rattle.spl_tree.specs.Symbols.{Lexeme}
use Rattle.spl_tree.specs.declared.symbols.Symbol.TheVariants as s
use Rattle.spl_tree.specs.declared.symbols.Reserved.TheVariants as w
use Rattle.spl_tree.specs.StatementTrees as stat
use Rattle.spl_reading.specs.Readers.{◌>>=◌, expect, pure}
use Rattle.spl_reading.specs.ReadStatements as r

-- a MOVE, by its parts
pub move_is : (room : ℕ) (ts : List Lexeme) → r.move room ts
    ≡ (expect (s.Word w.Move) >>= λ _. r.reference room >>= λ to. expect s.Assign >>= λ _. r.source room
    >>= λ from. pure (stat.Effect.move to from)) ts
unfolding r.move
move_is room ts = refl
