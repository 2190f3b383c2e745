-- Units, and what it means that a list of tokens spells one.
use Rattle.std.specs.Prelude.{ℕ, true, false, List, [], ◌∷◌}
use Rattle.spl_tree.specs.declared.symbols.Symbol.TheVariants as s
use Rattle.spl_tree.specs.declared.symbols.Reserved.TheVariants as w
use Rattle.spl_tree.specs.Symbols.{Lexeme, Is}
use Rattle.spl_tree.specs.StatementTrees as stat
use Rattle.spl_tree.specs.Statements as st
use Rattle.spl_tree.specs.DeclarationTrees as decl
use Rattle.spl_tree.specs.DeclarationTrees.{UnitTree}
use Rattle.spl_tree.specs.Declarations.{Declarations}

-- the segment in force at the first token
abbrev pub segment_at : List Lexeme → ℕ
segment_at [] = 0
segment_at (t ∷ ts) = t.segment

-- unit = BEGIN { decl ";" } statements END ".", and then the end of the text. The main body, and the subroutines of the
-- unit, are of
-- the segment in force at the first token behind the declarations.
pub data Unit_of : UnitTree → List Lexeme → Type 0 where
  unit : {ds : List decl.Declaration} {xs : List stat.Statement} {b z d e : Lexeme} {ts mid : List Lexeme}
      → Is (s.Word w.Begin) b
      → Declarations true false (segment_at mid) ds ts mid → st.Statements xs mid (z ∷ d ∷ e ∷ [])
      → Is (s.Word w.End) z → Is s.Dot d → Is s.Stop e
      → Unit_of (record { items = ds; statements = xs; segment = segment_at mid; at = b.at }) (b ∷ ts)
