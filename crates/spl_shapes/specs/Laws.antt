-- The laws of this crate.
use Rattle.std.specs.Prelude.{◌≡◌, ℕ, true, List, [], ◌∷◌}
use Rattle.spl_cuts.specs.spl_tree.Symbols.{Lexeme}
use Rattle.spl_cuts.specs.spl_tree.DeclarationTrees.{UnitTree}
use Rattle.spl_cuts.specs.spl_tree.Units.{Unit_of}
use Rattle.spl_cuts.specs.Signs.{Listed}
use Rattle.spl_cuts.specs.Lexemes.{lexemes}
use Rattle.spl_cuts.specs.Cutting.{CutsWithin}
use Rattle.spl_shapes.specs.Shapes.{are_bytes, is_shaped_unit}

-- the letters of tokens are bytes
abbrev pub HaveBytes : List Lexeme → Type 0
HaveBytes [] = Unit {0}
HaveBytes (t ∷ ts) = (are_bytes t.letters ≡ true) × HaveBytes ts

-- Tokens whose letters are bytes spell no other units than such.
abbrev pub SpelledUnitsAreShaped : Type 0
SpelledUnitsAreShaped = (u : UnitTree) (ts : List Lexeme) → Unit_of u ts → HaveBytes ts → is_shaped_unit u ≡ true

-- The tokens that a text is cut into have such letters: a byte that is allowed nowhere is in none.
abbrev pub CutTokensHaveBytes : Type 0
CutTokensHaveBytes = (n limit : ℕ) (text : List ℕ) (x : Listed) → CutsWithin n limit text x → HaveBytes (lexemes x)
