-- The end of the text: a list of tokens that ends, and how far a unit goes in it.
use Rattle.std.specs.Prelude.{ℕ, ◌≡◌, Bool, true, false, List, [], ◌∷◌}
use Rattle.spl_reading.specs.spl_tree.declared.symbols.Symbol.{Symbol}
use Rattle.spl_reading.specs.spl_tree.declared.symbols.Symbol.TheVariants as s
use Rattle.spl_reading.specs.spl_tree.Symbols.{Lexeme, Is}
use Rattle.spl_reading.specs.spl_tree.DeclarationTrees.{UnitTree}
use Rattle.spl_reading.specs.spl_tree.Parts as part
use Rattle.spl_reading.specs.spl_tree.OpenExpressions.{Part, Opens}
use Rattle.spl_reading.specs.Readers.{Got}
use Rattle.spl_reading.specs.ReadDeclarations.{unit}

-- the symbol of the end of the text
abbrev pub is_stop : Symbol → Bool
is_stop s.Stop = true
is_stop _ = false

-- The list ends with the end of the text, which stands nowhere else in it.
pub data Ended : List Lexeme → Type 0 where
  last : {t : Lexeme} → Is s.Stop t → Ended (t ∷ [])
  before : {t : Lexeme} {ts : List Lexeme} → is_stop t.symbol ≡ false → Ended ts → Ended (t ∷ ts)

-- In a list that ends, no chain of a unit goes over the end.
abbrev pub UnitChainsKeepTheEnd : Type 0
UnitChainsKeepTheEnd = (q : Part) (d n j k : ℕ) (ts mid : List Lexeme) → Opens part.unit d n ts q j k mid → Ended ts
    → Ended mid

-- What is read as a unit in a list that ends is the whole list.
abbrev pub UnitsAreWhole : Type 0
UnitsAreWhole = (room : ℕ) (u : UnitTree) (ts us : List Lexeme) → Ended ts → unit room ts ≡ Got u us → us ≡ []
