-- Pieces of lists of declarations that are read before what they belong to is needed.
use Rattle.std.specs.Prelude.{ℕ, Bool, true, false, if◌then◌else◌, List, [], ◌∷◌, ◌++◌, Option, Some, None}
use Rattle.spl_tree.specs.declared.declarations.Decl.{Decl}
use Rattle.spl_tree.specs.declared.symbols.Symbol.TheVariants as s
use Rattle.spl_tree.specs.DeclarationTrees as decl
use Rattle.spl_tree.specs.Declarations.{is_subroutine}
use Rattle.spl_tree.specs.Spells as spells
use Rattle.spl_reading.specs.Readers.{Parser, ◌>>=◌, by_symbol, expect, pure}
use Rattle.spl_declarations.specs.Nests.{declaration, declares}

-- a declaration and ";"
unfoldable pub ended : ℕ → Bool → Bool → ℕ → Parser decl.Declaration
ended room unit after segment = declaration room unit after segment >>= λ d. expect s.Semicolon >>= λ _. pure d

-- [decl ";"]
unfoldable pub next : ℕ → Bool → Bool → ℕ → Parser (List decl.Declaration)
next room unit after segment = by_symbol (λ k. if declares room unit k
    then (ended room unit after segment >>= λ d. pure (d ∷ [])) else pure [])

-- a declaration, where there is one
abbrev pub optional : Option Decl → List decl.Declaration
optional None = []
optional (Some d) = spells.declaration d ∷ []

-- declarations, and whether one more was read behind them
abbrev pub longer : Bool × List decl.Declaration → List decl.Declaration → Bool × (Bool × List decl.Declaration)
longer r [] = (false, r)
longer r (d ∷ ds) = (true, (is_subroutine d, r.1 ++ d ∷ []))
