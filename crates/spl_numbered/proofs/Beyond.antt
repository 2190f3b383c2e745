-- How many tokens, and how many headings, stand in a segment whose number is not below this one.
use Rattle.std.specs.Prelude.{ℕ, ◌+◌, nat_lt, if◌then◌else◌, List, [], ◌∷◌}
use Rattle.spl_bounds.specs.spl_tree.Symbols.{Lexeme}
use Rattle.spl_bounds.specs.spl_tree.DeclarationTrees as decl
use Rattle.spl_bounds.specs.spl_tree.DeclarationTrees.{Declaration, Declarations}

-- a segment, as one
abbrev pub out : ℕ → ℕ → ℕ
out top g = if nat_lt g top then 0 else 1

-- tokens
abbrev pub beyond : ℕ → List Lexeme → ℕ
beyond top [] = 0
beyond top (t ∷ ts) = out top t.segment + beyond top ts

-- procedures with bodies
abbrev pub declared_out : ℕ → Declaration → ℕ
declared_out top (decl.Declaration.procedure h items ss) = out top h.segment
declared_out top d = 0

abbrev pub all_out : ℕ → Declarations → ℕ
all_out top decl.none = 0
all_out top (decl.and d ds) = declared_out top d + all_out top ds
