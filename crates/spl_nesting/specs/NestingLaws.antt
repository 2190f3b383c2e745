-- In a unit that tokens spell, at most 64 constructs stand around a statement, and so at most 64 FORs.
use Rattle.std.specs.Prelude.{ℕ, slice_get, Some, ◌≡◌, ◌≤◌, List, []}
use Rattle.spl_sound.specs.spl_tree.Symbols.{Lexeme}
use Rattle.spl_sound.specs.spl_tree.DeclarationTrees.{UnitTree}
use Rattle.spl_sound.specs.spl_tree.OpenExpressions.{limit}
use Rattle.spl_sound.specs.spl_reading.Readers.{Got}
use Rattle.spl_sound.specs.spl_grammar.Verdicts.{Verdict}
use Rattle.spl_sound.specs.spl_meaning.Tables.{Source}
use Rattle.spl_sound.specs.Spelled.{AreSpelled}
use Rattle.spl_nesting.specs.Nesting.{nested_among, fors_among, most_in_unit}

-- constructs
abbrev pub StatementsNest : Type 0
StatementsNest = (ts : List Lexeme) (u : UnitTree) → Verdict ts (Got u []) → most_in_unit nested_among u ≤ limit

-- FORs
abbrev pub FewForsNest : Type 0
FewForsNest = (ts : List Lexeme) (u : UnitTree) → Verdict ts (Got u []) → most_in_unit fors_among u ≤ limit

-- both in each unit of a program, as it is handed to the checker of rules
abbrev pub SpelledUnitsNest : Type 0
SpelledUnitsNest = (us : List Source) (i : ℕ) (u : Source) → AreSpelled us → slice_get us i ≡ Some u
    → (most_in_unit nested_among u.tree ≤ limit) × (most_in_unit fors_among u.tree ≤ limit)
