-- How many words the code of an expression takes at most: its weight, with some to spare, which is more of a value than of a test.
use Rattle.std.specs.Prelude.{ℕ, ◌+◌, ◌≤◌, List}
use Rattle.spl_meaning.specs.spl_tree.Trees.{Tree}
use Rattle.spl_meaning.specs.Bound.{weight}
use Rattle.spl_branch.specs.Pieces.{count_of}
use Rattle.spl_code.specs.Parts.{Wanted}
use Rattle.spl_code.specs.Calls.{Scope}
use Rattle.spl_code.specs.Code.{Aim, as_value, as_test, code, reference}

-- the words that are to spare
abbrev pub spare : Aim → ℕ
spare as_value = 12
spare (as_test fail) = 8

-- of expressions and conditions, and of the addresses of references
abbrev pub CodeHasFewWords : Type 0
CodeHasFewWords = (c : Scope) (e : Tree) (aim : Aim) (k l : ℕ) (ws : List Wanted) → count_of (code c e aim k l ws).pieces + spare aim ≤ weight e

abbrev pub ReferenceHasFewWords : Type 0
ReferenceHasFewWords = (c : Scope) (e : Tree) (k l : ℕ) (ws : List Wanted) → count_of (reference c e k l ws).pieces + 12 ≤ weight e
