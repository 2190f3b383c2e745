-- There are no more calls and entries in a unit than tokens that spell it.
use Rattle.std.specs.Prelude.{ℕ, ◌≡◌, ◌≤◌, ◌+◌, List, [], slice_get, Some, length}
use Rattle.spl_sound.specs.spl_tree.Symbols.{Lexeme}
use Rattle.spl_sound.specs.spl_tree.DeclarationTrees.{UnitTree}
use Rattle.spl_sound.specs.spl_reading.Readers.{Got}
use Rattle.spl_sound.specs.spl_grammar.Verdicts.{Verdict}
use Rattle.spl_sound.specs.spl_meaning.Tables.{Source}
use Rattle.spl_sound.specs.Spelled.{AreSpelled, most_tokens}
use Rattle.spl_few_calls.specs.Calls.{unit_calls}

abbrev pub FewCalls : Type 0
FewCalls = (ts : List Lexeme) (u : UnitTree) → Verdict ts (Got u []) → unit_calls u ≤ length ts

-- the end of the text is a token beyond those that are counted
abbrev pub FewCallsInUnits : Type 0
FewCallsInUnits = (us : List Source) (i : ℕ) (u : Source) → AreSpelled us → slice_get us i ≡ Some u → unit_calls u.tree ≤ most_tokens + 1
