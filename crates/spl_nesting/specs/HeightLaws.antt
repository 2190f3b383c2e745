-- In a unit that tokens spell, the depth of each body fits a word, where no call has more than 63 words.
use Rattle.std.specs.Prelude.{slice_get, Some, ℕ, ◌+◌, ◌*◌, ◌≡◌, ◌≤◌, ◌<◌, List, []}
use Rattle.spl_sound.specs.spl_tree.Symbols.{Lexeme}
use Rattle.spl_sound.specs.spl_tree.StatementTrees.{Statements}
use Rattle.spl_sound.specs.spl_tree.DeclarationTrees.{UnitTree}
use Rattle.spl_sound.specs.spl_reading.Readers.{Got}
use Rattle.spl_sound.specs.spl_grammar.Verdicts.{Verdict}
use Rattle.spl_sound.specs.spl_meaning.Names.{Names}
use Rattle.spl_sound.specs.spl_meaning.Kinds.{callable}
use Rattle.spl_sound.specs.spl_meaning.Tables.{Source}
use Rattle.spl_sound.specs.spl_meaning.Pending.{formals_words, profile_formals, profile_result_words, link_words, statements_most, depth}
use Rattle.spl_sound.specs.Spelled.{AreSpelled}
use Rattle.spl_nesting.specs.Nesting.{most_in_unit}
use Rattle.spl_nesting.specs.Heights.{statements_height}

-- the most parts that may wait at one point
abbrev pub most_height : ℕ
most_height = 969

-- the words of each call, of its result, its parameters and its link, are at most 63: 59, and a marker
abbrev pub HaveFewWords : Names → Type 0
HaveFewWords names = (x : List ℕ)
    → profile_result_words (callable (names x)) + formals_words (profile_formals (callable (names x))) + link_words (names x) ≤ 63

-- few parts wait
abbrev pub FewPartsWait : Type 0
FewPartsWait = (ts : List Lexeme) (u : UnitTree) → Verdict ts (Got u []) → most_in_unit statements_height u ≤ most_height

-- so in each unit of a program, as it is handed to the checker of rules
abbrev pub FewPartsWaitInUnits : Type 0
FewPartsWaitInUnits = (us : List Source) (i : ℕ) (u : Source) → AreSpelled us → slice_get us i ≡ Some u
    → most_in_unit statements_height u.tree ≤ most_height

-- each has few words
abbrev pub PartsHaveFewWords : Type 0
PartsHaveFewWords = (names : Names) (ss : Statements) → HaveFewWords names → statements_most names ss ≤ 63 * (statements_height ss + 1)

-- so depths fit a word
abbrev pub DepthsFit : Type 0
DepthsFit = (names : Names) (ss : Statements) → HaveFewWords names → statements_height ss ≤ most_height → depth names ss < 65536
