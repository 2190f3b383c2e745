-- The programs that are made of modules of units are bounded: they have the units' segments in the units' order, each within the bound of its name, and
-- their data words.
use Rattle.std.specs.Prelude.{◌≡◌, ◌≤◌, ℕ, max, List, [], ◌∷◌, length, None}
use Rattle.spl_carries.specs.hp_program.declared.program.Program.{Program}
use Rattle.spl_carries.specs.hp_program.Programs.{segments_of, words_of}
use Rattle.spl_carries.specs.spl_meaning.Tables.{Source}
use Rattle.spl_carries.specs.spl_meaning.Places.{put_cells, put_initials}
use Rattle.spl_carries.specs.spl_meaning.Limits.{first_full}
use Rattle.spl_carries.specs.spl_meaning.Sound.{IsSound}
use Rattle.spl_carries.specs.spl_meaning.Bodies.{data_words, program_of}
use Rattle.spl_carries.specs.spl_meaning.Bound.{bound}
use Rattle.spl_carries.specs.spl_meaning.Runs.{global_address, zeros}
use Rattle.spl_module_words.specs.spl_sound.Spelled.{AreSpelled}
use Rattle.spl_module_words.specs.spl_initials.Memory.{memory_of}
use Rattle.spl_module_words.specs.spl_branch.declared.modules.Module.{Module}
use Rattle.spl_module_words.specs.spl_module_code.Modules.{program_uses, AreModules}
use Rattle.spl_module_words.specs.spl_places.Programs.{Each}
use Rattle.spl_module_words.specs.mpe_segmenter.Names.{parts}
use Rattle.spl_module_words.specs.mpe_segmenter.Programs.{Makes}
use Rattle.spl_module_words.specs.mpe_segmenter.Sites.{Links}
use Rattle.spl_carries.specs.Segments.{initial_words}
use Rattle.spl_carries.specs.Carries.{IsBounded}
use Rattle.spl_bounds.specs.Segments.{NumbersSegments}

-- A program is what these modules of units make, with these data words, and its segments hold their words and tables. The units break no rule, tokens
-- spell them, and they pass no limit.
pub record IsOf (us : List Source) (ms : List Module) (globals : List ℕ) (p : Program) : Type 0 where
  pub sound : IsSound us
  pub spelled : AreSpelled us
  pub within : first_full us ≡ None
  pub are_modules : AreModules us ms
  pub makes : Makes ms globals p
  pub links : Links (parts ms) (segments_of p)

-- whichever modules these are
abbrev pub ProgramsKeepBounds : Type 0
ProgramsKeepBounds = (us : List Source) (ms : List Module) (globals : List ℕ) (p : Program) → IsOf us ms globals p → Each NumbersSegments us → IsBounded p us

-- the greatest bound of segments of these names
abbrev pub greatest_bound : List Source → List (List ℕ) → ℕ
greatest_bound us [] = 0
greatest_bound us (x ∷ xs) = max (bound us x) (greatest_bound us xs)

-- how many words a segment of the units may have
abbrev pub most_words : List Source → ℕ
most_words us = greatest_bound us (program_uses us)

-- no segment has more, however the units number theirs
abbrev pub SegmentsHaveFewWords : Type 0
SegmentsHaveFewWords = (us : List Source) (ms : List Module) (globals : List ℕ) (p : Program) (s : ℕ) → IsOf us ms globals p
    → length (words_of (segments_of p) s) ≤ most_words us

-- Data words that stand in memory as a run of the units finds them are as many as the units', and are those with which it begins.
abbrev pub DataWordsAreInitial : Type 0
DataWordsAreInitial = (us : List Source) (ws : List ℕ)
    → memory_of ws ≡ put_initials global_address (program_of us).initials (put_cells global_address (program_of us).cells (zeros (data_words us)))
    → (length ws ≡ data_words us) × (ws ≡ initial_words us)
