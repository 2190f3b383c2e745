-- The segments of units keep their bounds, whichever modules the units have: a segment has at most as many entries as are counted of its trees, and so
-- with its table at most as many words as the segment of its name may have.
use Rattle.std.specs.Prelude.{◌≡◌, ◌≤◌, ℕ, ◌+◌, List, slice_get, None, Some}
use Rattle.spl_carries.specs.spl_meaning.Tables.{Source}
use Rattle.spl_carries.specs.spl_meaning.Limits.{first_full}
use Rattle.spl_carries.specs.spl_meaning.Sound.{IsSound}
use Rattle.spl_carries.specs.spl_meaning.Bound.{entries, bound}
use Rattle.spl_module_words.specs.spl_sound.Spelled.{AreSpelled}
use Rattle.spl_module_words.specs.spl_branch.declared.modules.Module.{Module}
use Rattle.spl_module_words.specs.spl_module_code.Modules.{AreModules}
use Rattle.spl_module_words.specs.mpe_segmenter.Names.{Part, parts}
use Rattle.spl_module_words.specs.mpe_segmenter.Counts.{entries_in, table_size, sizes}

-- what procedures, subroutines and main bodies stand in a segment, and what names these call elsewhere, is no less than its entries
abbrev pub PartsHaveFewEntries : Type 0
PartsHaveFewEntries = (us : List Source) (ms : List Module) (s : ℕ) (q : Part) → IsSound us → AreModules us ms → slice_get (parts ms) s ≡ Some q
    → entries_in q ≤ entries us q.name

-- its words with its table are within the bound
abbrev pub PartsKeepBounds : Type 0
PartsKeepBounds = (us : List Source) (ms : List Module) (s : ℕ) (q : Part) → IsSound us → AreSpelled us → first_full us ≡ None → AreModules us ms
    → slice_get (parts ms) s ≡ Some q → table_size q + sizes q.modules ≤ bound us q.name
