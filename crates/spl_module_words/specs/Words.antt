-- The words that modules have in a segment, and what those of units have there at most. An oversized module counts as the least size that is too
-- great.
use Rattle.std.specs.Prelude.{◌≡◌, ◌≤◌, ℕ, ◌+◌, if◌then◌else◌, List, [], ◌∷◌, None}
use Rattle.spl_formed_modules.specs.spl_tree.Views.{letters}
use Rattle.spl_few_loops.specs.spl_meaning.Names.{same_name}
use Rattle.spl_few_loops.specs.spl_meaning.Tables.{Source}
use Rattle.spl_few_loops.specs.spl_meaning.Places.{sum}
use Rattle.spl_few_loops.specs.spl_meaning.Limits.{first_full}
use Rattle.spl_few_loops.specs.spl_meaning.Sound.{IsSound}
use Rattle.spl_few_loops.specs.spl_meaning.Bound.{unit_weight}
use Rattle.spl_few_loops.specs.spl_sound.Spelled.{AreSpelled}
use Rattle.spl_formed_modules.specs.spl_branch.declared.modules.Module.{Module}
use Rattle.spl_formed_modules.specs.spl_module_code.Modules.{AreModules}

-- in the segment of a name
abbrev pub words_in : List ℕ → List Module → ℕ
words_in x [] = 0
words_in x (m ∷ ms) = (if same_name (letters m.segment) x then m.size else 0) + words_in x ms

abbrev pub ModulesHaveFewWords : Type 0
ModulesHaveFewWords = (us : List Source) (ms : List Module) (x : List ℕ) → IsSound us → AreSpelled us → first_full us ≡ None → AreModules us ms
    → words_in x ms ≤ sum (unit_weight x) us
