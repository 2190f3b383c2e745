-- The segments of units in their order: they are those of any modules of the units.
use Rattle.std.specs.Prelude.{◌≡◌, ◌<◌, ℕ, false, List, length, slice_get, Some}
use Rattle.spl_carries.specs.spl_meaning.Tables.{Source, Routine, routines_of}
use Rattle.spl_carries.specs.spl_meaning.Sound.{IsSound}
use Rattle.spl_module_words.specs.spl_branch.declared.modules.Module.{Module}
use Rattle.spl_module_words.specs.spl_module_code.Modules.{AreModules}
use Rattle.spl_module_words.specs.spl_places.Programs.{Each}
use Rattle.spl_module_words.specs.mpe_segmenter.Names.{segment_names}
use Rattle.spl_carries.specs.Segments as carries

-- a procedure stands in one of its unit's segments
abbrev pub StandsIn : Source → Routine → Type 0
StandsIn u r = r.heading.segment < length u.segments

-- A unit numbers its segments: no name stands twice among them, and its procedures and its main body stand in some.
pub record NumbersSegments (u : Source) : Type 0 where
  pub once : (i j : ℕ) (x : List ℕ) → slice_get u.segments i ≡ Some x → slice_get u.segments j ≡ Some x → i ≡ j
  pub routines : Each (StandsIn u) (routines_of u)
  pub main : u.subprogram ≡ false → u.tree.segment < length u.segments

-- modules of such units make the units' segments, in the order in which the units first use them
abbrev pub ModulesMakeSegments : Type 0
ModulesMakeSegments = (us : List Source) (ms : List Module) → IsSound us → Each NumbersSegments us → AreModules us ms
    → segment_names ms ≡ carries.segment_names us
