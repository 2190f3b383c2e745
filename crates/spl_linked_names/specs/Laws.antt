-- The laws of this crate.
use Rattle.std.specs.Prelude.{◌≡◌, true, List, None}
use Rattle.spl_carried.specs.spl_meaning.Tables.{Source}
use Rattle.spl_carried.specs.spl_meaning.Sound.{IsSound}
use Rattle.spl_carried.specs.spl_branch.declared.modules.Module.{Module}
use Rattle.spl_carried.specs.spl_module_code.Modules.{AreModules}
use Rattle.spl_carried.specs.mpe_segmenter.Faults.{first_fault}
use Rattle.spl_carried.specs.spl_bounds.Segments.{NumbersSegments}
use Rattle.spl_carried.specs.spl_places.Programs.{Each}
use Rattle.spl_sound_headings.specs.spl_routes.Unique.{are_unique}
use Rattle.spl_carried.specs.Covered.{main_count}

-- Where units that break no rule number their segments, and their modules have no fault, no two procedures of the program have one name,
abbrev pub LinkedNamesAreUnique : Type 0
LinkedNamesAreUnique = (us : List Source) (ms : List Module) → IsSound us → Each NumbersSegments us → AreModules us ms → first_fault ms ≡ None
    → are_unique us ≡ true

-- and one unit has a main body.
abbrev pub LinkedUnitsHaveOneMain : Type 0
LinkedUnitsHaveOneMain = (us : List Source) (ms : List Module) → Each NumbersSegments us → AreModules us ms → first_fault ms ≡ None → main_count us ≡ 1
