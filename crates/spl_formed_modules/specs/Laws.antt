-- What the segmenter asks of modules holds of those of units.
use Rattle.std.specs.Prelude.{◌≡◌, ◌≤◌, ◌<◌, ◌^◌, true, List, length}
use Rattle.std.specs.List.{list_all}
use Rattle.spl_wanted_names.specs.spl_meaning.Tables.{Source}
use Rattle.spl_wanted_names.specs.spl_sound.Spelled.{AreSpelled, most_units}
use Rattle.mpe_segmenter.specs.spl_branch.declared.modules.Module.{Module}
use Rattle.spl_wanted_names.specs.spl_module_code.Modules.{AreModules}
use Rattle.mpe_segmenter.specs.Counts.{is_well_formed}
use Rattle.mpe_segmenter.specs.Entered.{total}

abbrev pub ModulesAreFormed : Type 0
ModulesAreFormed = (us : List Source) (ms : List Module) → AreModules us ms → list_all is_well_formed ms ≡ true

abbrev pub ModulesAreFew : Type 0
ModulesAreFew = (us : List Source) (ms : List Module) → AreSpelled us → length us ≤ most_units → AreModules us ms → total ms < 2 ^ 32
