-- Body by body.
use Rattle.spl_sound_beginnings.proofs.ModuleLaws.{well_module, well_written}
use Rattle.spl_sound_beginnings.proofs.laws.modules_begin_well.Goals as goal

pub returns-clause-part : goal.returns-clause-part
returns-clause-part c = well_module

pub returns-clause-code : goal.returns-clause-code
returns-clause-code c = well_written
