-- Body by body.
use Rattle.spl_piece_kinds.proofs.ModuleLaws.{kinds_module, kinds_written}
use Rattle.spl_piece_kinds.proofs.laws.modules_have_kinds.Goals as goal

pub returns-clause-part : goal.returns-clause-part
returns-clause-part c = kinds_module

pub returns-clause-code : goal.returns-clause-code
returns-clause-code c = kinds_written
