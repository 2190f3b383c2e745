-- Body by body.
use Rattle.spl_call_indexes.proofs.ModuleLaws.{indexed_module, code_indexes}
use Rattle.spl_call_indexes.proofs.laws.modules_are_indexed.Goals as goal

pub returns-clause-part : goal.returns-clause-part
returns-clause-part c = indexed_module

pub returns-clause-code : goal.returns-clause-code
returns-clause-code c = code_indexes
