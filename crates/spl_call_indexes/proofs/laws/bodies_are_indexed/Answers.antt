-- Statement by statement, where the entries that are found by name are the module's.
use Rattle.spl_call_indexes.proofs.ModuleLaws.{indexed_statements}
use Rattle.spl_call_indexes.proofs.laws.bodies_are_indexed.Goals as goal

pub returns : goal.returns
returns c = indexed_statements
