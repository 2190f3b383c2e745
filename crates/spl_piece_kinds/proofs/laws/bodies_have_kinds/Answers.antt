-- Statement by statement, whatever marks the labels have.
use Rattle.spl_piece_kinds.proofs.ModuleLaws.{kinds_statements}
use Rattle.spl_piece_kinds.proofs.laws.bodies_have_kinds.Goals as goal

pub returns : goal.returns
returns c = kinds_statements
