-- Each jump is to a label of the list.
use Rattle.spl_safe_statements.proofs.Statements.{safe_body}
use Rattle.spl_safe_statements.proofs.laws.bodies_are_safe.Goals as goal

pub returns : goal.returns
returns c = safe_body
