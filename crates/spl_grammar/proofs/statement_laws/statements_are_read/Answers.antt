use Rattle.spl_grammar.proofs.CompleteStatements.{complete_statement}
use Rattle.spl_grammar.proofs.statement_laws.statements_are_read.Goals as goal

-- by induction on the spelling
pub returns : goal.returns
returns c = λ x ts rest room v w. ((complete_statement v w).reads room).outcome
