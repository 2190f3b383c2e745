use Rattle.spl_grammar.proofs.StatementLaws.{statement_unique}
use Rattle.spl_grammar.proofs.statement_laws.statements_are_unique.Goals as goal

-- both are what is read where as many constructs may be open as there are tokens
pub returns : goal.returns
returns c = λ x y ts rest more v w k z. statement_unique v w k z
