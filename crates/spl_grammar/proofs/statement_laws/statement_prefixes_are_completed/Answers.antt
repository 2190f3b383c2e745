use Rattle.spl_grammar.proofs.CompletedParts.{a_statement}
use Rattle.spl_grammar.proofs.CompletedExpressions.{completed}
use Rattle.spl_grammar.proofs.CompletedLaws.{completes}
use Rattle.spl_grammar.proofs.statement_laws.statement_prefixes_are_completed.Goals as goal

-- step by step, from the end of the chain
pub returns : goal.returns
returns c = λ q d n j k ts mid chain. completes (completed a_statement chain) (λ us more x. (x.tree, x.spelled))
