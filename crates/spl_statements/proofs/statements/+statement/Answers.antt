use Rattle.spl_statements.proofs.NestLemmas.{statement_is}
use Rattle.spl_statements.proofs.statements.+statement.Goals as goal

-- a statement is what the rules read, with one construct fewer inside
pub returns : goal.returns
returns t c = rw (statement_is c.args.room c.args.tokens.now) c.read.ensures
