use Rattle.spl_statement_parts.proofs.ViewLemmas.{if_tree}
use Rattle.spl_statement_parts.proofs.trees.if_test.Goals as goal

-- with ELSE or without
pub returns : goal.returns
returns c = if_tree c.args.test c.args.yes c.args.no c.args.at
