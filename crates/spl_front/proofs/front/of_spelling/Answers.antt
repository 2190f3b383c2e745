-- The place of a token is that of what the grammar sees there.
use Rattle.spl_front.proofs.FrontLemmas.{syntax_placed, depth_placed}
use Rattle.spl_front.proofs.front.of_spelling.Goals as goal

pub returns-in-Syntax : goal.returns-in-Syntax
returns-in-Syntax c = syntax_placed c.args.lexed.now c.args.fault c.in-Syntax.at c.index.result.now c.in-Syntax.is c.requires c.index.ensures

pub returns-in-TooDeep : goal.returns-in-TooDeep
returns-in-TooDeep c =
    depth_placed c.args.lexed.now c.args.fault c.in-TooDeep.at c.index-in-TooDeep.result.now c.in-TooDeep.is c.requires c.index-in-TooDeep.ensures
