use Rattle.spl_within.proofs.OperandLemmas.{operand_is}
use Rattle.spl_within.proofs.expressions.+operand.Goals as goal

-- an operand is what the rules read, with one construct fewer inside
pub operand-returns : goal.operand-returns
operand-returns t c = rw (operand_is c.args.room c.args.taken c.args.minus c.args.tokens.now) c.read.ensures
