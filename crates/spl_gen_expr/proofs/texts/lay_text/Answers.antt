-- Nothing is left to be laid.
use Rattle.spl_gen_expr.proofs.TextLemmas.{laid_all}
use Rattle.spl_gen_expr.proofs.texts.lay_text.Goals as goal

pub returns-in_default-rest : goal.returns-in_default-rest
returns-in_default-rest c = laid_all c.args.bytes.now c.loop-rest.rest.now c.args.code.now c.loop-rest.code c.in_default-rest.len_below c.loop-rest.invariant
