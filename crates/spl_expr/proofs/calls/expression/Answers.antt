use Rattle.std.proofs.Common.{arith, false}
use Rattle.spl_expr.proofs.AnswerLemmas.{finished}
use Rattle.spl_expr.proofs.calls.expression.Goals as goal

-- what the rule read, by places
pub returns-clause-answers : goal.returns-clause-answers
returns-clause-answers c = (finished false c.args.tokens.now.items c.deref.result.now c.new-cursor.result
    c.expression_within-read.new.tokens
    c.args.from c.args.depth c.len.result c.left.result c.saturating_sub-at.result c.expression_within-read.result
    c.answer.result
    (omega (arith, c.args.tokens.now.ok.0, c.requires.inside)) c.requires.shallow c.requires.ended
    c.deref.ensures.value
    c.new-cursor.ensures c.expression_within-read.ensures (omega
    (arith, c.args.tokens.now.ok.0, c.len.ensures)) c.left.ensures.value
    c.saturating_sub-at.ensures c.answer.ensures).0

pub returns-clause-exact : goal.returns-clause-exact
returns-clause-exact c = (finished false c.args.tokens.now.items c.deref.result.now c.new-cursor.result
    c.expression_within-read.new.tokens
    c.args.from c.args.depth c.len.result c.left.result c.saturating_sub-at.result c.expression_within-read.result
    c.answer.result
    (omega (arith, c.args.tokens.now.ok.0, c.requires.inside)) c.requires.shallow c.requires.ended
    c.deref.ensures.value
    c.new-cursor.ensures c.expression_within-read.ensures (omega
    (arith, c.args.tokens.now.ok.0, c.len.ensures)) c.left.ensures.value
    c.saturating_sub-at.ensures c.answer.ensures).1
