use Rattle.std.proofs.Common.{arith}
use Rattle.spl_parser.proofs.ParseLemmas.{unit_answered, fault_answered}
use Rattle.spl_parser.proofs.parser.parse.Goals as goal

-- the unit that was read
pub returns-in-Ok-whole-clause-answers : goal.returns-in-Ok-whole-clause-answers
returns-in-Ok-whole-clause-answers c = (unit_answered c.args.lexed.now c.deref.result.now c.new-tokens.result
    c.unit.new.tokens c.in-Ok.parts c.in-Ok-whole.unit
    c.requires.ended c.deref.ensures.value c.new-tokens.ensures c.in-Ok.ensures c.in-Ok-whole.ensures.tree
    c.in-Ok-whole.ensures.subprogram c.in-Ok-whole.ensures.segments).0

pub returns-in-Ok-whole-clause-exact : goal.returns-in-Ok-whole-clause-exact
returns-in-Ok-whole-clause-exact c = (unit_answered c.args.lexed.now c.deref.result.now c.new-tokens.result
    c.unit.new.tokens c.in-Ok.parts c.in-Ok-whole.unit
    c.requires.ended c.deref.ensures.value c.new-tokens.ensures c.in-Ok.ensures c.in-Ok-whole.ensures.tree
    c.in-Ok-whole.ensures.subprogram c.in-Ok-whole.ensures.segments).1

-- the fault where the reading stopped
pub returns-in-Err-clause-answers : goal.returns-in-Err-clause-answers
returns-in-Err-clause-answers c = (fault_answered c.args.lexed.now c.deref.result.now c.new-tokens.result
    c.unit.new.tokens c.in-Err.fault c.len.result c.left.result
    c.saturating_sub-at.result c.fault_at.result c.requires.ended c.deref.ensures.value c.new-tokens.ensures
    c.in-Err.ensures
    (omega (arith, c.args.lexed.now.tokens.ok.0, c.len.ensures)) c.left.ensures.value c.saturating_sub-at.ensures
    c.fault_at.ensures).0

pub returns-in-Err-clause-exact : goal.returns-in-Err-clause-exact
returns-in-Err-clause-exact c = (fault_answered c.args.lexed.now c.deref.result.now c.new-tokens.result
    c.unit.new.tokens c.in-Err.fault c.len.result c.left.result
    c.saturating_sub-at.result c.fault_at.result c.requires.ended c.deref.ensures.value c.new-tokens.ensures
    c.in-Err.ensures
    (omega (arith, c.args.lexed.now.tokens.ok.0, c.len.ensures)) c.left.ensures.value c.saturating_sub-at.ensures
    c.fault_at.ensures).1
