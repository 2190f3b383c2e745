-- What is answered for the tokens and for their spelling is what is answered for the text.
use Rattle.std.proofs.Common.{Err, sym, subst}
use Rattle.spl_front.specs.declared.faults.UnitFault.{UnitFault}
use Rattle.spl_front.specs.Fronts.{Tells, Gives, Refuses}
use Rattle.spl_program.proofs.EndLemmas.{ended}
use Rattle.spl_front.proofs.FrontLemmas.{lex_told, lex_gives, lex_refuses, unit_told, unit_gives, unit_refuses, parse_told, parse_gives, parse_refuses}
use Rattle.spl_front.proofs.front.read_unit.Goals as goal

pub returns-in-Err-clause-fault : goal.returns-in-Err-clause-fault
returns-in-Err-clause-fault c =
    subst (Tells c.args.unit c.args.text.now) (sym c.of_tokens.ensures) (lex_told c.args.unit c.args.text.now c.in-Err.fault c.in-Err.ensures.fault)

pub returns-in-Err-clause-units : goal.returns-in-Err-clause-units
returns-in-Err-clause-units c = λ s v.
    subst (λ (f : UnitFault). Gives (Err f) s) (sym c.of_tokens.ensures) (lex_gives c.args.unit c.args.text.now c.in-Err.fault c.in-Err.ensures.cuts s v)

pub returns-in-Err-clause-faults : goal.returns-in-Err-clause-faults
returns-in-Err-clause-faults c = λ k at v.
    subst (λ (f : UnitFault). Refuses (Err f) k at) (sym c.of_tokens.ensures)
    (lex_refuses c.args.unit c.args.text.now c.in-Err.fault c.in-Err.ensures.cuts c.in-Err.ensures.faults k at v)

pub parse-requires-clause-ended : goal.parse-requires-clause-ended
parse-requires-clause-ended c = ended c.in-Ok.lexed c.in-Ok.ensures.whole.ends

pub returns-in-Ok-parse-clause-unit : goal.returns-in-Ok-parse-clause-unit
returns-in-Ok-parse-clause-unit c =
    unit_told c.args.unit c.args.text.now c.in-Ok.lexed c.in-Ok-parse.tree c.in-Ok.ensures.cut c.in-Ok-parse.ensures.answers

pub returns-in-Ok-parse-clause-units : goal.returns-in-Ok-parse-clause-units
returns-in-Ok-parse-clause-units c =
    unit_gives c.args.unit c.args.text.now c.in-Ok.lexed c.in-Ok-parse.tree c.in-Ok.ensures.cuts c.in-Ok-parse.ensures.answers c.in-Ok-parse.ensures.exact

pub returns-in-Ok-parse-clause-faults : goal.returns-in-Ok-parse-clause-faults
returns-in-Ok-parse-clause-faults c =
    unit_refuses c.args.unit c.args.text.now c.in-Ok.lexed c.in-Ok-parse.tree c.in-Ok.ensures.cuts c.in-Ok.ensures.faults c.in-Ok-parse.ensures.exact

pub returns-clause-fault : goal.returns-clause-fault
returns-clause-fault c =
    subst (Tells c.args.unit c.args.text.now) (sym c.of_spelling.ensures)
    (parse_told c.args.unit c.args.text.now c.in-Ok.lexed c.in-Err-parse.fault c.in-Ok.ensures.cut c.in-Err-parse.ensures.answers)

pub returns-clause-units : goal.returns-clause-units
returns-clause-units c = λ s v.
    subst (λ (f : UnitFault). Gives (Err f) s) (sym c.of_spelling.ensures)
    (parse_gives c.args.unit c.args.text.now c.in-Ok.lexed c.in-Err-parse.fault c.in-Ok.ensures.cuts c.in-Err-parse.ensures.exact s v)

pub returns-clause-faults : goal.returns-clause-faults
returns-clause-faults c = λ k at v.
    subst (λ (f : UnitFault). Refuses (Err f) k at) (sym c.of_spelling.ensures)
    (parse_refuses c.args.unit c.args.text.now c.in-Ok.lexed c.in-Err-parse.fault c.in-Ok.ensures.cuts c.in-Ok.ensures.faults c.in-Err-parse.ensures.exact k at v)
