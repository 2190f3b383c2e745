-- What is answered of the tokens is what they spell, or where they spell nothing.
use Rattle.std.proofs.Common.{Err, subst}
use Rattle.spl_parser.specs.spl_tokens.declared.faults.ParseFault.{ParseFault}
use Rattle.spl_parser.specs.Answers as pa
use Rattle.spl_program.proofs.TextLemmas.{spelled_so, syntax_so, depth_so}
use Rattle.spl_program.proofs.reading.spell.Goals as goal

pub returns-in-Ok-clause-unit : goal.returns-in-Ok-clause-unit
returns-in-Ok-clause-unit c = spelled_so c.args.lexed.now c.in-Ok.unit c.in-Ok.ensures.answers

pub returns-in-Err-Syntax-clause-fault : goal.returns-in-Err-Syntax-clause-fault
returns-in-Err-Syntax-clause-fault c =
    syntax_so c.args.lexed.now c.in-Err-Syntax.at c.index.result.now (subst (λ (f : ParseFault). pa.Answers c.args.lexed.now (Err f)) c.in-Err-Syntax.field-0-is c.in-Err-Syntax.ensures.answers) c.index.ensures

pub returns-in-Err-TooDeep-clause-fault : goal.returns-in-Err-TooDeep-clause-fault
returns-in-Err-TooDeep-clause-fault c =
    depth_so c.args.lexed.now c.in-Err-TooDeep.at c.index-in-Err-TooDeep.result.now (subst (λ (f : ParseFault). pa.Answers c.args.lexed.now (Err f)) c.in-Err-TooDeep.field-0-is c.in-Err-TooDeep.ensures.answers) c.index-in-Err-TooDeep.ensures
