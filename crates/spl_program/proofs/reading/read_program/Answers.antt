-- Texts come to one thing, so what is answered is it.
use Rattle.spl_program.specs.Programs.{texts_of}
use Rattle.spl_program.proofs.AnswerLemmas.{gives, refuses}
use Rattle.spl_program.proofs.reading.read_program.Goals as goal

pub returns-clause-programs : goal.returns-clause-programs
returns-clause-programs c = gives (texts_of c.args.texts.now) c.program_of.result c.program_of.ensures.program c.program_of.ensures.fault

pub returns-clause-faults : goal.returns-clause-faults
returns-clause-faults c = refuses (texts_of c.args.texts.now) c.program_of.result c.program_of.ensures.program c.program_of.ensures.fault
