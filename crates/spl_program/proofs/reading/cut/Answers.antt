use Rattle.spl_program.proofs.TextLemmas.{ready}
use Rattle.spl_program.proofs.reading.cut.Goals as goal

pub returns-in-Ok-clause-ready : goal.returns-in-Ok-clause-ready
returns-in-Ok-clause-ready c = ready c.args.unit c.in-Ok.lexed c.in-Ok.ensures.whole
