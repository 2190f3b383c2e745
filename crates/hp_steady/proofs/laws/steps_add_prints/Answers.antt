-- Each step of a valid program keeps what was printed in front.
use Rattle.hp_steady.proofs.ProgramLaws.{prints_added}
use Rattle.hp_steady.proofs.laws.steps_add_prints.Goals as goal

pub returns : goal.returns
returns c = prints_added c.args.program.now
