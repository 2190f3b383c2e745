-- By the sizes of a valid program.
use Rattle.hp_steady.proofs.ProgramLaws.{words_near}
use Rattle.hp_steady.proofs.laws.words_are_near.Goals as goal

pub returns : goal.returns
returns c = words_near c.args.program.now
