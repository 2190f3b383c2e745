-- The file of the only program.
use Rattle.hp3000_top.proofs.AnswerLemmas.{file_is}
use Rattle.hp3000_top.proofs.answering.file_answer.Goals as goal

pub returns : goal.returns
returns c = file_is c.args.made c.in_ok-text.text c.index.result.now c.requires c.index.ensures c.in_ok-text.ensures
