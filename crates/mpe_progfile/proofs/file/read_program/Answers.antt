use Rattle.std.proofs.Common.{rules, ◌≡◌, length}
use Rattle.mpe_progfile.proofs.PartLemmas.{parts_right}
use Rattle.mpe_progfile.proofs.AnswerLemmas.{labelled_file}
use Rattle.mpe_progfile.proofs.file.read_program.Goals as goal

-- what was read has a right head, and its segments are well sized
pub labelled-requires-clause-head : goal.labelled-requires-clause-head
labelled-requires-clause-head c = (parts_right _ _ c.in_ok-parts.ensures.read).head

pub labelled-requires-clause-sized : goal.labelled-requires-clause-sized
labelled-requires-clause-sized c = (parts_right _ _ c.in_ok-parts.ensures.read).sized

-- and nothing is left
pub returns-clause-file : goal.returns-clause-file
returns-clause-file c =
    let none : length c.read_parts.new.reader.left.now ≡ 0 = search rules in
    labelled_file c.labelled.result _ c.args.bytes.now c.read_parts.new.reader.left.now c.labelled.ensures c.in_ok-parts.ensures.spelled none
