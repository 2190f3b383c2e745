-- A file's listing, or the line of its first fault.
use Rattle.hp3000_top.proofs.AnswerLemmas.{listed_so, unlisted_so}
use Rattle.hp3000_top.proofs.answering.list_answer.Goals as goal

pub returns-in_ok-text-in-Ok : goal.returns-in_ok-text-in-Ok
returns-in_ok-text-in-Ok c = listed_so c.args.bytes.now c.in-Ok.program c.in_ok-text-in-Ok.text c.in-Ok.ensures.ok c.in_ok-text-in-Ok.ensures

pub returns-in_ok-line-in-Err : goal.returns-in_ok-line-in-Err
returns-in_ok-line-in-Err c =
    unlisted_so c.args.bytes.now c.in-Err.fault c.in_ok-line-in-Err.line c.in-Err.ensures.fault c.in_ok-line-in-Err.ensures.told c.in_ok-line-in-Err.ensures.line
