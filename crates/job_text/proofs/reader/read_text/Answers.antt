-- What the lines come to is the job of the text.
use Rattle.job_text.specs.Views.{state_of}
use Rattle.job_text.proofs.AnswerLemmas.{read_ok}
use Rattle.job_text.proofs.reader.read_text.Goals as goal

pub returns : goal.returns
returns c =
    read_ok c.args.bytes.now c.args.prep (state_of c.start-reading.result) (state_of c.read_lines.new.reading) c.into_job.result c.start-reading.ensures
    c.in_ok-read_lines.ensures c.into_job.ensures
