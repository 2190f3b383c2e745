use Rattle.mpe_progfile.proofs.AnswerLemmas.{gives_files}
use Rattle.mpe_progfile.proofs.file.read.Goals as goal

-- a file is read as its program
pub returns-clause-files : goal.returns-clause-files
returns-clause-files c = gives_files c.read_program.result c.args.bytes.now c.read_program.ensures.read
