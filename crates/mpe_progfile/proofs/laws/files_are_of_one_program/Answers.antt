use Rattle.mpe_progfile.proofs.FileLaws.{one_program}
use Rattle.mpe_progfile.proofs.laws.files_are_of_one_program.Goals as goal

-- what is written is read again
pub returns : goal.returns
returns c = one_program
