use Rattle.mpe_progfile.proofs.FileLaws.{file_read}
use Rattle.mpe_progfile.proofs.laws.files_are_read.Goals as goal

-- what is written is read again
pub returns : goal.returns
returns c = file_read
