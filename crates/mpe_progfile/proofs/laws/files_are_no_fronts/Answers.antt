use Rattle.mpe_progfile.proofs.FileLaws.{no_fronts}
use Rattle.mpe_progfile.proofs.laws.files_are_no_fronts.Goals as goal

-- what is written is read again
pub returns : goal.returns
returns c = no_fronts
