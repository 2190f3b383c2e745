-- Both by induction along the list.
use Rattle.spl_initials.proofs.LaidLaws.{laid_cells, laid_initials}
use Rattle.spl_initials.proofs.laws.lists_are_laid.Goals as goal

pub returns : goal.returns
returns c = record { cells = laid_cells; initials = laid_initials }
