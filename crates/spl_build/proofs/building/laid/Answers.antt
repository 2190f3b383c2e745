-- What fits where no limit is passed has room among the data words of a program.
use Rattle.std.proofs.Common.{map}
use Rattle.spl_sound.specs.Spelled.{source_of}
use Rattle.spl_build.proofs.RoomLemmas.{laid_so}
use Rattle.spl_build.proofs.building.laid.Goals as goal

pub returns-in-Ok-clause-laid : goal.returns-in-Ok-clause-laid
returns-in-Ok-clause-laid c =
    laid_so (map source_of c.args.sound.now.units.items) c.in-Ok.layout c.programs_fit.ensures c.args.sound.now.sound c.in-Ok.ensures.layout c.in-Ok.ensures.within
