use Rattle.spl_sound.specs.spl_meaning.Names.{find}
use Rattle.spl_sorts.specs.Tables.{table_of}
use Rattle.spl_types.proofs.UnitLaws.{main_is}
use Rattle.spl_types.proofs.main_bodies.main_inside.Goals as goal

pub returns : goal.returns
returns c = main_is (find (table_of c.args.own.now)) (table_of c.args.none.now) c.requires
