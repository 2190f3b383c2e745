-- What is found along units are the rooms of the definitions.
use Rattle.std.proofs.Common.{map, ◌∙◌}
use Rattle.spl_sound.specs.Spelled.{source_of}
use Rattle.spl_rooms.proofs.RoomLaws.{units_found}
use Rattle.spl_rooms.proofs.units.rooms.Goals as goal

pub returns : goal.returns
returns c = c.in_ok-all.ensures ∙ units_found (map source_of c.args.units.now) c.requires.1
