-- A look-up in the map is one in its list.
use Rattle.std.proofs.Common.{◌∙◌}
use Rattle.spl_spots.proofs.NameMapLemmas.{entry_found}
use Rattle.spl_spots.proofs.name_maps.NameMap.find.Goals as goal

pub returns-in-Some : goal.returns-in-Some
returns-in-Some g c = c.in-Some.ensures.value ∙ entry_found c.args.self.now.names.entries c.args.name.now.text.items

pub returns-in-None : goal.returns-in-None
returns-in-None g c = c.in-None.ensures.value ∙ entry_found c.args.self.now.names.entries c.args.name.now.text.items
