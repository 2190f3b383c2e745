-- A look-up in the map is one in its list.
use Rattle.std.proofs.Common.{◌∙◌}
use Rattle.spl_profiles.proofs.NameLemmas.{listed_found}
use Rattle.spl_profiles.proofs.listings.Listings.find.Goals as goal

pub returns-in-Some : goal.returns-in-Some
returns-in-Some c = c.in-Some.ensures.value ∙ listed_found c.args.self.now.names.entries c.args.name.now.text.items

pub returns-in-None : goal.returns-in-None
returns-in-None c = c.in-None.ensures.value ∙ listed_found c.args.self.now.names.entries c.args.name.now.text.items
