-- A name is in the table where it is in its list.
use Rattle.std.proofs.Common.{◌≡◌, ap, ◌∙◌, is_some}
use Rattle.spl_sorts.specs.Sorts.{sort_of}
use Rattle.spl_sorts.proofs.TableLemmas.{lookup_find, there}
use Rattle.spl_sorts.proofs.tables.Table.has.Goals as goal

pub returns : goal.returns
returns c =
    c.contains_key.ensures ∙ there sort_of _ ∙ ap is_some (lookup_find c.args.self.now.names.entries c.args.name.now.text)
