-- A look-up in the table is one in its list.
use Rattle.std.proofs.Common.{◌≡◌, ap, ◌∙◌, option_map}
use Rattle.spl_sorts.specs.Sorts.{sort_of}
use Rattle.spl_sorts.proofs.TableLemmas.{lookup_find, copied_sort}
use Rattle.spl_sorts.proofs.tables.Table.find.Goals as goal

pub returns : goal.returns
returns c =
    copied_sort c.get.result ∙ ap (option_map sort_of) c.get.ensures.value ∙ lookup_find c.args.self.now.names.entries c.args.name.now.text
