-- A name that is not there goes last; another stays.
use Rattle.std.proofs.Common.{rules, ◌≡◌, is_some, None, true, ap, ◌∙◌}
use Rattle.indexmap.proofs.CallerLemmas.{insert_entry-new}
use Rattle.spl_tree.specs.Views.{letters}
use Rattle.spl_sorts.specs.spl_meaning.Names.{find}
use Rattle.spl_found.proofs.OwnNames.{still}
use Rattle.spl_spots.specs.NameMaps.{entries_of}
use Rattle.spl_spots.proofs.NameMapLemmas.{equal_names, entry_found, found_last}
use Rattle.spl_spots.proofs.name_maps.NameMap.add.Goals as goal

pub returns-in_ok-insert : goal.returns-in_ok-insert
returns-in_ok-insert g c =
    let m = c.args.self.now.names in
    let key = c.copy.result.text in
    let none : find (entries_of c.args.self.now) (letters c.args.name.now) ≡ None = search rules in
    let absent = entry_found m.entries key.items ∙ ap (find (entries_of c.args.self.now)) c.copy.ensures ∙ none in
    found_last m.entries _ key (letters c.args.name.now) c.args.value c.copy.ensures
    (c.in_ok-insert.ensures.entries ∙ insert_entry-new equal_names m key c.args.value absent)

pub returns-else-is_none : goal.returns-else-is_none
returns-else-is_none g c =
    let there : is_some (find (entries_of c.args.self.now) (letters c.args.name.now)) ≡ true = search rules in
    still (entries_of c.args.self.now) (letters c.args.name.now) c.args.value there
