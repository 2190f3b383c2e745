-- A name of which nothing is said goes last; another stays.
use Rattle.std.proofs.Common.{rules, ◌≡◌, ◌∷◌, ◌++◌, [], List, ℕ, map, is_some, None, true, ap, ◌∙◌}
use Rattle.std.proofs.lemmas.List.{map_push}
use Rattle.arrayvec.specs.ArrayVec.{ArrayVec}
use Rattle.indexmap.proofs.CallerLemmas.{insert_entry-new}
use Rattle.spl_tree.specs.Views.{letters}
use Rattle.spl_sorts.specs.spl_meaning.Names.{Table, find}
use Rattle.spl_found.proofs.OwnNames.{still, find_pushed}
use Rattle.spl_profiles.specs.declared.listings.Listed.{Listed}
use Rattle.spl_profiles.specs.Listings.{entry_of, listed_of}
use Rattle.spl_profiles.proofs.NameLemmas.{equal_names, listed_found}
use Rattle.spl_profiles.proofs.listings.Listings.add.Goals as goal

pub returns-in_ok-insert : goal.returns-in_ok-insert
returns-in_ok-insert c =
    let m = c.args.self.now.names in
    let key = c.copy.result.text in
    let none : find (listed_of c.args.self.now) (letters c.args.name.now) ≡ None = search rules in
    let absent = listed_found m.entries key.items ∙ ap (find (listed_of c.args.self.now)) c.copy.ensures ∙ none in
    ap (λ (es : List (ArrayVec ℕ × Listed)). find (map entry_of es))
    (c.in_ok-insert.ensures.entries ∙ insert_entry-new equal_names m key c.args.listed absent)
    ∙ ap (λ (t : Table Listed). find t) (map_push entry_of m.entries (key, c.args.listed)
    ∙ ap (λ (x : List ℕ). listed_of c.args.self.now ++ (x, c.args.listed) ∷ []) c.copy.ensures)
    ∙ find_pushed (listed_of c.args.self.now) (letters c.args.name.now) c.args.listed

pub returns-else-is_none : goal.returns-else-is_none
returns-else-is_none c =
    let there : is_some (find (listed_of c.args.self.now) (letters c.args.name.now)) ≡ true = search rules in
    still (listed_of c.args.self.now) (letters c.args.name.now) c.args.listed there
