-- A name that is not in the list goes last.
use Rattle.std.proofs.Common.{rules, ◌≡◌, ◌∷◌, ◌++◌, [], map, nat_eq, ap, sym, ◌∙◌, List, ℕ, is_some, false, not, cond, refl}
use Rattle.std.proofs.lemmas.List.{map_push}
use lib.Pointwise.{pointwise}
use Rattle.arrayvec.specs.ArrayVec.{ArrayVec}
use Rattle.indexmap.proofs.CallerLemmas.{insert_entry-new}
use Rattle.spl_meaning.specs.Names as n
use Rattle.spl_meaning.specs.Tables.{declared}
use Rattle.spl_tree.specs.Views.{letters}
use Rattle.spl_sorts.specs.declared.sorts.Sort.{Sort}
use Rattle.spl_sorts.specs.Sorts.{sort_of}
use Rattle.spl_sorts.specs.Tables.{table_of, entry_of}
use Rattle.spl_sorts.proofs.TableLemmas.{lookup_find, absent}
use Rattle.spl_sorts.proofs.tables.Table.declare.Goals as goal

pub returns-in_ok-insert : goal.returns-in_ok-insert
returns-in_ok-insert c =
    let m = c.args.self.now.names in
    let key = c.copy.result.text in
    let new : is_some (n.find (table_of c.args.self.now) (letters c.args.name.now)) ≡ false = search rules in
    let none = absent sort_of _ (ap is_some (lookup_find m.entries key ∙ ap (n.find (table_of c.args.self.now)) c.copy.ensures) ∙ new) in
    ap (λ (es : List (ArrayVec ℕ × Sort)). map entry_of es)
    (c.in_ok-insert.ensures.entries ∙ insert_entry-new (λ (j k : ArrayVec ℕ). pointwise nat_eq j.items k.items) m key c.args.sort none)
    ∙ map_push entry_of m.entries (key, c.args.sort)
    ∙ ap (λ (x : List ℕ). table_of c.args.self.now ++ (x, sort_of c.args.sort) ∷ []) c.copy.ensures
    ∙ sym (rw new refl)
