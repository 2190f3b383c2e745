-- The place, the names and the values are those of the item.
use Rattle.std.proofs.Common.{List, map, option_map, Option, ap, ◌∙◌}
use Rattle.spl_tree.specs.declared.expressions.Const.{Const}
use Rattle.spl_tree.specs.Views.{letters, constant}
use Rattle.spl_sorts.specs.spl_meaning.Names.{Names, find, constant_or_zero}
use Rattle.spl_sorts.specs.spl_meaning.Places.{Place, Array, start_of, initial_at, put_initials}
use Rattle.spl_sorts.specs.spl_meaning.Runs.{global_address}
use Rattle.spl_places.specs.spl_found.OwnNames.{over}
use Rattle.spl_sorts.specs.Tables.{table_of, names_of}
use Rattle.spl_places.specs.Spots.{array_of}
use Rattle.spl_initials.specs.Memory.{memory_of}
use Rattle.spl_initials.specs.Cells.{found_in}
use Rattle.spl_initials.proofs.initials.put_item.Goals as goal

pub returns : goal.returns
returns c =
    let k = c.args.kind in
    let f = found_in c.args.list.now in
    let x = letters c.args.item.now.name in
    let mem = memory_of c.args.words.now in
    let start = c.start_of-start.ensures ∙ ap (λ (p : Option Place). start_of p (option_map array_of c.array_named.result)) c.place_named-place.ensures
    ∙ ap (λ (a : Option Array). start_of (f.place x) a) c.array_named.ensures in
    let seen = over (find (table_of c.args.here.now)) (find (table_of c.args.outer.now)) in
    c.put_from.ensures
    ∙ ap (λ (p : Option Place). put_initials global_address (initial_at p k (map (constant_or_zero (names_of c.seen-names.result)) (map constant c.deref.result.now))) mem) start
    ∙ ap (λ (ns : Names). put_initials global_address (initial_at (start_of (f.place x) (f.array x)) k (map (constant_or_zero ns) (map constant c.deref.result.now))) mem) c.seen-names.ensures
    ∙ ap (λ (cs : List Const). put_initials global_address (initial_at (start_of (f.place x) (f.array x)) k (map (constant_or_zero seen) (map constant cs))) mem) c.deref.ensures.value
