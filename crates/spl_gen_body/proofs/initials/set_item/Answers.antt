-- The place, the names and the values are those of the item.
use Rattle.std.proofs.Common.{List, map, option_map, Option, ap, subst, ◌∙◌}
use Rattle.spl_tree.specs.declared.expressions.Const.{Const}
use Rattle.spl_tree.specs.Views.{letters, constant}
use Rattle.spl_sorts.specs.spl_meaning.Names.{Names, find, constant_or_zero}
use Rattle.spl_sorts.specs.spl_meaning.Places.{Place, Array, Initial, start_of, initial_at}
use Rattle.spl_gen_expr.specs.spl_found.OwnNames.{over}
use Rattle.spl_sorts.specs.Tables.{table_of, names_of}
use Rattle.spl_initials.specs.spl_places.Spots.{array_of}
use Rattle.spl_initials.specs.Cells.{found_in}
use Rattle.spl_body_code.specs.spl_code.Parts.{pieces}
use Rattle.spl_body_code.specs.spl_code.Appends.{Appends}
use Rattle.spl_operations.proofs.PutLemmas.{ok_then}
use Rattle.spl_body_code.specs.Cells.{initials_set}
use Rattle.spl_gen_body.proofs.initials.set_item.Goals as goal

pub returns : goal.returns
returns c =
    let k = c.args.kind in
    let f = found_in c.args.list.now in
    let x = letters c.args.item.now.name in
    let start = c.start_of-start.ensures ∙ ap (λ (p : Option Place). start_of p (option_map array_of c.array_named.result)) c.place_named-place.ensures
    ∙ ap (λ (a : Option Array). start_of (f.place x) a) c.array_named.ensures in
    let seen = over (find (table_of c.args.here.now)) (find (table_of c.args.outer.now)) in
    let is = ap (λ (p : Option Place). initial_at p k (map (constant_or_zero (names_of c.seen-names.result)) (map constant c.deref.result.now))) start
    ∙ ap (λ (ns : Names). initial_at (start_of (f.place x) (f.array x)) k (map (constant_or_zero ns) (map constant c.deref.result.now))) c.seen-names.ensures
    ∙ ap (λ (cs : List Const). initial_at (start_of (f.place x) (f.array x)) k (map (constant_or_zero seen) (map constant cs))) c.deref.ensures.value in
    ok_then c.set_if_known.result (λ a. subst (λ (is : List Initial). Appends (pieces (initials_set is)) c.args.code.now c.set_if_known.new.code) is a) c.set_if_known.ensures
