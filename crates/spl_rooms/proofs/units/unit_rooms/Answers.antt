-- The main body, the procedures, and the subroutines of the main body.
use Rattle.std.proofs.Common.{List, refl, map, ap, ◌∙◌, ◌++◌}
use Rattle.std.proofs.lemmas.Result.{on_ok_weaker}
use Rattle.spl_tree.specs.declared.declarations.Decl.{Decl}
use Rattle.spl_tree.specs.DeclarationTrees.{declarations}
use Rattle.spl_tree.specs.Spells.{declaration}
use Rattle.spl_sound.specs.spl_meaning.Names.{find, nothing_declared}
use Rattle.spl_sorts.specs.Tables.{table_of}
use Rattle.spl_places.specs.spl_found.OwnNames.{over, behind_declarations}
use Rattle.spl_sound.specs.Spelled.{source_of}
use Rattle.spl_rooms.specs.Walked.{globals_rooms, subroutines_rooms}
use Rattle.spl_rooms.proofs.RoomLaws.{unit_all}
use Rattle.spl_rooms.proofs.units.unit_rooms.Goals as goal

pub returns : goal.returns
returns c =
    let own = find (table_of c.in_ok-own.own) in
    let outer = find (table_of c.nothing-outer.result) in
    let ds = declarations (map declaration c.args.unit.now.items.items) in
    on_ok_weaker c.subroutines.result
    (λ e. unit_all (source_of c.args.unit.now) own outer c.args.all.now.items c.main_room.new.all.items c.globals.new.all.items c.subroutines.new.all.items ds refl
    (c.in_ok-own.ensures ∙ ap (λ (xs : List Decl). behind_declarations nothing_declared nothing_declared (declarations (map declaration xs))) c.deref.ensures.value)
    c.nothing-outer.ensures
    c.in_ok-main_room.ensures
    (c.in_ok-globals.ensures ∙ ap (λ (xs : List Decl). c.main_room.new.all.items ++ globals_rooms nothing_declared (declarations (map declaration xs))) c.deref-2.ensures.value)
    (e ∙ ap (λ (xs : List Decl). c.globals.new.all.items ++ subroutines_rooms (over own outer) (declarations (map declaration xs))) c.deref-3.ensures.value))
    c.subroutines.ensures
