-- The subroutines stand before the procedure, and the result that is seen in all of them is its own.
use Rattle.std.proofs.Common.{◌+◌, List, map, ap, subst, sym}
use Rattle.spl_tree.specs.declared.declarations.Decl.{Decl}
use Rattle.spl_tree.specs.DeclarationTrees.{declarations}
use Rattle.spl_tree.specs.Spells.{heading_tree, declaration}
use Rattle.spl_tree.specs.Views as view
use Rattle.spl_sorts.specs.spl_meaning.Names.{find}
use Rattle.spl_sorts.specs.Tables.{table_of}
use Rattle.spl_statement_scopes.specs.spl_scopes.Scopes.{Results}
use Rattle.spl_statement_scopes.specs.spl_body_scopes.Levels.{level_of}
use Rattle.spl_statement_scopes.specs.spl_body_scopes.Found.{calls_in}
use Rattle.spl_statement_scopes.specs.spl_body_scopes.Results.{result_of}
use Rattle.spl_routine_code.specs.Generates.{AreOpen}
use Rattle.spl_routine_code.specs.Routines.{Around, inners_among}
use Rattle.spl_gen_routines.specs.Views.{routine_around}
use Rattle.spl_routine_code.proofs.RoutineSteps.{others_open, first_free, routine_stands}
use Rattle.spl_gen_routines.proofs.routines.routine.Goals as goal

pub subroutines-requires-clause-free : goal.subroutines-requires-clause-free
subroutines-requires-clause-free c =
    subst (λ (xs : List Decl). AreOpen c.in_ok-plus-2.field-0 (inners_among (declarations (map declaration xs))) c.args.code.now.marks.items) (sym c.deref.ensures.value)
    (others_open c.args.entry (inners_among (declarations (map declaration c.args.of.now.body.now.items.items))) c.in_ok-plus-2.field-0 c.args.code.now.marks.items
    c.requires.free c.in_ok-plus-2.ensures)

pub procedure-requires-clause-free : goal.procedure-requires-clause-free
procedure-requires-clause-free c =
    first_free _ c.args.rooms.now (declarations (map declaration c.deref.result.now)) c.in_ok-plus.field-0 c.in_ok-plus-2.field-0 c.args.entry c.args.code.now
    c.subroutines.new.code c.in_ok-inners.ensures.code c.in_ok-plus-2.ensures
    (subst (λ (xs : List Decl). AreOpen c.args.entry (1 + inners_among (declarations (map declaration xs))) c.args.code.now.marks.items) (sym c.deref.ensures.value) c.requires.free)

pub returns-clause-code : goal.returns-clause-code
returns-clause-code c =
    let p = c.args.of.now in
    let around : Results → Around = λ r. record { own = level_of p.own.now; outer = level_of p.outer.now; result = r; calls = calls_in p.entries } in
    routine_stands (around (result_of c.in_ok-result.result)) (routine_around p) c.args.rooms.now c.args.room (find (table_of p.outer.now.names)) p.first_own p.first_array
    (heading_tree p.heading.now) (declarations (map declaration c.deref.result.now)) (declarations (map declaration p.body.now.items.items)) c.room_at.result
    (map view.statement p.body.now.statements.items) c.args.entry c.in_ok-plus.field-0 c.in_ok-plus-2.field-0 c.args.code.now c.subroutines.new.code c.procedure.new.code
    (ap around c.in_ok-result.ensures) (ap (λ (xs : List Decl). declarations (map declaration xs)) c.deref.ensures.value) c.in_ok-plus.ensures c.in_ok-plus-2.ensures
    c.room_at.ensures c.in_ok-inners.ensures.code c.in_ok-procedure.ensures
