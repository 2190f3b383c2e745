-- The main body through its unit's level.
use Rattle.std.proofs.Common.{◌≡◌, [], List, map, refl, sym, ap, subst}
use Rattle.spl_tree.specs.declared.statements.Stmt.{Stmt}
use Rattle.spl_tree.specs.StatementTrees.{statements}
use Rattle.spl_tree.specs.Views as view
use Rattle.spl_sound.specs.spl_meaning.Names.{find}
use Rattle.spl_sound.specs.spl_meaning.StatementRules.{label_faults}
use Rattle.spl_unit_laws.specs.spl_places.NameMaps.{entries_of}
use Rattle.spl_unit_laws.specs.spl_unit_codes.declared.growing.Growing.{Growing}
use Rattle.spl_unit_walks.specs.Views.{fixed_of}
use Rattle.spl_unit_walks.proofs.Steps.{main_grows}
use Rattle.spl_gen_proc.proofs.units.grow_main.Goals as goal

pub main_body-requires-clause-free : goal.main_body-requires-clause-free
main_body-requires-clause-free c = c.requires.free

pub main_body-requires-clause-once : goal.main_body-requires-clause-once
main_body-requires-clause-once c =
    subst (λ (xs : List Stmt). label_faults (statements (map view.statement xs)) ≡ []) (sym c.deref.ensures.value) c.requires.once

pub returns : goal.returns
returns c =
    let y : Growing = record { code = c.main_body.new.code; done = c.args.part.now.done } in
    main_grows (fixed_of c.args.fixed.now) c.deref.result.now (map view.statement c.args.fixed.now.unit.now.statements.items)
    (find (entries_of c.segment_procedures.result.now)) c.args.room.depth c.args.part.now y
    (ap (λ (xs : List Stmt). map view.statement xs) c.deref.ensures.value) c.segment_procedures.ensures c.in_ok-main_body.ensures refl
