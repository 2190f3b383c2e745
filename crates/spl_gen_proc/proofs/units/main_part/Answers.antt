-- Where there is a main body, and code of its segment, that grows.
use Rattle.std.proofs.Common.{◌≡◌, ◌<◌, ◌≤◌, rules, length, map, subst}
use Rattle.spl_tree.specs.Views as view
use Rattle.spl_unit_laws.specs.Units.{MainGrows}
use Rattle.spl_unit_walks.specs.Views.{fixed_of}
use Rattle.spl_unit_walks.proofs.Grown.{grown_there, grown_nowhere}
use Rattle.spl_unit_walks.proofs.MainSteps.{found_at, main_free}
use Rattle.spl_unit_walks.proofs.Steps.{main_none, main_some}
use Rattle.spl_gen_proc.proofs.units.main_part.Goals as goal

pub grow_main-requires-clause-free : goal.grow_main-requires-clause-free
grow_main-requires-clause-free c =
    let unit = c.args.fixed.now.unit.now in
    let many : c.len.result ≡ length c.args.parts.now.items = search rules in
    main_free unit.subprogram unit.segment c.args.parts.now.items c.index_mut.result.now c.requires.free c.if-fixed.false
    (found_at unit.segment c.from-segment.result c.args.parts.now.items c.index_mut.result.now c.from-segment.ensures
    (subst (λ n. c.from-segment.result < n) many c.if-segment-len.true) c.index_mut.ensures.value)

pub returns-then-fixed : goal.returns-then-fixed
returns-then-fixed c =
    let unit = c.args.fixed.now.unit.now in
    main_none unit.subprogram (fixed_of c.args.fixed.now) (map view.statement unit.statements.items) c.args.room.depth c.args.parts.now.items c.if-fixed.true

pub returns-in_ok-grow_main : goal.returns-in_ok-grow_main
returns-in_ok-grow_main c =
    let unit = c.args.fixed.now.unit.now in
    let f = fixed_of c.args.fixed.now in
    let ss = map view.statement unit.statements.items in
    let many : c.len.result ≡ length c.args.parts.now.items = search rules in
    main_some unit.subprogram f ss c.args.room.depth c.args.parts.now.items _ c.if-fixed.false
    (grown_there unit.segment c.from-segment.result (MainGrows f ss c.args.room.depth) c.args.parts.now.items c.index_mut.result.now c.grow_main.new.part
    c.from-segment.ensures (subst (λ n. c.from-segment.result < n) many c.if-segment-len.true) c.index_mut.ensures.value c.in_ok-grow_main.ensures)

pub returns-else-segment-len : goal.returns-else-segment-len
returns-else-segment-len c =
    let unit = c.args.fixed.now.unit.now in
    let f = fixed_of c.args.fixed.now in
    let ss = map view.statement unit.statements.items in
    let many : c.len.result ≡ length c.args.parts.now.items = search rules in
    main_some unit.subprogram f ss c.args.room.depth c.args.parts.now.items c.args.parts.now.items c.if-fixed.false
    (grown_nowhere unit.segment c.from-segment.result (MainGrows f ss c.args.room.depth) c.args.parts.now.items c.from-segment.ensures
    (subst (λ n. n ≤ c.from-segment.result) many c.if-segment-len.false))
