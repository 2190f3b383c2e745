-- Where there is code of the segment it grows, and the cursor is behind the procedure.
use Rattle.std.proofs.Common.{◌≤◌, ◌≡◌, ◌<◌, ◌+◌, true, rules, List, Vec, length, map, sym, ap, subst, ◌∙◌}
use Rattle.spl_tree.specs.declared.declarations.Decl.{Decl}
use Rattle.spl_tree.specs.DeclarationTrees.{declarations}
use Rattle.spl_tree.specs.Spells.{heading_tree, declaration}
use Rattle.spl_tree.specs.Views as view
use Rattle.std.specs.Global.{Global}
use Rattle.spl_sound.specs.spl_meaning.Names.{find}
use Rattle.spl_sound.specs.spl_meaning.Places.{array_words}
use Rattle.spl_unit_laws.specs.spl_sorts.Tables.{table_of}
use Rattle.spl_unit_laws.specs.spl_places.declared.data.Datum as code
use Rattle.spl_unit_laws.specs.spl_places.ListedData.{Datum, datum_of}
use Rattle.spl_unit_laws.specs.spl_places.Counters.{total_words}
use Rattle.spl_unit_laws.specs.spl_places.NameMaps.{entries_of}
use Rattle.spl_layout.specs.spl_areas.Gathered.{items_under}
use Rattle.spl_unit_laws.specs.spl_body_scopes.Levels.{level_of}
use Rattle.spl_unit_laws.specs.spl_routine_code.Routines.{inners_among}
use Rattle.spl_unit_laws.specs.spl_unit_codes.declared.growing.Growing.{Growing}
use Rattle.spl_unit_laws.specs.Steps.{Grows, RoutineGrows}
use Rattle.spl_unit_walks.specs.Views.{fixed_of}
use Rattle.spl_unit_walks.proofs.Grown.{grown_there, grown_nowhere}
use Rattle.spl_unit_walks.proofs.MainSteps.{found_at}
use Rattle.spl_unit_walks.proofs.Steps.{routine_grows, cursor_is}
use Rattle.spl_gen_proc.proofs.walk.procedure.Goals as goal
use Rattle.spl_gen_proc.proofs.walk.procedure.Goals.{then-segment-len+in_ok-grow_routine, else-segment-len}

pub grow_routine-requires-clause-free : goal.grow_routine-requires-clause-free
grow_routine-requires-clause-free c =
    let many : c.len.result ≡ length c.args.parts.now.items = search rules in
    c.requires.free c.index_mut.result.now
    (found_at c.args.heading.now.segment c.from-segment.result c.args.parts.now.items c.index_mut.result.now c.from-segment.ensures
    (subst (λ n. c.from-segment.result < n) many c.if-segment-len.true) c.index_mut.ensures.value)

pub returns-clause-cursor : goal.returns-clause-cursor
returns-clause-cursor c =
    let outer = find (table_of c.args.outer.now.names) in
    let h = heading_tree c.args.heading.now in
    cursor_is outer c.args.at h c.deref.result.now (declarations (map declaration c.args.body.now.items.items)) c.in_ok-plus.field-0 c.in_ok-own.next_own
    c.in_ok-plus-2.field-0 c.in_ok-plus-4.field-0 (ap (λ (xs : List Decl). declarations (map declaration xs)) c.deref.ensures.value) c.in_ok-plus.ensures c.in_ok-own.ensures.next
    (c.in_ok-plus-2.ensures
    ∙ ap (λ n. c.args.at.own_arrays + n)
    (c.in_ok-arrays.ensures ∙ ap (λ (xs : List code.Datum). total_words true array_words (map datum_of xs)) c.deref-3.ensures.value
    ∙ ap (λ (ys : List Datum). total_words true array_words ys)
    (c.in_ok-items.ensures ∙ ap (λ (xs : List Decl). items_under outer h (declarations (map declaration xs))) c.deref-2.ensures.value)))
    (c.in_ok-plus-4.ensures
    ∙ ap (λ n. c.args.at.room + n)
    (c.in_ok-plus-3.ensures ∙ ap (λ n. 1 + n)
    (c.in_ok-inners.ensures ∙ ap (λ (xs : List Decl). inners_among (declarations (map declaration xs))) c.deref-4.ensures.value)))

pub returns-clause-parts : goal.returns-clause-parts
returns-clause-parts c =
    let f = fixed_of c.args.fixed.now in
    let outer = level_of c.args.outer.now in
    let h = heading_tree c.args.heading.now in
    let ds = declarations (map declaration c.args.body.now.items.items) in
    let ss = map view.statement c.args.body.now.statements.items in
    let many : c.len.result ≡ length c.args.parts.now.items = search rules in
    elim c.if-segment-len.branch [
      | then-segment-len+in_ok-grow_routine w ↦
          subst (λ (v : Vec Growing Global). Grows h.segment (RoutineGrows f outer c.args.at h ds ss) c.args.parts.now.items v.items) (sym w.parts-is)
          (grown_there h.segment c.from-segment.result (RoutineGrows f outer c.args.at h ds ss) c.args.parts.now.items w.index_mut.result.now w.grow_routine.new.part
          c.from-segment.ensures (subst (λ n. c.from-segment.result < n) many w.if-segment-len.true) w.index_mut.ensures.value
          (routine_grows f outer (level_of c.in_ok-own.own) c.args.at h c.deref.result.now ds ss (find (entries_of c.segment_procedures.result.now)) (find (entries_of c.own_subroutines.result.now))
          w.index_mut.result.now w.grow_routine.new.part c.in_ok-own.ensures.level (ap (λ (xs : List Decl). declarations (map declaration xs)) c.deref.ensures.value)
          c.segment_procedures.ensures c.own_subroutines.ensures w.in_ok-grow_routine.ensures.code w.in_ok-grow_routine.ensures.done))
      | else-segment-len w ↦
          subst (λ (v : Vec Growing Global). Grows h.segment (RoutineGrows f outer c.args.at h ds ss) c.args.parts.now.items v.items) (sym w.parts-is)
          (grown_nowhere h.segment c.from-segment.result (RoutineGrows f outer c.args.at h ds ss) c.args.parts.now.items c.from-segment.ensures
          (subst (λ n. n ≤ c.from-segment.result) many w.if-segment-len.false))
    ]
