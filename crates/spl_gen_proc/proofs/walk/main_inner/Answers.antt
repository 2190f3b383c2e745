-- Where there is code of the segment it grows.
use Rattle.std.proofs.Common.{◌≤◌, ◌≡◌, ◌<◌, rules, Vec, length, sym, subst}
use Rattle.spl_tree.specs.Spells.{heading_tree}
use Rattle.spl_tree.specs.Views as view
use Rattle.std.specs.Global.{Global}
use Rattle.spl_sound.specs.spl_meaning.Names.{find}
use Rattle.spl_unit_laws.specs.spl_places.NameMaps.{entries_of}
use Rattle.spl_unit_laws.specs.spl_unit_codes.declared.growing.Growing.{Growing}
use Rattle.spl_unit_laws.specs.Steps.{Grows, InnerGrows}
use Rattle.spl_unit_walks.specs.Views.{fixed_of}
use Rattle.spl_unit_walks.proofs.Grown.{grown_there, grown_nowhere}
use Rattle.spl_unit_walks.proofs.MainSteps.{found_at}
use Rattle.spl_unit_walks.proofs.Steps.{inner_grows}
use Rattle.spl_gen_proc.proofs.walk.main_inner.Goals as goal
use Rattle.spl_gen_proc.proofs.walk.main_inner.Goals.{then-segment-len+in_ok-grow_inner, else-segment-len}

pub grow_inner-requires-clause-free : goal.grow_inner-requires-clause-free
grow_inner-requires-clause-free c =
    let many : c.len.result ≡ length c.args.parts.now.items = search rules in
    c.requires.free c.index_mut.result.now
    (found_at c.args.fixed.now.unit.now.segment c.from-segment.result c.args.parts.now.items c.index_mut.result.now c.from-segment.ensures
    (subst (λ n. c.from-segment.result < n) many c.if-segment-len.true) c.index_mut.ensures.value)

pub returns-clause-parts : goal.returns-clause-parts
returns-clause-parts c =
    let f = fixed_of c.args.fixed.now in
    let h = heading_tree c.args.heading.now in
    let s = view.statement c.args.statement.now in
    let many : c.len.result ≡ length c.args.parts.now.items = search rules in
    elim c.if-segment-len.branch [
      | then-segment-len+in_ok-grow_inner w ↦
          subst (λ (v : Vec Growing Global). Grows f.segment (InnerGrows f c.args.at h s) c.args.parts.now.items v.items) (sym w.parts-is)
          (grown_there f.segment c.from-segment.result (InnerGrows f c.args.at h s) c.args.parts.now.items w.index_mut.result.now w.grow_inner.new.part
          c.from-segment.ensures (subst (λ n. c.from-segment.result < n) many w.if-segment-len.true) w.index_mut.ensures.value
          (inner_grows f c.args.at h s (find (entries_of c.segment_procedures.result.now)) w.room_at-room.result w.index_mut.result.now w.grow_inner.new.part
          c.segment_procedures.ensures w.room_at-room.ensures w.in_ok-grow_inner.ensures.code w.in_ok-grow_inner.ensures.done))
      | else-segment-len w ↦
          subst (λ (v : Vec Growing Global). Grows f.segment (InnerGrows f c.args.at h s) c.args.parts.now.items v.items) (sym w.parts-is)
          (grown_nowhere f.segment c.from-segment.result (InnerGrows f c.args.at h s) c.args.parts.now.items c.from-segment.ensures
          (subst (λ n. n ≤ c.from-segment.result) many w.if-segment-len.false))
    ]
