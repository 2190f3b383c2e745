-- Marks for the labels of a body, one after the other.
use Rattle.std.proofs.Common.{List, ap, map, ◌∙◌}
use Rattle.spl_landings.specs.declared.label_lists.Label.{Label}
use Rattle.spl_landings.specs.Labels.{label_of}
use Rattle.spl_landings.proofs.LandingWalks.{landed_first, landed_next, map_last, marks_last}
use Rattle.spl_landings.proofs.label_marks.landings.Goals as goal

pub loop-label-init : goal.loop-label-init
loop-label-init c = landed_first c.args.code.now c.new-landings.result c.deref-label-items.result.now c.new-landings.ensures

pub loop-label-preserved : goal.loop-label-preserved
loop-label-preserved c =
    landed_next c.args.code.now c.loop-label.code c.fresh.new.self c.loop-label.landings c.add.new.self c.deref-label-items.result.now c.loop-label.label-index
    c.label-item.result (map label_of c.deref-label-items.result.now) (record { mark = c.in_ok-mark.mark; pending = c.in_ok-pending.pending })
    c.loop-label.invariant c.loop-label-test.true c.label-item.is c.in_ok-mark.ensures.marks c.in_ok-mark.ensures.pieces c.in_ok-mark.ensures.wants
    c.in_ok-mark.ensures.same c.in_ok-add.ensures c.in_ok-mark.ensures.mark c.in_ok-pending.ensures

pub returns-clause-map : goal.returns-clause-map
returns-clause-map c =
    map_last c.args.code.now c.loop-label.code c.loop-label.landings c.deref-label-items.result.now c.loop-label.label-index
    (map label_of c.deref-label-items.result.now) _ c.loop-label.invariant c.loop-label-test.false
    (ap (λ (ls : List Label). map label_of ls) c.deref-label-items.ensures.value ∙ c.in_ok-labels.ensures)

pub returns-clause-marks : goal.returns-clause-marks
returns-clause-marks c =
    marks_last c.args.code.now c.loop-label.code c.loop-label.landings c.deref-label-items.result.now c.loop-label.label-index
    (map label_of c.deref-label-items.result.now) _ c.loop-label.invariant c.loop-label-test.false
    (ap (λ (ls : List Label). map label_of ls) c.deref-label-items.ensures.value ∙ c.in_ok-labels.ensures)
