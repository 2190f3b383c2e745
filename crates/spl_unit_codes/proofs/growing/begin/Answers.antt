-- Segment by segment.
use Rattle.std.proofs.Common.{◌≡◌, List, Bool, map, sym, ap, subst}
use Rattle.spl_tree.specs.declared.names_and_places.Name.{Name}
use Rattle.spl_tree.specs.Views.{letters}
use Rattle.spl_module_code.specs.spl_sound.Spelled.{source_of}
use Rattle.spl_module_code.specs.spl_modules.Walks.{walk_of}
use Rattle.spl_module_code.specs.spl_modules.Made.{Made}
use Rattle.spl_unit_codes.specs.Begun.{IsBegun, has_main}
use Rattle.spl_unit_codes.proofs.Begins.{main_there, main_nowhere, begun_more}
use Rattle.spl_unit_codes.proofs.growing.begin.Goals as goal
use Rattle.spl_unit_codes.proofs.growing.begin.Goals.{then-not-unit, else-not-unit}

pub loop-number-preserved : goal.loop-number-preserved
loop-number-preserved c =
    let unit = c.args.unit.now in
    let n = c.loop-number.number in
    let name = letters c.name-item.result in
    let main : c.if-not-unit.has_main ≡ has_main (source_of unit) n =
    elim c.if-not-unit.branch [
      | then-not-unit w ↦ main_there unit n w.from.result c.if-not-unit.has_main w.if-not-unit.true w.from.ensures w.has_main-is
      | else-not-unit w ↦ main_nowhere unit n c.if-not-unit.has_main w.if-not-unit.false w.has_main-is
    ] in
    begun_more (source_of unit) (walk_of c.args.entries.now).entered.made n c.loop-number.parts.items c.push.new.self.items c.deref-name-items.result.now
    c.name-item.result c.in_ok-part.part c.loop-number.invariant
    (ap (λ (xs : List Name). map letters xs) (sym c.deref-name-items.ensures.value)) c.loop-number-test.true c.name-item.is
    (subst (λ (b : Bool). IsBegun name ((walk_of c.args.entries.now).entered.made n) b c.in_ok-part.part) main
    (subst (λ (es : List Made). IsBegun name es c.if-not-unit.has_main c.in_ok-part.part) c.entries_at.ensures c.in_ok-part.ensures))
    c.in_ok-push.ensures.items
