-- A parameter more.
use Rattle.std.proofs.Common.{◌-◌}
use Rattle.spl_entries.proofs.EntryWalks.{left_more, parameter_more}
use Rattle.spl_entries.proofs.parameters.places_of.Goals as goal

pub loop-formal-preserved : goal.loop-formal-preserved
loop-formal-preserved c =
    let list = c.args.formals.now in
    let i = c.loop-formal.formal-index in
    let f = c.formal-item.result in
    let words = c.formal_words-words.result in
    let left = left_more list i f c.loop-formal.left words c.loop-formal-test.true c.formal-item.is c.loop-formal.invariant.left c.formal_words-words.ensures in
    record {
      left = left;
      places =
          parameter_more c.args.gap words (c.loop-formal.left - words) c.in_ok-from_gap.from_gap c.in_ok-plus.field-0 c.loop-formal.all.items c.push.new.self.items _
          c.parameter_place.result list i f c.loop-formal-test.true c.formal-item.is
          c.formal_words-words.ensures left c.in_ok-from_gap.ensures c.in_ok-plus.ensures c.parameter_place.ensures c.in_ok-push.ensures.items
          c.loop-formal.invariant.places;
    }
