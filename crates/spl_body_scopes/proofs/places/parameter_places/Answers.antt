-- Before the first parameter, and one more.
use Rattle.std.proofs.Common.{◌-◌, map}
use Rattle.spl_sorts.specs.spl_meaning.Names.{find}
use Rattle.spl_sorts.specs.spl_meaning.Bodies.{parameter_places}
use Rattle.spl_sorts.specs.Profiles.{formal_of}
use Rattle.spl_places.specs.NameMaps.{entries_of}
use Rattle.spl_places.specs.Spots.{spot_of}
use Rattle.spl_places.proofs.NameMapLemmas.{behind_empty}
use Rattle.spl_body_scopes.specs.Bases.{below_in, gap_of}
use Rattle.spl_body_scopes.proofs.PlaceSteps.{left_more, parameter_more}
use Rattle.spl_body_scopes.proofs.places.parameter_places.Goals as goal

pub loop-formal-init : goal.loop-formal-init
loop-formal-init c = record {
  left = c.in_ok-left.ensures;
  places =
      behind_empty spot_of (entries_of c.new-places.result) (parameter_places (below_in c.args.base) (gap_of c.args.base) (map formal_of c.args.formals.now))
      c.new-places.ensures;
}

pub loop-formal-preserved : goal.loop-formal-preserved
loop-formal-preserved c =
    let list = c.args.formals.now in
    let i = c.loop-formal.formal-index in
    let f = c.formal-item.result in
    let words = c.formal_words-words.result in
    let left = left_more list i f c.loop-formal.left words c.loop-formal-test.true c.formal-item.is c.loop-formal.invariant.left c.formal_words-words.ensures in
    record {
      left = left;
      places =
          parameter_more (below_in c.args.base) (gap_of c.args.base) c.gap.result (find (entries_of c.loop-formal.places)) (find (entries_of c.add.new.self)) _
          list i f words (c.loop-formal.left - words) c.in_ok-from_gap.from_gap c.in_ok-below.below c.below.result c.loop-formal-test.true c.formal-item.is
          c.gap.ensures c.formal_words-words.ensures left c.in_ok-from_gap.ensures c.in_ok-below.ensures c.below.ensures c.in_ok-add.ensures
          c.loop-formal.invariant.places;
    }
