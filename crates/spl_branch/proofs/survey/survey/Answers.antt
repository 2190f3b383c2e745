-- Each turn notes a piece and passes it; no piece stands further back than the one before.
use Rattle.std.proofs.Common.{◌≡◌, ◌+◌, ◌∙◌, drop, get_or, arith, refl}
use Rattle.spl_branch.specs.Stands.{at_left, ahead, moved}
use Rattle.spl_branch.specs.Rounds.{short_end}
use Rattle.spl_branch.proofs.SurveyLemmas.{no_piece, end_more, turns_more, stands_more, short_end_rises}
use Rattle.spl_branch.proofs.survey.survey.Goals as goal

pub returns-then-spot-gt-MOST-clause-short : goal.returns-then-spot-gt-MOST-clause-short
returns-then-spot-gt-MOST-clause-short c =
    let past : c.past-spot.result ≡ moved 1 c.loop-i.spot (get_or c.args.pieces.now c.loop-i.i no_piece) (ahead (drop (c.loop-i.i + 1) c.args.pieces.now)) = c.past-spot.ensures ∙ rw c.operation_at.ensures refl in
    let ends : short_end c.past-spot.result (drop (c.loop-i.i + 1) c.args.pieces.now) ≡ short_end (at_left 0) c.args.pieces.now =
    end_more c.args.pieces.now c.loop-i.i no_piece c.loop-i.spot c.past-spot.result c.loop-i-test.true past ∙ c.loop-i.invariant.ends in
    rw (← ends) (omega (arith, short_end_rises (drop (c.loop-i.i + 1) c.args.pieces.now) c.past-spot.result))

pub loop-i-preserved : goal.loop-i-preserved
loop-i-preserved c =
    let past : c.past-spot.result ≡ moved 1 c.loop-i.spot (get_or c.args.pieces.now c.loop-i.i no_piece) (ahead (drop (c.loop-i.i + 1) c.args.pieces.now)) = c.past-spot.ensures ∙ rw c.operation_at.ensures refl in
    record {
      low = omega arith;
      ends = end_more c.args.pieces.now c.loop-i.i no_piece c.loop-i.spot c.past-spot.result c.loop-i-test.true past ∙ c.loop-i.invariant.ends;
      turns = turns_more c.args.pieces.now c.loop-i.i no_piece c.loop-i.spot c.past-spot.result c.loop-i.turns.items c.note.new.turns.items c.loop-i-test.true past c.in_ok-note.ensures.turns ∙ c.loop-i.invariant.turns;
      stands = stands_more c.args.pieces.now c.loop-i.i no_piece c.loop-i.spot c.past-spot.result c.loop-i.turns.items c.note.new.turns.items c.loop-i.stands.items c.note.new.stands.items c.loop-i-test.true past c.in_ok-note.ensures.turns c.in_ok-note.ensures.stands ∙ c.loop-i.invariant.stands;
    }
