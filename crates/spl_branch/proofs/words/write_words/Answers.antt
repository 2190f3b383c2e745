-- Each turn writes a piece and passes it.
use Rattle.std.proofs.Common.{◌≡◌, ◌+◌, ◌∙◌, ℕ, ap, refl, drop, get_or, slice_index, arith}
use Rattle.spl_branch.specs.Stands.{at_left, ahead, after, end_of}
use Rattle.spl_branch.proofs.SurveyLemmas.{no_piece}
use Rattle.spl_branch.proofs.FormedLemmas.{ahead_listed, formed_left}
use Rattle.spl_branch.proofs.WordLemmas as w
use Rattle.spl_branch.proofs.words.write_words.Goals as goal

pub put-requires-clause-next : goal.put-requires-clause-next
put-requires-clause-next c = rw c.operation_at-next.ensures (ahead_listed (drop (c.loop-i.i + 1) c.args.pieces.now) (formed_left c.args.pieces.now (c.loop-i.i + 1) c.requires.formed))

pub loop-i-preserved : goal.loop-i-preserved
loop-i-preserved c =
    let marks : ℕ → ℕ = λ l. slice_index c.args.at.now l in
    let past : c.past-spot.result ≡ after marks c.loop-i.spot (get_or c.args.pieces.now c.loop-i.i no_piece) (ahead (drop (c.loop-i.i + 1) c.args.pieces.now)) = c.past-spot.ensures ∙ rw (c.size_of.ensures.value, c.operation_at-next.ensures) refl in
    let ends : end_of marks c.past-spot.result (drop (c.loop-i.i + 1) c.args.pieces.now) ≡ end_of marks (at_left 0) c.args.pieces.now =
    w.ends_more marks c.args.pieces.now c.loop-i.i no_piece c.loop-i.spot c.past-spot.result c.loop-i-test.true past ∙ c.loop-i.invariant.ends in
    record {
      low = omega (arith, w.end_of_rises (drop (c.loop-i.i + 1) c.args.pieces.now) marks c.past-spot.result, ap (λ q. q.offset) ends);
      ends = ends;
      words = w.words_more marks c.args.pieces.now c.loop-i.i no_piece c.loop-i.spot c.past-spot.result c.loop-i-test.true past c.loop-i.out.words.items c.put.new.self.words.items (c.in_ok-put.ensures.words ∙ rw c.operation_at-next.ensures refl) ∙ c.loop-i.invariant.words;
      fixes = w.fixes_more marks c.args.pieces.now c.loop-i.i no_piece c.loop-i.spot c.past-spot.result c.loop-i-test.true past c.loop-i.out.fixes.items c.put.new.self.fixes.items c.in_ok-put.ensures.fixes ∙ c.loop-i.invariant.fixes;
      starts = w.starts_more marks c.args.pieces.now c.loop-i.i no_piece c.loop-i.spot c.past-spot.result c.loop-i-test.true past c.loop-i.out.starts.items c.put.new.self.starts.items c.in_ok-put.ensures.starts ∙ c.loop-i.invariant.starts;
    }
