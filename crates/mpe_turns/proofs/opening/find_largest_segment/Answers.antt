-- A segment has at most 16,383 words; and then one more is looked at.
use Rattle.std.proofs.Common.{◌≡◌, ◌+◌, ◌<◌, length, max, get_or, slice_get, drop, Some, List, Vec, Global, ℕ, ap, subst, ◌∙◌, arith}
use Rattle.hp_program.specs.Programs.{segments_of}
use Rattle.hp_program.proofs.ValidLaws.{segment_fits}
use Rattle.mpe_worlds.specs.Opening.{largest_segment}
use Rattle.mpe_turns.proofs.OpenLemmas.{segment_more, segment_read}
use Rattle.mpe_turns.proofs.opening.find_largest_segment.Goals as goal

-- the segment that was read
read : (c : goal.After-len) → slice_get (segments_of c.args.program.now) c.loop-words.words-index ≡ Some c.words-item.result.items
read c =
    let same = c.deref-words-items.ensures.value in
    segment_read c.args.program.now c.loop-words.words-index c.words-item.result
    (subst (λ (vs : List (Vec ℕ Global)). c.loop-words.words-index < length vs) same c.loop-words-test.true)
    (c.words-item.is ∙ ap (λ (vs : List (Vec ℕ Global)). get_or vs c.loop-words.words-index c.words-item.result) same)

pub overflow_cast-len : goal.overflow_cast-len
overflow_cast-len c =
    let short = segment_fits c.args.program.now c.loop-words.words-index c.words-item.result.items (read c) in
    omega (arith, short, c.words-item.result.ok.0, c.len.ensures)

pub loop-words-preserved : goal.loop-words-preserved
loop-words-preserved c =
    let segments = segments_of c.args.program.now in
    let i = c.loop-words.words-index in
    let at = read c.before in
    let short = segment_fits c.args.program.now i c.words-item.result.items at in
    let long : c.len.result ≡ length c.words-item.result.items = omega (arith, c.words-item.result.ok.0, c.len.ensures) in
    record {
      largest_of_all = ap (λ (n : ℕ). max n (largest_segment (drop (i + 1) segments))) (c.larger-size.ensures ∙ ap (max c.loop-words.size) long)
          ∙ segment_more segments i c.loop-words.size c.words-item.result.items at ∙ c.loop-words.invariant.largest_of_all;
      few = let old = c.loop-words.invariant.few in omega (arith, c.larger-size.ensures, long, short, old);
    }
