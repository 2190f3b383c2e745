-- One program more.
use Rattle.std.proofs.Common.{◌+◌, max, drop, ℕ, ap, ◌∙◌, arith}
use Rattle.hp_program.specs.Programs.{segments_of}
use Rattle.mpe_overlay.specs.Codes.{codes_of}
use Rattle.mpe_overlay.proofs.SegmentLemmas.{program_at}
use Rattle.mpe_worlds.specs.Opening.{largest}
use Rattle.mpe_turns.proofs.OpenLemmas.{largest_more}
use Rattle.mpe_turns.proofs.opening.find_largest.Goals as goal

pub loop-program-preserved : goal.loop-program-preserved
loop-program-preserved c =
    let codes = codes_of c.args.programs.now in
    let i = c.loop-program.program-index in
    let at = program_at c.args.programs.now i c.program-item.result c.loop-program-test.true c.program-item.is in
    record {
      largest_of_all = ap (λ (n : ℕ). max n (largest (drop (i + 1) codes))) (c.larger-size.ensures ∙ ap (max c.loop-program.size) c.find_largest_segment.ensures.value)
          ∙ largest_more codes i c.loop-program.size (segments_of c.program-item.result) at ∙ c.loop-program.invariant.largest_of_all;
      few = let old = c.loop-program.invariant.few in let found = c.find_largest_segment.ensures.few in omega (arith, c.larger-size.ensures, found, old);
    }
