-- The key names the segment of that program, which is well sized.
use Rattle.std.proofs.Common.{◌<◌, ◌≤◌, length, List, ℕ, Some, sym, ap, ◌∙◌, arith}
use Rattle.hp_program.specs.Programs.{segments_of}
use Rattle.mpe_overlay.specs.Codes.{codes_of}
use Rattle.mpe_overlay.proofs.SegmentLemmas.{program_there, segment_read, segment_at-program, program_at, segment_sized}
use Rattle.mpe_overlay.proofs.words.segment_of.Goals as goal

pub bounds-programs-program : goal.bounds-programs-program
bounds-programs-program c = program_there c.args.programs.now c.args.program c.args.seg (omega (arith, c.ranges.seg)) c.requires

pub returns-clause-value : goal.returns-clause-value
returns-clause-value c =
    let within = program_there c.args.programs.now c.args.program c.args.seg (omega (arith, c.ranges.seg)) c.requires in
    segment_read c.args.programs.now c.args.program c.args.seg c.index-programs-program.result (omega (arith, c.ranges.seg)) within c.index-programs-program.is c.requires
    ∙ ap (λ (ws : List ℕ). Some ws) (sym c.segment_words.ensures)

-- the words that are handed out are those of the program
sized : (c : goal.After-segment_words)
    → (2 ≤ length c.segment_words.result.now) × (length c.segment_words.result.now ≤ 16383)
sized c =
    let lt : c.args.seg < 256 = omega (arith, c.ranges.seg) in
    let within = program_there c.args.programs.now c.args.program c.args.seg lt c.requires in
    let at = segment_at-program (codes_of c.args.programs.now) c.args.program c.args.seg (segments_of c.index-programs-program.result) lt
    (program_at c.args.programs.now c.args.program c.index-programs-program.result within c.index-programs-program.is) in
    segment_sized c.index-programs-program.result c.args.seg c.segment_words.result.now (sym at
    ∙ returns-clause-value c)

pub returns-clause-some : goal.returns-clause-some
returns-clause-some c = let long = sized c in omega (arith, long.0)

pub returns-clause-few : goal.returns-clause-few
returns-clause-few c = (sized c).1
