use Rattle.std.proofs.Common.{◌≡◌, ◌≤◌, ◌++◌, drop, slice_index}
use Rattle.spl_branch.specs.Stands.{at_left, end_of}
use Rattle.spl_branch.specs.Fixes.{fixes_of, starts_of}
use Rattle.spl_branch.specs.Words.{words_of}
use Rattle.spl_branch.proofs.words.write_words.Given as goal

-- what is made and what the pieces left have is all
abbrev pub invariant-loop-i : goal.invariant-loop-i
invariant-loop-i l = record {
  low : l.spot.offset ≤ 16383;
  ends : end_of (λ k. slice_index l.at k) l.spot (drop l.i l.pieces) ≡ end_of (λ k. slice_index l.at k) (at_left 0) l.pieces;
  words : l.out.words.items ++ words_of (λ k. slice_index l.at k) l.spot (drop l.i l.pieces) ≡ words_of (λ k. slice_index l.at k) (at_left 0) l.pieces;
  fixes : l.out.fixes.items ++ fixes_of (λ k. slice_index l.at k) l.spot (drop l.i l.pieces) ≡ fixes_of (λ k. slice_index l.at k) (at_left 0) l.pieces;
  starts : l.out.starts.items ++ starts_of (λ k. slice_index l.at k) l.spot (drop l.i l.pieces) ≡ starts_of (λ k. slice_index l.at k) (at_left 0) l.pieces;
}
