use Rattle.std.proofs.Common.{◌≡◌, drop}
use Rattle.mpe_segmenter.specs.Faults.{define_names}
use Rattle.mpe_segmenter.specs.Homes.{with_names}
use Rattle.mpe_segmenter.proofs.homes.note_defines.Given as goal

-- the names so far and those of the defines left are all
abbrev pub invariant-loop-define : goal.invariant-loop-define
invariant-loop-define l = with_names l.homes l.number (define_names (drop l.define-index l.defines)) ≡ with_names l.fn.homes l.number (define_names l.defines)
