use Rattle.std.proofs.Common.{◌≡◌, drop}
use Rattle.mpe_segmenter.specs.Faults.{callables}
use Rattle.mpe_segmenter.specs.Homes.{with_names}
use Rattle.mpe_segmenter.proofs.homes.note_modules.Given as goal

-- the names so far and those of the modules left are all
abbrev pub invariant-loop-one : goal.invariant-loop-one
invariant-loop-one l = with_names l.homes l.number (callables (drop l.one-index l.modules)) ≡ with_names l.fn.homes l.number (callables l.modules)
