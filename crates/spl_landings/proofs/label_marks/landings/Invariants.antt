-- A loop over labels.
use Rattle.std.proofs.Common.{map, drop}
use Rattle.spl_landings.specs.Labels.{label_of}
use Rattle.spl_landings.proofs.LandingWalks.{Landed}
use Rattle.spl_landings.proofs.label_marks.landings.Given as goal

-- those before have their marks
abbrev pub invariant-loop-label : goal.invariant-loop-label
invariant-loop-label l =
    Landed l.initial.code l.code l.landings (map label_of (drop l.label-index l.label-items)) (map label_of l.label-items)
