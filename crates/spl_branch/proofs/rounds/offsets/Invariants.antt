use Rattle.std.proofs.Common.{◌≡◌, ◌+◌, map, take, slice_index}
use Rattle.spl_branch.specs.declared.survey.Stand.{Stand}
use Rattle.spl_branch.proofs.rounds.offsets.Given as goal

-- the offsets of the marks so far
abbrev pub invariant-loop-stand : goal.invariant-loop-stand
invariant-loop-stand l = l.offsets.items ≡ map (λ (st : Stand). st.place + slice_index l.shifts st.before) (take l.stand-index l.stands)
