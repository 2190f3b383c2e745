use Rattle.std.proofs.Common.{◌≡◌, map, slice_index}
use Rattle.spl_branch.specs.Modules.{define_of}
use Rattle.spl_branch.proofs.finish.defines_of.Given as goal

-- the defines of the entries so far
abbrev pub invariant-loop-entry : goal.invariant-loop-entry
invariant-loop-entry l = l.defines.items ≡ map (define_of (λ k. slice_index l.at k)) l.yielded
