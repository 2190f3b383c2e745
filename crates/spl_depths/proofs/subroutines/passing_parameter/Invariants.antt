-- A loop over parameters.
use Rattle.std.proofs.Common.{◌≡◌, ◌≤◌, map, drop}
use Rattle.spl_sorts.specs.spl_meaning.Limits.{passing, parameter_sizes, most_parameters}
use Rattle.spl_sorts.specs.spl_meaning.Pending.{result_words}
use Rattle.spl_sorts.specs.Profiles.{formal_of, profile_of}
use Rattle.spl_depths.proofs.subroutines.passing_parameter.Given as goal

-- so far the words do not pass the number, and what passes it from here on is what passes it in all
abbrev pub invariant-loop-formal : goal.invariant-loop-formal
invariant-loop-formal l = record {
  few : l.count ≤ 59;
  rest : passing 3 most_parameters l.count (parameter_sizes (map formal_of (drop l.formal-index l.profile.formals.items)))
      ≡ passing 3 most_parameters (result_words (profile_of l.profile)) (parameter_sizes (profile_of l.profile).formals);
}
