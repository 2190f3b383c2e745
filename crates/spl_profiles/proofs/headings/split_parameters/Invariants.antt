-- A loop over parameters.
use Rattle.std.proofs.Common.{◌≡◌, map, drop}
use Rattle.spl_sorts.specs.Profiles.{formal_of}
use Rattle.spl_profiles.specs.Headings.{found_split}
use Rattle.spl_profiles.proofs.headings.split_parameters.Given as goal

-- what is found from here on is what is found in all
abbrev pub invariant-loop-formal : goal.invariant-loop-formal
invariant-loop-formal l =
    found_split l.split (map formal_of (drop l.formal-index l.formals)) l.report
    ≡ found_split l.split (map formal_of l.formals) l.initial.report
