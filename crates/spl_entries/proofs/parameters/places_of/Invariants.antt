-- A loop over parameters.
use Rattle.std.proofs.Common.{◌≡◌, ◌++◌, map, drop}
use Rattle.spl_sorts.specs.spl_meaning.Pending.{formals_words}
use Rattle.spl_sorts.specs.Profiles.{formal_of}
use Rattle.spl_entries.specs.Entries.{parameter_entries}
use Rattle.spl_entries.proofs.parameters.places_of.Given as goal

-- the words from here on, and the places so far with those from here on
abbrev pub invariant-loop-formal : goal.invariant-loop-formal
invariant-loop-formal l = record {
  left : l.left ≡ formals_words (map formal_of (drop l.formal-index l.formals));
  places :
      l.all.items ++ parameter_entries l.gap (map formal_of (drop l.formal-index l.formals))
      ≡ l.initial.all.items ++ parameter_entries l.gap (map formal_of l.formals);
}
