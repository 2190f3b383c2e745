-- A loop over parameters.
use Rattle.std.proofs.Common.{◌≡◌, ◌+◌, map, drop}
use Rattle.spl_sorts.specs.spl_meaning.Pending as pending
use Rattle.spl_sorts.specs.Profiles.{formal_of}
use Rattle.spl_formals.proofs.lists.formals_words.Given as goal

-- the words so far and those from here on are the words of all
abbrev pub invariant-loop-formal : goal.invariant-loop-formal
invariant-loop-formal l =
    l.words + pending.formals_words (map formal_of (drop l.formal-index l.formals)) ≡ pending.formals_words (map formal_of l.formals)
