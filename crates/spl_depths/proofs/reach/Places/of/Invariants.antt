-- A loop over parameters.
use Rattle.std.proofs.Common.{◌≡◌, [], map, drop}
use Rattle.spl_sorts.specs.spl_meaning.Names.{find}
use Rattle.spl_sorts.specs.spl_meaning.Pending.{formals_words}
use Rattle.spl_sorts.specs.Profiles.{formal_of}
use Rattle.spl_depths.specs.Places.{places_of, behind_formals}
use Rattle.spl_depths.proofs.reach.Places.of.Given as goal

-- the places behind those from here on are those behind all, and the words are those of the parameters from here on
abbrev pub invariant-loop-formal : goal.invariant-loop-formal
invariant-loop-formal l = record {
  places : behind_formals (find (places_of l.places)) (map formal_of (drop l.formal-index l.formals)) ≡ behind_formals (find []) (map formal_of l.formals);
  words : l.words ≡ formals_words (map formal_of (drop l.formal-index l.formals));
}
