-- Names with numbers of words, and the subroutines around uses, as the code has them.
use Rattle.std.specs.Prelude.{ℕ, ◌+◌, List, [], ◌∷◌, map, Option}
use Rattle.arrayvec.specs.ArrayVec.{ArrayVec}
use Rattle.spl_tree.specs.Views.{letters}
use Rattle.spl_sorts.specs.spl_meaning.Names.{Formal, Table, find, or_else}
use Rattle.spl_sorts.specs.spl_meaning.Pending.{formal_words, formals_words}
use Rattle.spl_uses.specs.spl_found.OwnNames.{with_name}
use Rattle.spl_depths.specs.declared.reach.Places.{Places}
use Rattle.spl_depths.specs.declared.reach.Reach as code
use Rattle.spl_depths.specs.Reach.{Reach, result_below}

abbrev pub entry_of : ArrayVec ℕ × ℕ → List ℕ × ℕ
entry_of e = (e.0.items, e.1)

abbrev pub places_of : Places → Table ℕ
places_of p = map entry_of p.names.entries

-- parameters more, of which the first of a name counts
abbrev pub behind_formals : (List ℕ → Option ℕ) → List Formal → List ℕ → Option ℕ
behind_formals here [] = here
behind_formals here (f ∷ fs) = behind_formals (with_name here f.name (formal_words f + formals_words fs)) fs

-- where parameters and the result stand
abbrev pub shown : code.Reach → Reach
shown r x is_target = or_else (find (places_of r.parameters) x) (result_below (letters r.name.now) r.result x is_target)
