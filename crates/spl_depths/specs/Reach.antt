-- How far below the return word a subroutine's parameters and result stand, and a use of one that is too far beneath the top.
use Rattle.std.specs.Prelude.{ℕ, ◌+◌, Bool, true, false, if◌then◌else◌, List, [], ◌∷◌, Option, Some, None}
use Rattle.spl_sorts.specs.spl_meaning.Names.{Formal, Profile, Table, find, or_else, same_name}
use Rattle.spl_sorts.specs.spl_meaning.Pending.{formal_words, formals_words, result_words}
use Rattle.spl_sorts.specs.spl_meaning.Limits.{Full, Use, reach_by, first_among}

-- how many words below the return word a name stands, where it is assigned or not
abbrev pub Reach : Type 0
Reach = List ℕ → Bool → Option ℕ

-- parameters, each with the words from the return word down to its first
abbrev pub parameters_below : List Formal → Table ℕ
parameters_below [] = []
parameters_below (f ∷ fs) = (f.name, formal_words f + formals_words fs) ∷ parameters_below fs

-- the result stands below the parameters; its subroutine's name means it where it is assigned
abbrev pub result_below : List ℕ → ℕ → Reach
result_below name words x true = if same_name x name then Some words else None
result_below name words x false = None

-- what a subroutine of this name takes and gives
abbrev pub reach_of : List ℕ → Profile → Reach
reach_of name p x is_target =
    or_else (find (parameters_below p.formals) x) (result_below name (formals_words p.formals + result_words p) x is_target)

-- 5: the first limit behind a use
abbrev pub reached_by : Reach → Use → Option Full → Option Full
reached_by r u f = first_among f (reach_by u (r u.name u.is_target))
