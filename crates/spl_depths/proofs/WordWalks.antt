-- Loops over parameters.
use Rattle.std.proofs.Common.{◌≡◌, ◌<◌, ◌≤◌, ℕ, ◌+◌, List, map, drop, length, get_or}
use Rattle.spl_sorts.specs.spl_meaning.Pending as pending
use Rattle.spl_sorts.specs.declared.profiles.Formal.{Formal}
use Rattle.spl_sorts.specs.Profiles.{formal_of}
use Rattle.spl_spots.proofs.ListWalks.{onward, onward_end}

pub words_step : (list : List Formal) (i : ℕ) (f : Formal) → i < length list → f ≡ get_or list i f
    → pending.formals_words (map formal_of (drop i list)) ≡ pending.formal_words (formal_of f) + pending.formals_words (map formal_of (drop (i + 1) list))
words_step list i f lt is = onward formal_of pending.formals_words list i f lt is

pub words_end : (list : List Formal) (i : ℕ) → length list ≤ i → pending.formals_words (map formal_of (drop i list)) ≡ 0
words_end list i le = onward_end formal_of pending.formals_words list i le

pub ruleset words_steps = (words_step, words_end)
