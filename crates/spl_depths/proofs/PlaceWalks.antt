-- Names with their places: look-ups, and the places of parameters one by one.
use Rattle.std.proofs.Common.{◌≡◌, ◌<◌, ◌≤◌, ℕ, ◌+◌, Bool, true, false, cond, nat_eq, List, [], ◌∷◌, map, drop, length, get_or, Option, Some, None, refl, ap, ◌∙◌}
use Rattle.std.specs.Prelude.{if◌then◌else◌}
use Rattle.std.specs.Map.{lookup}
use lib.Pointwise.{pointwise}
use Rattle.arrayvec.specs.ArrayVec.{ArrayVec}
use Rattle.spl_tree.specs.Views.{letters}
use Rattle.spl_sorts.specs.spl_meaning.Names as n
use Rattle.spl_sorts.specs.spl_meaning.Names.{find, or_else, same_name}
use Rattle.spl_sorts.specs.spl_meaning.Pending.{formal_words, formals_words, result_words}
use Rattle.spl_uses.specs.spl_found.OwnNames.{with_name}
use Rattle.spl_sorts.specs.declared.profiles.Formal.{Formal}
use Rattle.spl_sorts.specs.Profiles.{formal_of}
use Rattle.spl_depths.specs.declared.reach.Reach as code
use Rattle.spl_depths.specs.Reach.{parameters_below, result_below, reach_of}
use Rattle.spl_depths.specs.Places.{entry_of, places_of, behind_formals, shown}
use Rattle.spl_spots.proofs.ListWalks.{onward, onward_end}

-- names are equal as their letters are
abbrev pub equal_names : ArrayVec ℕ → ArrayVec ℕ → Bool
equal_names j k = same_name j.items k.items

-- a look-up in the map
pub place_found : (es : List (ArrayVec ℕ × ℕ)) (x : List ℕ) → lookup (λ k. pointwise nat_eq x k.items) es ≡ find (map entry_of es) x
place_found [] x = refl
place_found (e ∷ es) x = ap (cond (same_name x e.0.items) (Some e.1)) (place_found es x)

pub place_step : (here : List ℕ → Option ℕ) (list : List Formal) (i : ℕ) (f : Formal) → i < length list → f ≡ get_or list i f
    → behind_formals here (map formal_of (drop i list))
    ≡ behind_formals (with_name here (letters f.name) (formal_words (formal_of f) + formals_words (map formal_of (drop (i + 1) list)))) (map formal_of (drop (i + 1) list))
place_step here list i f lt is = onward formal_of (behind_formals here) list i f lt is

pub place_end : (here : List ℕ → Option ℕ) (list : List Formal) (i : ℕ) → length list ≤ i → behind_formals here (map formal_of (drop i list)) ≡ here
place_end here list i le = onward_end formal_of (behind_formals here) list i le

pub words_step : (list : List Formal) (i : ℕ) (f : Formal) → i < length list → f ≡ get_or list i f
    → formals_words (map formal_of (drop i list)) ≡ formal_words (formal_of f) + formals_words (map formal_of (drop (i + 1) list))
words_step list i f lt is = onward formal_of formals_words list i f lt is

-- of parameters the first of a name counts
formals_all : (here : List ℕ → Option ℕ) (fs : List n.Formal) (y : List ℕ) → behind_formals here fs y ≡ or_else (here y) (find (parameters_below fs) y)
unfolding with_name
formals_all here [] y = by (here y)
  where
    by : (o : Option ℕ) → o ≡ or_else o None
    by (Some a) = refl
    by None = refl
formals_all here (f ∷ fs) y =
    formals_all (with_name here f.name (formal_words f + formals_words fs)) fs y ∙ by (here y) (same_name y f.name)
  where
    by : (o : Option ℕ) (b : Bool)
        → or_else (or_else o (if b then Some (formal_words f + formals_words fs) else None)) (find (parameters_below fs) y)
        ≡ or_else o (if b then Some (formal_words f + formals_words fs) else find (parameters_below fs) y)
    by (Some a) b = refl
    by None true = refl
    by None false = refl

pub all_places : (fs : List n.Formal) → behind_formals (find []) fs ≡ find (parameters_below fs)
all_places fs i y = formals_all (find []) fs y i

pub ruleset place_steps = (place_step, place_end, words_step, all_places)

-- where parameters and the result stand
pub reach_by_parts : (r : code.Reach) (name : List ℕ) (p : n.Profile) → letters r.name.now ≡ name
    → find (places_of r.parameters) ≡ find (parameters_below p.formals) → r.result ≡ formals_words p.formals + result_words p
    → shown r ≡ reach_of name p
reach_by_parts r name p same places words =
    λ i x t. or_else (places i x) (result_below (same i) (words i) x t)
