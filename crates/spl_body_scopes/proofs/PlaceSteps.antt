-- Loops over parameters and over items: what names have behind those from one on.
use Rattle.std.proofs.Common.{ℕ, ◌≡◌, ◌<◌, ◌≤◌, ◌+◌, ◌-◌, arith, List, map, drop, length, get_or, Option, sym, ap, ◌∙◌}
use Rattle.spl_tree.specs.Views.{letters}
use Rattle.spl_sorts.specs.spl_meaning.Places.{Place}
use Rattle.spl_sorts.specs.spl_meaning.Pending.{formal_words, formals_words}
use Rattle.spl_sorts.specs.spl_meaning.Bodies.{parameter_places}
use Rattle.spl_places.specs.spl_found.OwnNames.{with_name}
use Rattle.spl_places.proofs.spl_lists_proofs.NameWalks.{onward, onward_end}
use Rattle.spl_sorts.specs.declared.profiles.Formal.{Formal}
use Rattle.spl_sorts.specs.Profiles.{formal_of}
use Rattle.spl_places.specs.spl_spots.declared.places.Place as code
use Rattle.spl_places.specs.Spots.{spot_of}
use Rattle.spl_places.specs.NameMaps.{behind_table, shown}
use Rattle.spl_places.proofs.NameMapLemmas.{behind_more, behind_none, behind_nothing, shown_none, shown_added}
use Rattle.spl_places.proofs.PlaceWalks.{place_step, place_end}

pub words_step : (list : List Formal) (i : ℕ) (f : Formal) → i < length list → f ≡ get_or list i f
    → formals_words (map formal_of (drop i list)) ≡ formal_words (formal_of f) + formals_words (map formal_of (drop (i + 1) list))
words_step list i f lt is = onward formal_of formals_words list i f lt is

pub words_end : (list : List Formal) (i : ℕ) → length list ≤ i → formals_words (map formal_of (drop i list)) ≡ 0
words_end list i le = onward_end formal_of formals_words list i le

-- a parameter's name has its place, unless it had one
pub parameter_step : (below : ℕ → Place) (gap : ℕ) (has : List ℕ → Option Place) (list : List Formal) (i : ℕ) (f : Formal) → i < length list → f ≡ get_or list i f
    → behind_table has (parameter_places below gap (map formal_of (drop i list)))
    ≡ behind_table (with_name has (letters f.name) (below (gap + formal_words (formal_of f) + formals_words (map formal_of (drop (i + 1) list)))))
    (parameter_places below gap (map formal_of (drop (i + 1) list)))
parameter_step below gap has list i f lt is =
    onward formal_of (λ fs. behind_table has (parameter_places below gap fs)) list i f lt is
    ∙ behind_more has (letters f.name) (below (gap + formal_words (formal_of f) + formals_words (map formal_of (drop (i + 1) list))))
    (parameter_places below gap (map formal_of (drop (i + 1) list)))

pub parameter_end : (below : ℕ → Place) (gap : ℕ) (has : List ℕ → Option Place) (list : List Formal) (i : ℕ) → length list ≤ i
    → behind_table has (parameter_places below gap (map formal_of (drop i list))) ≡ has
parameter_end below gap has list i le = onward_end formal_of (λ fs. behind_table has (parameter_places below gap fs)) list i le ∙ behind_none has

pub ruleset parameter_steps = (words_step, words_end, parameter_step, parameter_end, behind_nothing, shown_none)

pub ruleset item_steps = (place_step, place_end)

minus : (w r : ℕ) → w + r - w ≡ r
minus w r = omega arith

-- a parameter more: the words from the next one on
pub left_more : (list : List Formal) (i : ℕ) (f : Formal) (left words : ℕ) → i < length list → f ≡ get_or list i f
    → left ≡ formals_words (map formal_of (drop i list)) → words ≡ formal_words (formal_of f) → left - words ≡ formals_words (map formal_of (drop (i + 1) list))
left_more list i f left words lt is here one =
    let rest = formals_words (map formal_of (drop (i + 1) list)) in
    ap (λ (m : ℕ). m - words) (here ∙ words_step list i f lt is) ∙ ap (λ (w : ℕ). formal_words (formal_of f) + rest - w) one
    ∙ minus (formal_words (formal_of f)) rest

-- and its name with its place
pub parameter_more : (below : ℕ → Place) (gap base : ℕ) (old new : List ℕ → Option code.Place) (all : List ℕ → Option Place) (list : List Formal) (i : ℕ) (f : Formal)
    (words left from at : ℕ) (v : code.Place) → i < length list → f ≡ get_or list i f
    → base ≡ gap → words ≡ formal_words (formal_of f) → left ≡ formals_words (map formal_of (drop (i + 1) list)) → from ≡ base + words → at ≡ from + left
    → spot_of v ≡ below at → new ≡ with_name old (letters f.name) v
    → behind_table (shown spot_of old) (parameter_places below gap (map formal_of (drop i list))) ≡ all
    → behind_table (shown spot_of new) (parameter_places below gap (map formal_of (drop (i + 1) list))) ≡ all
parameter_more below gap base old new all list i f words left from at v lt is gaps one others start sum spot added before =
    let rest = parameter_places below gap (map formal_of (drop (i + 1) list)) in
    let has = shown spot_of old in
    let placed : at ≡ gap + formal_words (formal_of f) + formals_words (map formal_of (drop (i + 1) list)) =
    sum ∙ ap (λ (m : ℕ). m + left) start ∙ ap (λ (g : ℕ). g + words + left) gaps ∙ ap (λ (w : ℕ). gap + w + left) one
    ∙ ap (λ (r : ℕ). gap + formal_words (formal_of f) + r) others in
    ap (λ (h : List ℕ → Option Place). behind_table h rest)
    (shown_added spot_of new old (letters f.name) v added ∙ ap (with_name has (letters f.name)) (spot ∙ ap below placed))
    ∙ sym (parameter_step below gap has list i f lt is) ∙ before
