-- Loops over parameters, items, declarations and units: the places from one on.
use Rattle.std.proofs.Common.{ℕ, ◌≡◌, ◌<◌, ◌≤◌, ◌+◌, ◌-◌, arith, Bool, List, [], ◌∷◌, ◌++◌, map, drop, length, get_or, refl, sym, ap, ◌∙◌}
use Rattle.spl_tree.specs.declared.expressions.Kind.{Kind}
use Rattle.spl_tree.specs.declared.declarations.Decl.{Decl}
use Rattle.spl_tree.specs.declared.units.SplUnit.{SplUnit}
use Rattle.spl_tree.specs.DeclarationTrees.{declarations}
use Rattle.spl_tree.specs.Spells.{declaration}
use Rattle.spl_sorts.specs.spl_meaning.Names.{Names, nothing_declared}
use Rattle.spl_sorts.specs.spl_meaning.Pending.{formal_words, formals_words}
use Rattle.spl_sorts.specs.declared.profiles.Formal.{Formal}
use Rattle.spl_sorts.specs.Profiles.{formal_of}
use Rattle.spl_formals.specs.spl_found.OwnNames.{behind_declaration}
use Rattle.spl_formals.proofs.spl_lists_proofs.NameWalks.{onward, onward_end}
use Rattle.spl_globals.specs.spl_sound.Spelled.{source_of}
use Rattle.spl_globals.specs.spl_places.declared.data.Datum as code
use Rattle.spl_globals.specs.spl_places.declared.places.Starts.{Starts}
use Rattle.spl_globals.specs.spl_places.ListedData.{datum_of}
use Rattle.spl_globals.specs.spl_places.Spots.{behind_item}
use Rattle.spl_globals.proofs.spl_places_proofs.DataWalks as lists
use Rattle.spl_globals.specs.declared.areas.Areas.{Areas}
use Rattle.spl_entries.specs.declared.place_type.Place.{Place}
use Rattle.spl_entries.specs.Entries.{parameter_entry, parameter_entries, item_entry, item_entries, inner_entries, subroutines_entries, entries_in, areas_behind, entries_among, areas_among, units_entries}

pub append_same : {A : Type 0} (xs ys zs : List A) → xs ++ ys ++ zs ≡ xs ++ (ys ++ zs)
append_same [] ys zs = refl
append_same (x ∷ xs) ys zs = ap (λ ws. x ∷ ws) (append_same xs ys zs)

-- ---- parameters

pub words_step : (list : List Formal) (i : ℕ) (f : Formal) → i < length list → f ≡ get_or list i f
    → formals_words (map formal_of (drop i list)) ≡ formal_words (formal_of f) + formals_words (map formal_of (drop (i + 1) list))
words_step list i f lt is = onward formal_of formals_words list i f lt is

pub words_end : (list : List Formal) (i : ℕ) → length list ≤ i → formals_words (map formal_of (drop i list)) ≡ 0
words_end list i le = onward_end formal_of formals_words list i le

pub parameter_step : (gap : ℕ) (list : List Formal) (i : ℕ) (f : Formal) → i < length list → f ≡ get_or list i f
    → parameter_entries gap (map formal_of (drop i list))
    ≡ parameter_entry (formal_of f).at (gap + formal_words (formal_of f) + formals_words (map formal_of (drop (i + 1) list)))
    ∷ parameter_entries gap (map formal_of (drop (i + 1) list))
parameter_step gap list i f lt is = onward formal_of (parameter_entries gap) list i f lt is

pub parameter_end : (gap : ℕ) (list : List Formal) (i : ℕ) → length list ≤ i → parameter_entries gap (map formal_of (drop i list)) ≡ []
parameter_end gap list i le = onward_end formal_of (parameter_entries gap) list i le

pub ruleset parameter_steps = (words_step, words_end, parameter_step, parameter_end)

minus : (w r : ℕ) → w + r - w ≡ r
minus w r = omega arith

-- a parameter more: the words from the next one on
pub left_more : (list : List Formal) (i : ℕ) (f : Formal) (left words : ℕ) → i < length list → f ≡ get_or list i f
    → left ≡ formals_words (map formal_of (drop i list)) → words ≡ formal_words (formal_of f) → left - words ≡ formals_words (map formal_of (drop (i + 1) list))
left_more list i f left words lt is here one =
    let rest = formals_words (map formal_of (drop (i + 1) list)) in
    ap (λ (m : ℕ). m - words) (here ∙ words_step list i f lt is) ∙ ap (λ (w : ℕ). formal_words (formal_of f) + rest - w) one
    ∙ minus (formal_words (formal_of f)) rest

-- and the places
pub parameter_more : (gap words rest from below : ℕ) (all new init : List Place) (place : Place) (list : List Formal) (i : ℕ) (f : Formal) → i < length list → f ≡ get_or list i f
    → words ≡ formal_words (formal_of f) → rest ≡ formals_words (map formal_of (drop (i + 1) list)) → from ≡ gap + words → below ≡ from + rest
    → place ≡ parameter_entry (formal_of f).at below → new ≡ all ++ place ∷ []
    → all ++ parameter_entries gap (map formal_of (drop i list)) ≡ init → new ++ parameter_entries gap (map formal_of (drop (i + 1) list)) ≡ init
parameter_more gap words rest from below all new init place list i f lt is one others start sum placed pushed old =
    let left = parameter_entries gap (map formal_of (drop (i + 1) list)) in
    ap (λ (xs : List Place). xs ++ left) pushed ∙ append_same all (place ∷ []) left
    ∙ ap (λ (e : Place). all ++ e ∷ left)
    (placed ∙ ap (parameter_entry (formal_of f).at)
    (sum ∙ ap (λ (m : ℕ). m + rest) start ∙ ap (λ (w : ℕ). gap + w + rest) one ∙ ap (λ (r : ℕ). gap + formal_words (formal_of f) + r) others))
    ∙ ap (λ (xs : List Place). all ++ xs) (sym (parameter_step gap list i f lt is)) ∙ old

-- ---- items

pub item_step : (at : Starts) (list : List code.Datum) (i : ℕ) (x : code.Datum) → i < length list → x ≡ get_or list i x
    → item_entries at (map datum_of (drop i list)) ≡ item_entry at (datum_of x) ∷ item_entries (behind_item at (datum_of x).sort) (map datum_of (drop (i + 1) list))
item_step at list i x lt is = onward datum_of (item_entries at) list i x lt is

pub item_end : (at : Starts) (list : List code.Datum) (i : ℕ) → length list ≤ i → item_entries at (map datum_of (drop i list)) ≡ []
item_end at list i le = onward_end datum_of (item_entries at) list i le

pub ruleset item_steps = (item_step, item_end)

pub ruleset listed_steps = (lists.item_step, lists.item_end, lists.behind_step, lists.behind_end)

-- ---- subroutines

pub inner_step : (list : List Decl) (i : ℕ) (d : Decl) → i < length list → d ≡ get_or list i d
    → subroutines_entries (declarations (map declaration (drop i list)))
    ≡ inner_entries (declaration d) ++ subroutines_entries (declarations (map declaration (drop (i + 1) list)))
inner_step list i d lt is = onward declaration (λ ds. subroutines_entries (declarations ds)) list i d lt is

pub inner_end : (list : List Decl) (i : ℕ) → length list ≤ i → subroutines_entries (declarations (map declaration (drop i list))) ≡ []
inner_end list i le = onward_end declaration (λ ds. subroutines_entries (declarations ds)) list i le

pub ruleset inner_steps = (inner_step, inner_end)

-- ---- lists of units

pub declaration_step : (outer here : Names) (at : Areas) (list : List Decl) (i : ℕ) (d : Decl) → i < length list → d ≡ get_or list i d
    → entries_among outer here at (declarations (map declaration (drop i list)))
    ≡ entries_in outer here at (declaration d)
    ++ entries_among outer (behind_declaration outer here (declaration d)) (areas_behind outer here at (declaration d)) (declarations (map declaration (drop (i + 1) list)))
declaration_step outer here at list i d lt is = onward declaration (λ ds. entries_among outer here at (declarations ds)) list i d lt is

pub declaration_end : (outer here : Names) (at : Areas) (list : List Decl) (i : ℕ) → length list ≤ i
    → entries_among outer here at (declarations (map declaration (drop i list))) ≡ []
declaration_end outer here at list i le = onward_end declaration (λ ds. entries_among outer here at (declarations ds)) list i le

pub areas_step : (outer here : Names) (at : Areas) (list : List Decl) (i : ℕ) (d : Decl) → i < length list → d ≡ get_or list i d
    → areas_among outer here at (declarations (map declaration (drop i list)))
    ≡ areas_among outer (behind_declaration outer here (declaration d)) (areas_behind outer here at (declaration d)) (declarations (map declaration (drop (i + 1) list)))
areas_step outer here at list i d lt is = onward declaration (λ ds. areas_among outer here at (declarations ds)) list i d lt is

pub areas_end : (outer here : Names) (at : Areas) (list : List Decl) (i : ℕ) → length list ≤ i
    → areas_among outer here at (declarations (map declaration (drop i list))) ≡ at
areas_end outer here at list i le = onward_end declaration (λ ds. areas_among outer here at (declarations ds)) list i le

pub ruleset unit_steps = (declaration_step, declaration_end, areas_step, areas_end)

-- a declaration more
pub places_more : (all new init : List Place) (outer here behind : Names) (at next : Areas) (list : List Decl) (i : ℕ) (d : Decl) → i < length list → d ≡ get_or list i d
    → behind ≡ behind_declaration outer here (declaration d) → next ≡ areas_behind outer here at (declaration d)
    → new ≡ all ++ entries_in outer here at (declaration d)
    → all ++ entries_among outer here at (declarations (map declaration (drop i list))) ≡ init
    → new ++ entries_among outer behind next (declarations (map declaration (drop (i + 1) list))) ≡ init
places_more all new init outer here behind at next list i d lt is names start places rest =
    let left = declarations (map declaration (drop (i + 1) list)) in
    ap (λ (xs : List Place). xs ++ entries_among outer behind next left) places
    ∙ append_same all (entries_in outer here at (declaration d)) (entries_among outer behind next left)
    ∙ ap (λ (b : Names). all ++ (entries_in outer here at (declaration d) ++ entries_among outer b next left)) names
    ∙ ap (λ (n : Areas). all ++ (entries_in outer here at (declaration d) ++ entries_among outer (behind_declaration outer here (declaration d)) n left)) start
    ∙ ap (λ (xs : List Place). all ++ xs) (sym (declaration_step outer here at list i d lt is)) ∙ rest

pub areas_more : (init : Areas) (outer here behind : Names) (at next : Areas) (list : List Decl) (i : ℕ) (d : Decl) → i < length list → d ≡ get_or list i d
    → behind ≡ behind_declaration outer here (declaration d) → next ≡ areas_behind outer here at (declaration d)
    → areas_among outer here at (declarations (map declaration (drop i list))) ≡ init
    → areas_among outer behind next (declarations (map declaration (drop (i + 1) list))) ≡ init
areas_more init outer here behind at next list i d lt is names start rest =
    let left = declarations (map declaration (drop (i + 1) list)) in
    ap (λ (b : Names). areas_among outer b next left) names
    ∙ ap (λ (n : Areas). areas_among outer (behind_declaration outer here (declaration d)) n left) start
    ∙ sym (areas_step outer here at list i d lt is) ∙ rest

-- ---- units

pub unit_step : (at : Areas) (list : List SplUnit) (i : ℕ) (u : SplUnit) → i < length list → u ≡ get_or list i u
    → units_entries at (map source_of (drop i list))
    ≡ entries_among nothing_declared nothing_declared at (declarations (map declaration u.items.items))
    ++ units_entries (areas_among nothing_declared nothing_declared at (declarations (map declaration u.items.items))) (map source_of (drop (i + 1) list))
unit_step at list i u lt is = onward source_of (units_entries at) list i u lt is

pub unit_end : (at : Areas) (list : List SplUnit) (i : ℕ) → length list ≤ i → units_entries at (map source_of (drop i list)) ≡ []
unit_end at list i le = onward_end source_of (units_entries at) list i le

pub ruleset program_steps = (unit_step, unit_end)

-- a unit more
pub units_more : (all new init : List Place) (at next : Areas) (list : List SplUnit) (i : ℕ) (u : SplUnit) → i < length list → u ≡ get_or list i u
    → next ≡ areas_among nothing_declared nothing_declared at (declarations (map declaration u.items.items))
    → new ≡ all ++ entries_among nothing_declared nothing_declared at (declarations (map declaration u.items.items))
    → all ++ units_entries at (map source_of (drop i list)) ≡ init → new ++ units_entries next (map source_of (drop (i + 1) list)) ≡ init
units_more all new init at next list i u lt is start places rest =
    let ds = declarations (map declaration u.items.items) in
    let left = map source_of (drop (i + 1) list) in
    ap (λ (xs : List Place). xs ++ units_entries next left) places
    ∙ append_same all (entries_among nothing_declared nothing_declared at ds) (units_entries next left)
    ∙ ap (λ (n : Areas). all ++ (entries_among nothing_declared nothing_declared at ds ++ units_entries n left)) start
    ∙ ap (λ (xs : List Place). all ++ xs) (sym (unit_step at list i u lt is)) ∙ rest
