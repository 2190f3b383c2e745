-- Loops over declarations and units: what is stored from one on, and where the next data start.
use Rattle.std.proofs.Common.{ℕ, ◌≡◌, ◌<◌, ◌≤◌, ◌+◌, Bool, List, [], ◌∷◌, ◌++◌, map, drop, length, get_or, sym, ap, ◌∙◌, zero-add, true}
use Rattle.std.proofs.Math.Nat.{add_assoc}
use Rattle.spl_tree.specs.declared.declarations.Decl.{Decl}
use Rattle.spl_tree.specs.declared.units.SplUnit.{SplUnit}
use Rattle.spl_tree.specs.DeclarationTrees.{declarations}
use Rattle.spl_tree.specs.Spells.{declaration}
use Rattle.spl_sorts.specs.spl_meaning.Names.{Names, Sort, nothing_declared}
use Rattle.spl_sorts.specs.spl_meaning.Places.{item_words, array_words, where_own}
use Rattle.spl_initials.specs.spl_found.OwnNames.{behind_declaration}
use Rattle.spl_initials.proofs.spl_lists_proofs.NameWalks.{onward, onward_end}
use Rattle.spl_areas.specs.spl_sound.Spelled.{source_of}
use Rattle.spl_initials.specs.spl_places.ListedData.{Datum}
use Rattle.spl_initials.specs.spl_places.Counters.{total_words}
use Rattle.spl_areas.specs.Gathered.{items_in, items_among}
use Rattle.spl_globals.specs.declared.stored.Pass.{Pass}
use Rattle.spl_globals.specs.declared.areas.Areas.{Areas}
use Rattle.spl_globals.specs.Stored.{Memory, declaration_stored, owns_stored, unit_stored, units_stored, behind_owns, behind_unit}

-- ---- procedures

pub own_step : (p : Pass) (here : Names) (own own_arrays : ℕ) (list : List Decl) (i : ℕ) (d : Decl) (mem : Memory) → i < length list → d ≡ get_or list i d
    → owns_stored p here own own_arrays (declarations (map declaration (drop i list))) mem
    ≡ owns_stored p (behind_declaration nothing_declared here (declaration d))
    (own + total_words true item_words (items_in (behind_declaration nothing_declared here (declaration d)) (declaration d)))
    (own_arrays + total_words true array_words (items_in (behind_declaration nothing_declared here (declaration d)) (declaration d)))
    (declarations (map declaration (drop (i + 1) list)))
    (declaration_stored p (behind_declaration nothing_declared here (declaration d)) own own_arrays (declaration d) mem)
own_step p here own own_arrays list i d mem lt is = onward declaration (λ ds. owns_stored p here own own_arrays (declarations ds) mem) list i d lt is

pub own_end : (p : Pass) (here : Names) (own own_arrays : ℕ) (list : List Decl) (i : ℕ) (mem : Memory) → length list ≤ i
    → owns_stored p here own own_arrays (declarations (map declaration (drop i list))) mem ≡ mem
own_end p here own own_arrays list i mem le = onward_end declaration (λ ds. owns_stored p here own own_arrays (declarations ds) mem) list i le

pub items_step : (here : Names) (list : List Decl) (i : ℕ) (d : Decl) → i < length list → d ≡ get_or list i d
    → items_among here (declarations (map declaration (drop i list)))
    ≡ items_in (behind_declaration nothing_declared here (declaration d)) (declaration d)
    ++ items_among (behind_declaration nothing_declared here (declaration d)) (declarations (map declaration (drop (i + 1) list)))
items_step here list i d lt is = onward declaration (λ ds. items_among here (declarations ds)) list i d lt is

pub items_end : (here : Names) (list : List Decl) (i : ℕ) → length list ≤ i → items_among here (declarations (map declaration (drop i list))) ≡ []
items_end here list i le = onward_end declaration (λ ds. items_among here (declarations ds)) list i le

pub ruleset own_steps = (own_step, own_end, items_step, items_end)

-- words of items one behind the other
pub total_both : (own : Bool) (words : Sort → ℕ) (xs ys : List Datum) → total_words own words (xs ++ ys) ≡ total_words own words xs + total_words own words ys
total_both own words [] ys = sym (zero-add (total_words own words ys))
total_both own words (x ∷ xs) ys =
    ap (λ (m : ℕ). where_own own words x.sort + m) (total_both own words xs ys)
    ∙ sym (add_assoc (where_own own words x.sort) (total_words own words xs) (total_words own words ys))

abbrev areas_with : Areas → ℕ → ℕ → Areas
areas_with at own own_arrays = record { primary = at.primary; secondary = at.secondary; own = own; own_arrays = own_arrays }

-- where the next data start, behind items and more
pub owns_both : (at : Areas) (xs ys : List Datum) → behind_owns at (xs ++ ys) ≡ behind_owns (behind_owns at xs) ys
owns_both at xs ys =
    ap (λ (m : ℕ). areas_with at (at.own + m) (at.own_arrays + total_words true array_words (xs ++ ys))) (total_both true item_words xs ys)
    ∙ ap (λ (m : ℕ). areas_with at m (at.own_arrays + total_words true array_words (xs ++ ys))) (sym (add_assoc at.own (total_words true item_words xs) (total_words true item_words ys)))
    ∙ ap (λ (m : ℕ). areas_with at (at.own + total_words true item_words xs + total_words true item_words ys) (at.own_arrays + m)) (total_both true array_words xs ys)
    ∙ ap (λ (m : ℕ). areas_with at (at.own + total_words true item_words xs + total_words true item_words ys) m)
    (sym (add_assoc at.own_arrays (total_words true array_words xs) (total_words true array_words ys)))

-- a declaration more
pub own_more : (p : Pass) (at next : Areas) (mem new init : Memory) (outer here behind : Names) (list : List Decl) (i : ℕ) (d : Decl) → i < length list → d ≡ get_or list i d
    → outer ≡ nothing_declared → behind ≡ behind_declaration outer here (declaration d)
    → new ≡ declaration_stored p behind at.own at.own_arrays (declaration d) mem → next ≡ behind_owns at (items_in behind (declaration d))
    → owns_stored p here at.own at.own_arrays (declarations (map declaration (drop i list))) mem ≡ init
    → owns_stored p behind next.own next.own_arrays (declarations (map declaration (drop (i + 1) list))) new ≡ init
own_more p at next mem new init outer here behind list i d lt is none names stored start rest =
    let left = declarations (map declaration (drop (i + 1) list)) in
    let one = declaration d in
    ap (λ (n : Areas). owns_stored p behind n.own n.own_arrays left new) start
    ∙ ap (λ (m : Memory). owns_stored p behind (at.own + total_words true item_words (items_in behind one)) (at.own_arrays + total_words true array_words (items_in behind one)) left m) stored
    ∙ ap (λ (b : Names). owns_stored p b (at.own + total_words true item_words (items_in b one)) (at.own_arrays + total_words true array_words (items_in b one)) left
    (declaration_stored p b at.own at.own_arrays one mem)) (names ∙ ap (λ (o : Names). behind_declaration o here one) none)
    ∙ sym (own_step p here at.own at.own_arrays list i d mem lt is) ∙ rest

pub next_more : (at next init : Areas) (outer here behind : Names) (list : List Decl) (i : ℕ) (d : Decl) → i < length list → d ≡ get_or list i d
    → outer ≡ nothing_declared → behind ≡ behind_declaration outer here (declaration d) → next ≡ behind_owns at (items_in behind (declaration d))
    → behind_owns at (items_among here (declarations (map declaration (drop i list)))) ≡ init
    → behind_owns next (items_among behind (declarations (map declaration (drop (i + 1) list)))) ≡ init
next_more at next init outer here behind list i d lt is none names start rest =
    let left = declarations (map declaration (drop (i + 1) list)) in
    let one = declaration d in
    ap (λ (n : Areas). behind_owns n (items_among behind left)) start
    ∙ sym (owns_both at (items_in behind one) (items_among behind left))
    ∙ ap (λ (b : Names). behind_owns at (items_in b one ++ items_among b left)) (names ∙ ap (λ (o : Names). behind_declaration o here one) none)
    ∙ ap (behind_owns at) (sym (items_step here list i d lt is)) ∙ rest

-- ---- units

pub unit_step : (p : Pass) (at : Areas) (list : List SplUnit) (i : ℕ) (u : SplUnit) (mem : Memory) → i < length list → u ≡ get_or list i u
    → units_stored p at (map source_of (drop i list)) mem
    ≡ units_stored p (behind_unit at (source_of u)) (map source_of (drop (i + 1) list)) (unit_stored p at (source_of u) mem)
unit_step p at list i u mem lt is = onward source_of (λ us. units_stored p at us mem) list i u lt is

pub unit_end : (p : Pass) (at : Areas) (list : List SplUnit) (i : ℕ) (mem : Memory) → length list ≤ i → units_stored p at (map source_of (drop i list)) mem ≡ mem
unit_end p at list i mem le = onward_end source_of (λ us. units_stored p at us mem) list i le

pub ruleset unit_steps = (unit_step, unit_end)

-- a unit more
pub unit_more : (p : Pass) (at next : Areas) (mem new init : Memory) (list : List SplUnit) (i : ℕ) (u : SplUnit) → i < length list → u ≡ get_or list i u
    → new ≡ unit_stored p at (source_of u) mem → next ≡ behind_unit at (source_of u)
    → units_stored p at (map source_of (drop i list)) mem ≡ init → units_stored p next (map source_of (drop (i + 1) list)) new ≡ init
unit_more p at next mem new init list i u lt is stored start rest =
    let left = map source_of (drop (i + 1) list) in
    ap (λ (n : Areas). units_stored p n left new) start ∙ ap (λ (m : Memory). units_stored p (behind_unit at (source_of u)) left m) stored
    ∙ sym (unit_step p at list i u mem lt is) ∙ rest
