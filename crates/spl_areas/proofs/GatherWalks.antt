-- Loops over declarations and units: the items of procedures, and the first limit, from one on.
use Rattle.std.proofs.Common.{ℕ, ◌≡◌, ◌<◌, ◌≤◌, ◌+◌, List, [], ◌∷◌, ◌++◌, map, drop, length, get_or, Option, Bool, false, refl, sym, ap, ◌∙◌}
use Rattle.std.specs.Prelude.{if◌then◌else◌}
use Rattle.spl_tree.specs.declared.declarations.Decl.{Decl}
use Rattle.spl_tree.specs.declared.units.SplUnit.{SplUnit}
use Rattle.spl_tree.specs.DeclarationTrees as decl
use Rattle.spl_tree.specs.DeclarationTrees.{Heading, Declaration, Declarations, declarations}
use Rattle.spl_tree.specs.Spells.{declaration}
use Rattle.spl_sound.specs.spl_meaning.Names.{Names, Sort, Table, find, nothing_declared}
use Rattle.spl_sound.specs.spl_meaning.Tables.{Source, Routine, with_declaration, routines_among, routine_in, routines_of}
use Rattle.spl_sound.specs.spl_meaning.Bodies.{all_routines}
use Rattle.spl_sound.specs.spl_meaning.Stops.{declaration_stops}
use Rattle.spl_sound.specs.spl_meaning.Limits.{Full, joined, first_among, local_limits}
use Rattle.spl_places.specs.spl_found.OwnNames.{behind_declaration}
use Rattle.spl_places.proofs.spl_found_proofs.OwnNames.{find_declaration}
use Rattle.spl_places.proofs.spl_lists_proofs.NameWalks.{onward, onward_end}
use Rattle.spl_sound.specs.Spelled.{source_of}
use Rattle.spl_places.specs.ListedData.{Datum, list_data}
use Rattle.spl_places.specs.Programs.{unit_items, routine_items, all_globals, all_locals, Each, NewInRoutine}
use Rattle.spl_places.proofs.CounterLaws.{among_both}
use Rattle.spl_places.proofs.ProgramLaws.{local_is}
use Rattle.spl_places.specs.Gathered.{items_in, items_among, passed_in, passed_among, passed_in_units}

append_same : {A : Type 0} (xs ys zs : List A) → xs ++ ys ++ zs ≡ xs ++ (ys ++ zs)
append_same [] ys zs = refl
append_same (x ∷ xs) ys zs = ap (λ ws. x ∷ ws) (append_same xs ys zs)

joined_both : {A B : Type 0} (f : A → List B) (xs ys : List A) → joined f (xs ++ ys) ≡ joined f xs ++ joined f ys
joined_both f [] ys = refl
joined_both f (x ∷ xs) ys = ap (λ zs. f x ++ zs) (joined_both f xs ys) ∙ sym (append_same (f x) (joined f xs) (joined f ys))

-- ---- the items of a unit's procedures

one_routine : (t : Table Sort) (m : ℕ) (d : Declaration) → items_in (find (with_declaration nothing_declared t d)) d ≡ joined routine_items (routine_in t m d)
one_routine t m (decl.Declaration.data_items own k items) = refl
one_routine t m (decl.Declaration.equate es) = refl
one_routine t m (decl.Declaration.intrinsic xs) = refl
one_routine t m (decl.Declaration.label xs) = refl
one_routine t m (decl.Declaration.forward h) = refl
one_routine t m (decl.Declaration.external h) = refl
one_routine t m (decl.Declaration.procedure h items ss) = sym (nothing_behind _)
  where
    nothing_behind : {A : Type 0} (xs : List A) → xs ++ [] ≡ xs
    nothing_behind [] = refl
    nothing_behind (x ∷ xs) = ap (λ ws. x ∷ ws) (nothing_behind xs)
one_routine t m (decl.Declaration.subroutine h s) = refl

pub routines_items : (t : Table Sort) (m : ℕ) (ds : Declarations) → items_among (find t) ds ≡ joined routine_items (routines_among t m ds)
routines_items t m decl.none = refl
routines_items t m (decl.and d ds) =
    let here = with_declaration nothing_declared t d in
    ap (λ (h : Names). items_in h d ++ items_among h ds) (sym (find_declaration nothing_declared t d))
    ∙ ap (λ (xs : List Datum). xs ++ items_among (find here) ds) (one_routine t m d)
    ∙ ap (λ (xs : List Datum). joined routine_items (routine_in t m d) ++ xs) (routines_items here (m + declaration_stops d) ds)
    ∙ sym (joined_both routine_items (routine_in t m d) (routines_among here (m + declaration_stops d) ds))

-- ---- walks

pub item_step : (here : Names) (list : List Decl) (i : ℕ) (d : Decl) → i < length list → d ≡ get_or list i d
    → items_among here (declarations (map declaration (drop i list)))
    ≡ items_in (behind_declaration nothing_declared here (declaration d)) (declaration d)
    ++ items_among (behind_declaration nothing_declared here (declaration d)) (declarations (map declaration (drop (i + 1) list)))
item_step here list i d lt is = onward declaration (λ ds. items_among here (declarations ds)) list i d lt is

pub item_end : (here : Names) (list : List Decl) (i : ℕ) → length list ≤ i → items_among here (declarations (map declaration (drop i list))) ≡ []
item_end here list i le = onward_end declaration (λ ds. items_among here (declarations ds)) list i le

pub ruleset item_steps = (item_step, item_end)

pub passed_step : (here : Names) (list : List Decl) (i : ℕ) (d : Decl) (f : Option Full) → i < length list → d ≡ get_or list i d
    → passed_among here (declarations (map declaration (drop i list))) f
    ≡ passed_among (behind_declaration nothing_declared here (declaration d)) (declarations (map declaration (drop (i + 1) list)))
    (passed_in (behind_declaration nothing_declared here (declaration d)) (declaration d) f)
passed_step here list i d f lt is = onward declaration (λ ds. passed_among here (declarations ds) f) list i d lt is

pub passed_end : (here : Names) (list : List Decl) (i : ℕ) (f : Option Full) → length list ≤ i → passed_among here (declarations (map declaration (drop i list))) f ≡ f
passed_end here list i f le = onward_end declaration (λ ds. passed_among here (declarations ds) f) list i le

pub ruleset passed_steps = (passed_step, passed_end)

-- globals of units
pub global_step : (list : List SplUnit) (i : ℕ) (u : SplUnit) → i < length list → u ≡ get_or list i u
    → all_globals (map source_of (drop i list)) ≡ unit_items (source_of u) ++ all_globals (map source_of (drop (i + 1) list))
global_step list i u lt is = onward source_of all_globals list i u lt is

pub global_end : (list : List SplUnit) (i : ℕ) → length list ≤ i → all_globals (map source_of (drop i list)) ≡ []
global_end list i le = onward_end source_of all_globals list i le

pub ruleset global_steps = (global_step, global_end)

-- the items of a unit's procedures, and of the units behind it
locals_more : (u : Source) (us : List Source) → all_locals (u ∷ us) ≡ items_among nothing_declared (declarations u.tree.items) ++ all_locals us
locals_more u us = joined_both routine_items (routines_of u) (all_routines us)
    ∙ ap (λ (xs : List Datum). xs ++ all_locals us) (sym (routines_items [] 0 (declarations u.tree.items)))

pub local_step : (list : List SplUnit) (i : ℕ) (u : SplUnit) → i < length list → u ≡ get_or list i u
    → all_locals (map source_of (drop i list)) ≡ items_among nothing_declared (declarations (map declaration u.items.items)) ++ all_locals (map source_of (drop (i + 1) list))
local_step list i u lt is = onward source_of all_locals list i u lt is ∙ locals_more (source_of u) (map source_of (drop (i + 1) list))

pub local_end : (list : List SplUnit) (i : ℕ) → length list ≤ i → all_locals (map source_of (drop i list)) ≡ []
local_end list i le = onward_end source_of all_locals list i le

pub ruleset local_steps = (local_step, local_end)

-- a declaration more
pub unit_more : (all new init : List Datum) (outer here behind : Names) (list : List Decl) (i : ℕ) (d : Decl) → i < length list → d ≡ get_or list i d
    → outer ≡ nothing_declared → behind ≡ behind_declaration outer here (declaration d) → new ≡ all ++ items_in behind (declaration d)
    → all ++ items_among here (declarations (map declaration (drop i list))) ≡ init
    → new ++ items_among behind (declarations (map declaration (drop (i + 1) list))) ≡ init
unit_more all new init outer here behind list i d lt is none names items rest =
    let left = declarations (map declaration (drop (i + 1) list)) in
    ap (λ (xs : List Datum). xs ++ items_among behind left) items
    ∙ append_same all (items_in behind (declaration d)) (items_among behind left)
    ∙ ap (λ (b : Names). all ++ (items_in b (declaration d) ++ items_among b left)) (names ∙ ap (λ (o : Names). behind_declaration o here (declaration d)) none)
    ∙ ap (λ (xs : List Datum). all ++ xs) (sym (item_step here list i d lt is)) ∙ rest

pub passed_more : (f g init : Option Full) (outer here behind : Names) (list : List Decl) (i : ℕ) (d : Decl) → i < length list → d ≡ get_or list i d
    → outer ≡ nothing_declared → behind ≡ behind_declaration outer here (declaration d) → g ≡ passed_in behind (declaration d) f
    → passed_among here (declarations (map declaration (drop i list))) f ≡ init
    → passed_among behind (declarations (map declaration (drop (i + 1) list))) g ≡ init
passed_more f g init outer here behind list i d lt is none names first rest =
    let left = declarations (map declaration (drop (i + 1) list)) in
    ap (λ (k : Option Full). passed_among behind left k) first
    ∙ ap (λ (b : Names). passed_among b left (passed_in b (declaration d) f)) (names ∙ ap (λ (o : Names). behind_declaration o here (declaration d)) none)
    ∙ sym (passed_step here list i d f lt is) ∙ rest

-- a unit more
pub units_more : (all new init : List Datum) (list : List SplUnit) (i : ℕ) (u : SplUnit) → i < length list → u ≡ get_or list i u
    → new ≡ all ++ items_among nothing_declared (declarations (map declaration u.items.items))
    → all ++ all_locals (map source_of (drop i list)) ≡ init → new ++ all_locals (map source_of (drop (i + 1) list)) ≡ init
units_more all new init list i u lt is items rest =
    let left = all_locals (map source_of (drop (i + 1) list)) in
    let first = items_among nothing_declared (declarations (map declaration u.items.items)) in
    ap (λ (xs : List Datum). xs ++ left) items ∙ append_same all first left
    ∙ ap (λ (xs : List Datum). all ++ xs) (sym (local_step list i u lt is)) ∙ rest

-- a unit that is no subprogram
pub globals_are : (u : SplUnit) → u.subprogram ≡ false → unit_items (source_of u) ≡ list_data nothing_declared nothing_declared (declarations (map declaration u.items.items))
globals_are u is = ap (λ (b : Bool). if b then [] else list_data nothing_declared (find []) (declarations (map declaration u.items.items))) is

pub unit_step : (list : List SplUnit) (i : ℕ) (u : SplUnit) (f : Option Full) → i < length list → u ≡ get_or list i u
    → passed_in_units (map source_of (drop i list)) f
    ≡ passed_in_units (map source_of (drop (i + 1) list)) (passed_among nothing_declared (declarations (map declaration u.items.items)) f)
unit_step list i u f lt is = onward source_of (λ us. passed_in_units us f) list i u lt is

pub unit_end : (list : List SplUnit) (i : ℕ) (f : Option Full) → length list ≤ i → passed_in_units (map source_of (drop i list)) f ≡ f
unit_end list i f le = onward_end source_of (λ us. passed_in_units us f) list i le

pub ruleset unit_steps = (unit_step, unit_end)

-- ---- the limits of procedures

each_first : {A : Type 0} (P : A → Type 0) (xs ys : List A) → Each P (xs ++ ys) → Each P xs
each_first P [] ys all = tt
each_first P (x ∷ xs) ys all = (all.0, each_first P xs ys all.1)

each_second : {A : Type 0} (P : A → Type 0) (xs ys : List A) → Each P (xs ++ ys) → Each P ys
each_second P [] ys all = all
each_second P (x ∷ xs) ys all = each_second P xs ys all.1

one_passed : (t : Table Sort) (m : ℕ) (d : Declaration) (f : Option Full) → Each NewInRoutine (routine_in t m d)
    → passed_in (find (with_declaration nothing_declared t d)) d f ≡ first_among f (joined local_limits (routine_in t m d))
one_passed t m (decl.Declaration.data_items own k items) f new = refl
one_passed t m (decl.Declaration.equate es) f new = refl
one_passed t m (decl.Declaration.intrinsic xs) f new = refl
one_passed t m (decl.Declaration.label xs) f new = refl
one_passed t m (decl.Declaration.forward h) f new = refl
one_passed t m (decl.Declaration.external h) f new = refl
one_passed t m (decl.Declaration.procedure h items ss) f new =
    let r : Routine = record { heading = h; items = items; statements = ss; globals = with_declaration nothing_declared t (decl.Declaration.procedure h items ss); before = m } in
    ap (first_among f) (sym (local_is r new.0)) ∙ sym (among_both f (local_limits r) [])
one_passed t m (decl.Declaration.subroutine h s) f new = refl

routines_passed : (t : Table Sort) (m : ℕ) (ds : Declarations) (f : Option Full) → Each NewInRoutine (routines_among t m ds)
    → passed_among (find t) ds f ≡ first_among f (joined local_limits (routines_among t m ds))
routines_passed t m decl.none f new = refl
routines_passed t m (decl.and d ds) f new =
    let here = with_declaration nothing_declared t d in
    let one = routine_in t m d in
    let rest = routines_among here (m + declaration_stops d) ds in
    ap (λ (h : Names). passed_among h ds (passed_in h d f)) (sym (find_declaration nothing_declared t d))
    ∙ ap (λ (g : Option Full). passed_among (find here) ds g) (one_passed t m d f (each_first NewInRoutine one rest new))
    ∙ routines_passed here (m + declaration_stops d) ds (first_among f (joined local_limits one)) (each_second NewInRoutine one rest new)
    ∙ sym (among_both f (joined local_limits one) (joined local_limits rest))
    ∙ ap (first_among f) (sym (joined_both local_limits one rest))

pub units_passed_is : (us : List Source) (f : Option Full) → Each NewInRoutine (all_routines us) → passed_in_units us f ≡ first_among f (joined local_limits (all_routines us))
units_passed_is [] f new = refl
units_passed_is (u ∷ us) f new =
    let rs = routines_of u in
    ap (passed_in_units us) (routines_passed [] 0 (declarations u.tree.items) f (each_first NewInRoutine rs (all_routines us) new))
    ∙ units_passed_is us (first_among f (joined local_limits rs)) (each_second NewInRoutine rs (all_routines us) new)
    ∙ sym (among_both f (joined local_limits rs) (joined local_limits (all_routines us)))
    ∙ ap (first_among f) (sym (joined_both local_limits rs (all_routines us)))
