-- The names of main bodies and procedures stand where the machine's modes reach.
-- 1. of units in order: what bounds their words              (units_near)
-- 2. the globals of a unit, and a main body                  (globals_near, main_near)
-- 3. a procedure, and those of a unit                        (procedure_near, routines_near)
use Rattle.std.proofs.Common.{ℕ, zero, suc, ◌≡◌, ◌+◌, ◌≤◌, ◌<◌, ◌⊎◌, inl, inr, nat_lt, Bool, true, false, if◌then◌else◌, List, [], ◌∷◌, ◌++◌, Some, None, is_some, refl, sym, ap, subst, ◌∙◌, arith}
use Rattle.std.specs.List.{slice_get}
use Rattle.std.proofs.lemmas.Bool.{ltb-true}
use Rattle.spl_sound_names.specs.spl_tree.declared.expressions.Kind.{Kind}
use Rattle.spl_sound_names.specs.spl_tree.DeclarationTrees.{declarations}
use Rattle.spl_sound_names.specs.spl_tree.StatementTrees.{statements}
use Rattle.spl_sound_names.specs.spl_meaning.References.{Setting}
use Rattle.spl_sound_names.specs.spl_meaning.Names.{Sort, Table, Profile, find, profile_of}
use Rattle.spl_sound_names.specs.spl_meaning.Tables.{Source, Routine, unit_table, routines_of, routine_table}
use Rattle.spl_sound_names.specs.spl_meaning.Places.{Place, data_word, above_base, below_base, place_of, sum, item_words, list_words, list_array_words, places_from}
use Rattle.spl_sound_names.specs.spl_meaning.Pending.{formals_words, result_words}
use Rattle.spl_sound_names.specs.spl_meaning.Bodies.{Named, Reached, reached_behind, own_table, all_routines, global_words, own_words, primary_words, parameter_places, result_place, result_by, marker_gap, procedure_body, named_bodies, main_body}
use Rattle.spl_sound_names.specs.spl_meaning.Limits.{most_primary, most_locals, most_parameters}
use Rattle.spl_sound_names.specs.spl_meaning.StatementRules.{body_faults}
use Rattle.spl_sound_names.specs.spl_meaning.DeclarationRules.{main_scope, globals_faults, silent_faults, unit_faults}
use Rattle.spl_sound_names.specs.spl_meaning.Sound.{all_faults, faults_behind}
use Rattle.spl_scopes.specs.Scopes.{Placed, first_reached, placed_units, global_places}
use Rattle.spl_fits.specs.spl_places.Apart.{Spot, Within, place_at}
use Rattle.spl_fits.specs.spl_places.Programs.{Each}
use Rattle.spl_fits.proofs.spl_places_proofs.ApartLaws.{within}
use Rattle.spl_fits.proofs.spl_places_proofs.SoundLaws.{sound_new}
use Rattle.spl_fits.specs.Fits.{RoutineFits}
use Rattle.spl_fits.proofs.FitLaws.{programs_fit}
use Rattle.spl_sound_names.proofs.Tables.{left_none, right_none}
use Rattle.spl_sound_names.proofs.Walks.{around_unit}
use Rattle.spl_sound_names.proofs.Units.{sound_none}
use Rattle.spl_near_places.specs.Near.{IsNear, PlacesAreNear}
use Rattle.spl_near_places.specs.Laws.{BodiesOfUnitsAreNear}
use Rattle.spl_near_places.proofs.Frames.{either, found_in, Below, parameter_below, of_kind, result_there}
use Rattle.spl_near_places.proofs.Lists.{EachSort, Kept, globals_each, own_none, words_none, kept_own, kept_words, Spotted, spot_of_place}

-- ---- 1. units

sum_both : (f : Routine → ℕ) (xs ys : List Routine) → sum f (xs ++ ys) ≡ sum f xs + sum f ys
sum_both f [] ys = by (sum f ys)
  where
    by : (n : ℕ) → n ≡ 0 + n
    by n = omega arith
sum_both f (x ∷ xs) ys = by (f x) (sum f (xs ++ ys)) (sum f xs) (sum f ys) (sum_both f xs ys)
  where
    by : (a b c d : ℕ) → b ≡ c + d → a + b ≡ a + c + d
    by a b c d e = omega (arith, e)

each_left : (P : Routine → Type 0) (xs ys : List Routine) → Each P (xs ++ ys) → Each P xs
each_left P [] ys all = tt
each_left P (x ∷ xs) ys all = (all.0, each_left P xs ys all.1)

each_right : (P : Routine → Type 0) (xs ys : List Routine) → Each P (xs ++ ys) → Each P ys
each_right P [] ys all = all
each_right P (x ∷ xs) ys all = each_right P xs ys all.1

-- a unit that breaks no rule, whose globals and OWN items end before a number, and each of whose procedures is within its limits
record UnitNear (m : ℕ) (p : Placed) : Type 0 where
  others : List Routine
  none : unit_faults others p.unit ≡ []
  primary : p.at.primary + list_words false (own_table p.unit) ≤ m
  own : p.at.own + sum (λ r. list_words true (routine_table r)) (routines_of p.unit) ≤ m
  fits : Each RoutineFits (routines_of p.unit)

placed_same : (p q : Placed) → Some p ≡ Some q → p ≡ q
placed_same p q is = cc

front_fits : (a w g m : ℕ) → a + (w + g) ≤ m → a + w ≤ m
front_fits a w g m h = omega arith

rest_fits : (a w g m : ℕ) → a + (w + g) ≤ m → a + w + g ≤ m
rest_fits a w g m h = omega arith

units_near : (at : Reached) (before us : List Source) (m : ℕ) → faults_behind before us ≡ [] → at.primary + global_words us ≤ m → at.own + own_words us ≤ m
    → Each RoutineFits (all_routines us) → (i : ℕ) (p : Placed) → slice_get (placed_units at us) i ≡ Some p → UnitNear m p
units_near at before [] m none primary own fits i p is = cc
units_near at before (u ∷ us) m none primary own fits zero p is =
    let w = list_words false (own_table u) in
    let s = sum (λ r. list_words true (routine_table r)) (routines_of u) in
    let all : at.own + (s + own_words us) ≤ m =
    subst (λ (n : ℕ). at.own + n ≤ m) (sum_both (λ r. list_words true (routine_table r)) (routines_of u) (all_routines us)) own in
    subst (UnitNear m) (placed_same (record { at = at; unit = u }) p is) (record {
      others = all_routines before ++ all_routines us;
      none = left_none (unit_faults (all_routines before ++ all_routines us) u) (faults_behind (before ++ u ∷ []) us) none;
      primary = front_fits at.primary w (global_words us) m primary;
      own = front_fits at.own s (own_words us) m all;
      fits = each_left RoutineFits (routines_of u) (all_routines us) fits;
    })
units_near at before (u ∷ us) m none primary own fits (suc i) p is =
    let w = list_words false (own_table u) in
    let s = sum (λ r. list_words true (routine_table r)) (routines_of u) in
    let all : at.own + (s + own_words us) ≤ m =
    subst (λ (n : ℕ). at.own + n ≤ m) (sum_both (λ r. list_words true (routine_table r)) (routines_of u) (all_routines us)) own in
    units_near (reached_behind u at) (before ++ u ∷ []) us m
    (right_none (unit_faults (all_routines before ++ all_routines us) u) (faults_behind (before ++ u ∷ []) us) none)
    (rest_fits at.primary w (global_words us) m primary) (rest_fits at.own s (own_words us) m all)
    (each_right RoutineFits (routines_of u) (all_routines us) fits) i p is

-- ---- 2. globals

-- a word of the primary area
pub record Primary (p : Place) : Type 0 where
  pub word : ℕ
  pub is : p ≡ data_word word
  pub few : word < most_primary

abbrev pub GlobalsNear : Table Place → Type 0
GlobalsNear globals = (x : List ℕ) (p : Place) → find globals x ≡ Some p → Primary p

primary_near : (st : Setting) (p : Place) → Primary p → IsNear st p
primary_near st p k = subst (IsNear st) (sym k.is) k.few

below_end : (word words from all most : ℕ) → nat_lt 0 words ≡ true → word + words ≤ from + all → from + all ≤ most → word < most
below_end word words from all most some ends fits = let h = ltb-true 0 words some in omega (arith, h, ends, fits)

pub no_room : {A : Type 0} (word words from all : ℕ) → nat_lt 0 words ≡ true → from ≤ word → word + words ≤ from + all → all ≡ 0 → A
no_room word words from all some begins ends none = let h = ltb-true 0 words some in absurd (omega (arith, h, begins, ends, none))

-- an item of a unit's list stands in the primary area: none is OWN, and a subprogram has none
global_spot : (primary : ℕ) (t : Table Sort) → list_words true t ≡ 0 → (list_words false t ≡ 0) ⊎ (primary + list_words false t ≤ most_primary)
    → (x : List ℕ) (p : Place) → Spotted data_word 0 primary t x p → Primary p
global_spot primary t none fits x p k = by k.item refl fits
  where
    inside : (s : Spot) → k.item ≡ s → Within 0 (0 + list_words true t) primary (primary + list_words false t) s
    inside s same = within 0 primary t x s (k.found ∙ ap Some same)

    words : (s : Spot) → k.item ≡ s → nat_lt 0 (item_words s.sort) ≡ true
    words s same = ap (λ (q : Spot). nat_lt 0 (item_words q.sort)) (sym same) ∙ k.words

    kept : (s : Spot) → k.item ≡ s → (b : Bool) → s.own ≡ b → (list_words false t ≡ 0) ⊎ (primary + list_words false t ≤ most_primary) → Primary p
    kept s same true is fit =
        let r = (inside s same).own is in no_room s.word (item_words s.sort) 0 (list_words true t) (words s same) r.0 r.1 none
    kept s same false is (inl empty) =
        let r = (inside s same).other is in no_room s.word (item_words s.sort) primary (list_words false t) (words s same) r.0 r.1 empty
    kept s same false is (inr room) = record {
      word = s.word;
      is = k.is ∙ ap (place_at data_word) same ∙ at_word s;
      few = let r = (inside s same).other is in
          below_end s.word (item_words s.sort) primary (list_words false t) most_primary (words s same) r.1 room;
    }
      where
        at_word : (q : Spot) → place_at data_word q ≡ data_word q.word
        at_word q = by_own q.own
          where
            by_own : (b : Bool) → place_of data_word b q.word q.word ≡ data_word q.word
            by_own true = refl
            by_own false = refl

    by : (s : Spot) → k.item ≡ s → (list_words false t ≡ 0) ⊎ (primary + list_words false t ≤ most_primary) → Primary p
    by s same fit = kept s same s.own refl fit

-- the globals of a unit that breaks no rule
globals_near : (m : ℕ) (p : Placed) → m ≤ most_primary → UnitNear m p → GlobalsNear (global_places p)
globals_near m p small u x q is =
    global_spot p.at.primary t (own_none t (kept_own sub t each)) (by sub refl each) x q (spot_of_place data_word 0 p.at.primary t x q is)
  where
    sub : Bool
    sub = p.unit.subprogram

    t : Table Sort
    t = unit_table p.unit

    each : EachSort (Kept sub) t
    each =
        let ds = declarations p.unit.tree.items in
        let lists = globals_faults (around_unit sub) (main_scope p.unit) u.others [] [] ds in
        let body = body_faults (main_scope p.unit) (statements p.unit.tree.statements) in
        let silent = if sub then silent_faults p.unit.tree.at p.unit.tree.statements else [] in
        globals_each sub (main_scope p.unit) u.others [] [] ds (left_none lists body (left_none (lists ++ body) silent u.none)) tt

    further : (a b c : ℕ) → a ≤ b → b ≤ c → a ≤ c
    further a b c h k = omega (arith, h, k)

    by : (b : Bool) → sub ≡ b → EachSort (Kept b) t → (list_words false t ≡ 0) ⊎ (p.at.primary + list_words false t ≤ most_primary)
    by true same all = inl (words_none false t (kept_words t all))
    by false same all =
        inr (further (p.at.primary + list_words false t) m most_primary
        (subst (λ (b : Bool). p.at.primary + list_words false (if b then [] else t) ≤ m) same u.primary) small)

main_near : (globals : Table Place) (u : Source) → GlobalsNear globals → PlacesAreNear (main_body globals u).here
main_near globals u near = record {
  places = λ x p is. primary_near (main_body globals u).here.setting p (near x p is);
  results = λ x k p is. cc;
}

-- ---- 3. procedures

local_spot : (st : Setting) (own : ℕ) (t : Table Sort) → own + list_words true t ≤ most_primary → list_words false t ≤ most_locals → (x : List ℕ) (p : Place)
    → Spotted above_base own 1 t x p → IsNear st p
local_spot st own t kept here x p k = by k.item.own refl
  where
    inside : Within own (own + list_words true t) 1 (1 + list_words false t) k.item
    inside = within own 1 t x k.item k.found

    at_most : (word words all most : ℕ) → nat_lt 0 words ≡ true → word + words ≤ 1 + all → all ≤ most → word ≤ most
    at_most word words all most some ends fits = let h = ltb-true 0 words some in omega (arith, h, ends, fits)

    by : (b : Bool) → k.item.own ≡ b → IsNear st p
    by true is =
        let r = inside.own is in
        subst (IsNear st) (sym (k.is ∙ ap (λ (b : Bool). place_of above_base b k.item.word k.item.word) is))
        (below_end k.item.word (item_words k.item.sort) own (list_words true t) most_primary k.words r.1 kept)
    by false is =
        let r = inside.other is in
        subst (IsNear st) (sym (k.is ∙ ap (λ (b : Bool). place_of above_base b k.item.word k.item.word) is))
        (r.0, at_most k.item.word (item_words k.item.sort) (list_words false t) most_locals k.words r.1 here)

frame_near : (st : Setting) (f r : ℕ) (p : Place) → st.below ≡ marker_gap + f + r → r + f ≤ most_parameters → Below below_base (marker_gap + f) p → IsNear st p
frame_near st f r p is few k =
    subst (IsNear st) (sym k.is) (first k.n f r k.few few, subst (λ (n : ℕ). k.n ≤ n) (sym is) (second k.n f r k.few))
  where
    first : (n f r : ℕ) → n ≤ 3 + f → r + f ≤ 59 → n ≤ 63
    first n f r a b = omega (arith, a, b)

    second : (n f r : ℕ) → n ≤ 3 + f → n ≤ 3 + f + r
    second n f r a = omega (arith, a)

result_near : (st : Setting) (f r : ℕ) (p : Place) → st.below ≡ marker_gap + f + r → r + f ≤ most_parameters → p ≡ below_base (marker_gap + f + r) → IsNear st p
result_near st f r p is few there =
    subst (IsNear st) (sym there) (first f r few, subst (λ (n : ℕ). marker_gap + f + r ≤ n) (sym is) (all (marker_gap + f + r)))
  where
    first : (f r : ℕ) → r + f ≤ 59 → 3 + f + r ≤ 63
    first f r a = omega (arith, a)

    all : (n : ℕ) → n ≤ n
    all n = omega arith

pub procedure_near : (globals : Table Place) (own own_arrays : ℕ) (r : Routine) → GlobalsNear globals → RoutineFits r → own + list_words true (routine_table r) ≤ most_primary
    → PlacesAreNear (procedure_body globals own own_arrays r).here
procedure_near globals own own_arrays r near fits kept = record {
  places = λ x p is. by_place x p (either (find (params ++ items) x) (find globals x) p is);
  results = λ x k p is. by_result x k p (is_some (find (routine_table r) r.heading.name)) is;
}
  where
    profile : Profile
    profile = profile_of r.heading

    st : Setting
    st = (procedure_body globals own own_arrays r).here.setting

    params : Table Place
    params = parameter_places below_base marker_gap profile.formals

    items : Table Place
    items = places_from above_base own 1 (routine_table r)

    by_list : (x : List ℕ) (p : Place) → (find params x ≡ Some p) ⊎ (find items x ≡ Some p) → IsNear st p
    by_list x p (inl here) =
        frame_near st (formals_words profile.formals) (result_words profile) p refl fits.heading (parameter_below below_base marker_gap profile.formals x p here)
    by_list x p (inr here) = local_spot st own (routine_table r) kept fits.locals x p (spot_of_place above_base own 1 (routine_table r) x p here)

    by_place : (x : List ℕ) (p : Place) → (find (params ++ items) x ≡ Some p) ⊎ (find globals x ≡ Some p) → IsNear st p
    by_place x p (inl here) = by_list x p (found_in params items x p here)
    by_place x p (inr there) = primary_near st p (near x p there)

    by_result : (x : List ℕ) (k : Kind) (p : Place) (b : Bool)
        → (if b then None else result_by r.heading.name profile.result (result_place below_base marker_gap profile) x) ≡ of_kind k p → IsNear st p
    by_result x k p true is = cc
    by_result x k p false is =
        result_near st (formals_words profile.formals) (result_words profile) p refl fits.heading
        (result_there r.heading.name profile.result (result_place below_base marker_gap profile) x k p is)

named_same : (a b : Named) → Some a ≡ Some b → a ≡ b
named_same a b is = cc

routines_near : (globals : Table Place) → GlobalsNear globals → (own own_arrays : ℕ) (rs : List Routine) → Each RoutineFits rs
    → own + sum (λ r. list_words true (routine_table r)) rs ≤ most_primary → (j : ℕ) (b : Named) → slice_get (named_bodies globals own own_arrays rs) j ≡ Some b
    → PlacesAreNear b.body.here
routines_near globals near own own_arrays [] fits room j b is = cc
routines_near globals near own own_arrays (r ∷ rs) fits room zero b is =
    let s = sum (λ q. list_words true (routine_table q)) rs in
    subst (λ (n : Named). PlacesAreNear n.body.here)
    (named_same (record { name = r.heading.name; body = procedure_body globals own own_arrays r }) b is)
    (procedure_near globals own own_arrays r near fits.0 (front_fits own (list_words true (routine_table r)) s most_primary room))
routines_near globals near own own_arrays (r ∷ rs) fits room (suc j) b is =
    let s = sum (λ q. list_words true (routine_table q)) rs in
    routines_near globals near (own + list_words true (routine_table r)) (own_arrays + list_array_words true (routine_table r)) rs fits.1
    (rest_fits own (list_words true (routine_table r)) s most_primary room) j b is

pub bodies_near : BodiesOfUnitsAreNear
bodies_near us sound limits i p is =
    let fits = programs_fit us (sound_new us sound) limits in
    let m = primary_words us in
    let u = units_near (first_reached us) [] us m (sound_none us (all_faults us) refl sound) (less_left (global_words us) (own_words us))
    (all_of (global_words us + own_words us)) fits.routines i p is in
    let globals = globals_near m p fits.primary u in
    record {
      main = main_near (global_places p) p.unit globals;
      routines = λ j b at. routines_near (global_places p) globals p.at.own p.at.own_arrays (routines_of p.unit) u.fits (further _ m most_primary u.own fits.primary) j b at;
    }
  where
    less_left : (a b : ℕ) → 0 + a ≤ a + b
    less_left a b = omega arith

    all_of : (n : ℕ) → n ≤ n
    all_of n = omega arith

    further : (a b c : ℕ) → a ≤ b → b ≤ c → a ≤ c
    further a b c h k = omega (arith, h, k)
