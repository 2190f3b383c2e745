-- A program that passes no limit has its sums within them.
use Rattle.std.proofs.Common.{ℕ, ◌≡◌, ◌≤◌, ◌+◌, Bool, true, false, nat_lt, List, [], ◌∷◌, ◌++◌, Some, None, refl, sym, ap, subst, ◌∙◌, arith, zero-add}
use Rattle.std.specs.Prelude.{if◌then◌else◌}
use Rattle.std.proofs.Math.Nat.{add_assoc}
use Rattle.std.proofs.lemmas.Bool.{ltb-false}
use Rattle.spl_globals.specs.spl_meaning.Names.{Sort, find}
use Rattle.spl_globals.specs.spl_meaning.Tables.{Source, Routine, routine_table, routines_of, routine_names, routine_subroutines, unit_table, unit_subroutines}
use Rattle.spl_globals.specs.spl_meaning.Places.{item_words, array_words, where_own, sum, list_words, list_array_words}
use Rattle.spl_globals.specs.spl_meaning.Bodies.{all_routines, primary_words, data_words, own_words}
use Rattle.spl_globals.specs.spl_meaning.Faults.{fault, is_before}
use Rattle.spl_globals.specs.spl_meaning.Limits.{Full, Sized, passing, joined, first_among, all_limits, global_limits, local_limits, heading_limits, subroutine_limits, routine_limits, unit_limits, most_primary, most_locals, most_data}
use Rattle.spl_depths.proofs.HeadingLaws.{few_in_heading}
use Rattle.spl_globals.specs.spl_places.ListedData.{Datum}
use Rattle.spl_globals.specs.spl_places.Counters.{sizes, total_words}
use Rattle.spl_globals.specs.spl_places.Programs.{routine_items, all_globals, all_locals, Each, NewInRoutine, NewInAll}
use Rattle.spl_globals.proofs.spl_places_proofs.ApartLaws.{within}
use Rattle.spl_globals.proofs.spl_places_proofs.ProgramLaws.{routine_held, item_words_held, array_words_held, unit_totals, routine_totals, global_is, local_is}
use Rattle.spl_globals.proofs.StoredLaws.{words_found}
use Rattle.spl_fits.specs.Fits.{RoutineFits, ProgramsFit, LocalsFit}

-- ---- no limit

left_none : {A : Type 0} (xs ys : List A) → xs ++ ys ≡ [] → xs ≡ []
left_none [] ys is = refl
left_none (x ∷ xs) ys is = cc

right_none : {A : Type 0} (xs ys : List A) → xs ++ ys ≡ [] → ys ≡ []
right_none [] ys is = is
right_none (x ∷ xs) ys is = cc

still_some : (g : Full) (fs : List Full) → first_among (Some g) fs ≡ None → ⊥
still_some g [] is = cc
still_some g (f ∷ fs) is = by (λ h. still_some h fs) (is_before (fault f.limit f.at) (fault g.limit g.at)) is
  where
    by : ((h : Full) → first_among (Some h) fs ≡ None → ⊥) → (b : Bool) → first_among (if b then Some f else Some g) fs ≡ None → ⊥
    by others true e = others f e
    by others false e = others g e

none_first : (fs : List Full) → first_among None fs ≡ None → fs ≡ []
none_first [] is = refl
none_first (f ∷ fs) is = absurd (still_some f fs is)

-- ---- sums

abbrev sizes_words : List Sized → ℕ
sizes_words xs = sum (λ x. x.words) xs

step : (m n w s : ℕ) (here : Full) (more same : List Full) (a b : Bool) → nat_lt 0 w ≡ a → nat_lt m (n + w) ≡ b
    → (n + w ≤ m → more ≡ [] → n + w + s ≤ m) → (same ≡ [] → n + s ≤ m) → (if a then (if b then here ∷ [] else more) else same) ≡ [] → n + (w + s) ≤ m
step m n w s here more same true true p q f g is = cc
step m n w s here more same true false p q f g is = let r = f (ltb-false m (n + w) q) is in omega arith
step m n w s here more same false b p q f g is = let none = ltb-false 0 w p in let r = g is in omega arith

-- where nothing passes, the whole sum is within the number
none_passed : (l m n : ℕ) (xs : List Sized) → n ≤ m → passing l m n xs ≡ [] → n + sizes_words xs ≤ m
none_passed l m n [] le is = omega arith
none_passed l m n (x ∷ xs) le is =
    step m n x.words (sizes_words xs) (record { limit = l; at = x.at; count = n + x.words }) (passing l m (n + x.words) xs) (passing l m n xs)
    (nat_lt 0 x.words) (nat_lt m (n + x.words)) refl refl (λ k e. none_passed l m (n + x.words) xs k e) (λ e. none_passed l m n xs le e) is

sum_both : (xs ys : List Sized) → sizes_words (xs ++ ys) ≡ sizes_words xs + sizes_words ys
sum_both [] ys = sym (zero-add (sizes_words ys))
sum_both (x ∷ xs) ys = ap (λ (n : ℕ). x.words + n) (sum_both xs ys) ∙ sym (add_assoc x.words (sizes_words xs) (sizes_words ys))

sum_sizes : (own : Bool) (words : Sort → ℕ) (ds : List Datum) → sizes_words (sizes own words ds) ≡ total_words own words ds
sum_sizes own words [] = refl
sum_sizes own words (d ∷ ds) = ap (λ (n : ℕ). where_own own words d.sort + n) (sum_sizes own words ds)

two_passed : (l m n : ℕ) (xs ys : List Sized) → n ≤ m → passing l m n (xs ++ ys) ≡ [] → n + (sizes_words xs + sizes_words ys) ≤ m
two_passed l m n xs ys le is = subst (λ (k : ℕ). n + k ≤ m) (sum_both xs ys) (none_passed l m n (xs ++ ys) le is)

-- ---- procedures

locals_within : (r : Routine) → NewInRoutine r → local_limits r ≡ []
    → (list_words false (routine_table r) ≤ most_locals) × (list_words false (routine_table r) + list_array_words false (routine_table r) ≤ most_data)
locals_within r new none =
    let ds = routine_items r in
    let t = total_words false item_words ds in
    let a = total_words false array_words ds in
    let both = sym (local_is r new) ∙ none in
    let first = passing 2 most_locals 0 (sizes false item_words ds) in
    let second = passing 4 most_data t (sizes false array_words ds) in
    let items = none_passed 2 most_locals 0 (sizes false item_words ds) (omega arith) (left_none first second both) in
    let few : t ≤ most_locals = subst (λ (k : ℕ). k ≤ most_locals) (zero-add t) (subst (λ (k : ℕ). 0 + k ≤ most_locals) (sum_sizes false item_words ds) items) in
    let arrays = none_passed 4 most_data t (sizes false array_words ds) (omega arith) (right_none first second both) in
    let all : t + a ≤ most_data = subst (λ (k : ℕ). t + k ≤ most_data) (sum_sizes false array_words ds) arrays in
    let is = routine_held r new in
    let words = sym (item_words_held false (routine_table r) ds is) in
    let arrays_are = sym (array_words_held false (routine_table r) ds is) in
    (subst (λ (k : ℕ). k ≤ most_locals) words few, subst (λ (k : ℕ). k + list_array_words false (routine_table r) ≤ most_data) words (subst (λ (k : ℕ). t + k ≤ most_data) arrays_are all))

routine_fits : (r : Routine) → NewInRoutine r → routine_limits r ≡ [] → RoutineFits r
routine_fits r new none =
    let heads = heading_limits r.heading in
    let locals = local_limits r in
    let first = left_none (heads ++ locals) (joined (subroutine_limits (routine_names r)) (routine_subroutines r)) none in
    let both = locals_within r new (right_none heads locals first) in
    record { locals = both.0; words = both.1; heading = few_in_heading r.heading (left_none heads locals first) }

routines_fit : (rs : List Routine) → Each NewInRoutine rs → joined routine_limits rs ≡ [] → Each RoutineFits rs
routines_fit [] new none = tt
routines_fit (r ∷ rs) new none = (
  routine_fits r new.0 (left_none (routine_limits r) (joined routine_limits rs) none),
  routines_fit rs new.1 (right_none (routine_limits r) (joined routine_limits rs) none),
)

each_first : {A : Type 0} (P : A → Type 0) (xs ys : List A) → Each P (xs ++ ys) → Each P xs
each_first P [] ys all = tt
each_first P (x ∷ xs) ys all = (all.0, each_first P xs ys all.1)

each_second : {A : Type 0} (P : A → Type 0) (xs ys : List A) → Each P (xs ++ ys) → Each P ys
each_second P [] ys all = all
each_second P (x ∷ xs) ys all = each_second P xs ys all.1

each_both : {A : Type 0} (P : A → Type 0) (xs ys : List A) → Each P xs → Each P ys → Each P (xs ++ ys)
each_both P [] ys first second = second
each_both P (x ∷ xs) ys first second = (first.0, each_both P xs ys first.1 second)

units_fit : (us : List Source) → Each NewInRoutine (all_routines us) → joined unit_limits us ≡ [] → Each RoutineFits (all_routines us)
units_fit [] new none = tt
units_fit (u ∷ us) new none =
    let of_u = left_none (unit_limits u) (joined unit_limits us) none in
    let routines = left_none (joined routine_limits (routines_of u)) (joined (subroutine_limits (find (unit_table u))) (unit_subroutines u)) of_u in
    each_both RoutineFits (routines_of u) (all_routines us)
    (routines_fit (routines_of u) (each_first NewInRoutine (routines_of u) (all_routines us) new) routines)
    (units_fit us (each_second NewInRoutine (routines_of u) (all_routines us) new) (right_none (unit_limits u) (joined unit_limits us) none))

-- ---- globals

globals_within : (us : List Source) → NewInAll us → global_limits us ≡ [] → (primary_words us ≤ most_primary) × (data_words us ≤ most_data)
globals_within us new none =
    let gs = all_globals us in
    let ls = all_locals us in
    let g = total_words false item_words gs in
    let o = total_words true item_words ls in
    let a = total_words false array_words gs in
    let b = total_words true array_words ls in
    let both = sym (global_is us new) ∙ none in
    let first = passing 1 most_primary 0 (sizes false item_words gs ++ sizes true item_words ls) in
    let second = passing 4 most_data (g + o) (sizes false array_words gs ++ sizes true array_words ls) in
    let items = two_passed 1 most_primary 0 (sizes false item_words gs) (sizes true item_words ls) (omega arith) (left_none first second both) in
    let few : 0 + (g + o) ≤ most_primary =
    subst (λ (k : ℕ). 0 + (g + k) ≤ most_primary) (sum_sizes true item_words ls)
    (subst (λ (k : ℕ). 0 + (k + sizes_words (sizes true item_words ls)) ≤ most_primary) (sum_sizes false item_words gs) items) in
    let some : g + o ≤ most_primary = subst (λ (k : ℕ). k ≤ most_primary) (zero-add (g + o)) few in
    let arrays = two_passed 4 most_data (g + o) (sizes false array_words gs) (sizes true array_words ls) (omega arith) (right_none first second both) in
    let all : g + o + (a + b) ≤ most_data =
    subst (λ (k : ℕ). g + o + (a + k) ≤ most_data) (sum_sizes true array_words ls)
    (subst (λ (k : ℕ). g + o + (k + sizes_words (sizes true array_words ls)) ≤ most_data) (sum_sizes false array_words gs) arrays) in
    let sums : g + o + a + b ≤ most_data = subst (λ (k : ℕ). k ≤ most_data) (sym (add_assoc (g + o) a b)) all in (
      subst (λ (k : ℕ). k + own_words us ≤ most_primary) (sym (unit_totals us new.0)) (subst (λ (k : ℕ). g + k ≤ most_primary) (sym (routine_totals (all_routines us) new.1)) some),
      subst (λ (k : ℕ). k ≤ most_data) (words_found us new) sums,
    )

pub programs_fit : ProgramsFit
programs_fit us new none =
    let nothing = none_first (all_limits us) none in
    let globals = globals_within us new (left_none (global_limits us) (joined unit_limits us) nothing) in
    record { primary = globals.0; data_area = globals.1; routines = units_fit us new.1 (right_none (global_limits us) (joined unit_limits us) nothing) }

-- ---- items

pub locals_fit : LocalsFit
locals_fit own r x p fits is other =
    let w = within own 1 (routine_table r) x p is in
    let here = w.other other in
    let few = fits.locals in
    (here.0, omega (arith, here.1, few))
