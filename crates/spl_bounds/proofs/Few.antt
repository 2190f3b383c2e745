-- The names of a program's segments are among those that its units use, so that each segment has at most as many words as the greatest bound.
use Rattle.std.proofs.Common.{◌≡◌, ◌≤◌, ℕ, zero, suc, ◌+◌, ◌||◌, nat_eq, Bool, true, false, if◌then◌else◌, List, [], ◌∷◌, ◌++◌, map, length, Some, refl, sym, ap, subst, ◌∙◌, arith}
use Rattle.std.specs.Prelude.{max}
use Rattle.std.specs.List.{slice_get}
use Rattle.std.specs.Cmp.Lexicographic.{pointwise}
use Rattle.std.proofs.Math.Nat.{le-max_left, le-max_right}
use Rattle.spl_carries.specs.hp_program.Programs.{words_of}
use Rattle.spl_carries.specs.spl_meaning.Tables.{Source}
use Rattle.spl_carries.specs.spl_meaning.Bodies.{Reached, reached_behind}
use Rattle.spl_carries.specs.spl_meaning.Bound.{bound}
use Rattle.spl_module_words.specs.spl_branch.declared.modules.Module.{Module}
use Rattle.spl_called_names.specs.spl_scopes.Scopes.{Placed, first_reached, placed_units}
use Rattle.spl_module_words.specs.spl_module_code.Modules.{AreOfUnit, AreOf, program_uses}
use Rattle.spl_module_words.specs.spl_module_code.Modules.{AreOfUnit as u}
use Rattle.spl_module_words.specs.spl_module_code.Modules.{AreOf as a}
use Rattle.spl_module_words.specs.mpe_segmenter.Names.{is_among, with_name, segment_of, names_from, segment_names, Part, part_from, parts}
use Rattle.spl_module_words.specs.mpe_segmenter.Counts.{table_size, sizes}
use Rattle.spl_module_words.specs.mpe_segmenter.Programs.{tables_of, part_words}
use Rattle.spl_module_words.proofs.mpe_segmenter_proofs.PartLemmas.{equal_is}
use Rattle.spl_module_words.proofs.mpe_segmenter_proofs.NameLemmas.{same_self}
use Rattle.spl_bounds.specs.Bounds.{PartsKeepBounds}
use Rattle.spl_bounds.specs.Programs.{greatest_bound, most_words, SegmentsHaveFewWords}
use Rattle.spl_bounds.proofs.Modules.{module_segment}

-- all these names are among those
AllAmong : List (List ℕ) → List (List ℕ) → Type 0
AllAmong names xs = (q : List ℕ) → is_among q xs ≡ true → is_among q names ≡ true

pushed : (names xs : List (List ℕ)) (y : List ℕ) → AllAmong names xs → is_among y names ≡ true → AllAmong names (with_name xs y)
unfolding AllAmong
pushed names xs y all there = by (is_among y xs)
  where
    last : (xs : List (List ℕ)) (q : List ℕ) → is_among q (xs ++ y ∷ []) ≡ true → (is_among q xs ≡ true → is_among q names ≡ true) → is_among q names ≡ true
    last [] q h old = one (pointwise nat_eq q y) refl h
      where
        one : (b : Bool) → pointwise nat_eq q y ≡ b → (b || false) ≡ true → is_among q names ≡ true
        one true is h = subst (λ (z : List ℕ). is_among z names ≡ true) (sym (equal_is q y is)) there
        one false is h = cc
    last (x ∷ xs) q h old = one (pointwise nat_eq q x) h old (λ e more. last xs q e more)
      where
        one : (b : Bool) → (b || is_among q (xs ++ y ∷ [])) ≡ true → ((b || is_among q xs) ≡ true → is_among q names ≡ true)
            → (is_among q (xs ++ y ∷ []) ≡ true → (is_among q xs ≡ true → is_among q names ≡ true) → is_among q names ≡ true) → is_among q names ≡ true
        one true h old rest = old refl
        one false h old rest = rest h old

    by : (b : Bool) (q : List ℕ) → is_among q (if b then xs else xs ++ y ∷ []) ≡ true → is_among q names ≡ true
    by true q h = all q h
    by false q h = last xs q h (all q)

here : (names : List (List ℕ)) (name : List ℕ) (rest : List (List ℕ)) → AllAmong names (name ∷ rest) → is_among name names ≡ true
unfolding AllAmong
here names name rest all = all name (ap (λ (b : Bool). b || is_among name rest) (same_self name))

behind : (names : List (List ℕ)) (name : List ℕ) (rest : List (List ℕ)) → AllAmong names (name ∷ rest) → AllAmong names rest
unfolding AllAmong
behind names name rest all q h = all q (by (pointwise nat_eq q name) h)
  where
    by : (b : Bool) → is_among q rest ≡ true → (b || is_among q rest) ≡ true
    by true h = refl
    by false h = h

-- the modules of a unit along some of the names
unit_among : (p : Placed) (names : List (List ℕ)) (taken : List ℕ) (rest xs : List (List ℕ)) (ms : List Module) → AllAmong names xs → AllAmong names rest
    → AreOfUnit p taken rest ms → AllAmong names (names_from xs ms)
unit_among p names taken [] xs _ all left u.none = all
unit_among p names taken (name ∷ rest) xs _ all left (u.more {g = g} {m = m} {ms = ms} at of others) =
    unit_among p names (g ∷ taken) rest (with_name xs (segment_of m)) ms
    (pushed names xs (segment_of m) all (subst (λ (z : List ℕ). is_among z names ≡ true) (sym (module_segment p name g m of)) (here names name rest left))) (behind names name rest left) others
unit_among p names taken (name ∷ rest) xs ms all left (u.skip at others) = unit_among p names taken rest xs ms all (behind names name rest left) others

names_both : (xs : List (List ℕ)) (ms ns : List Module) → names_from xs (ms ++ ns) ≡ names_from (names_from xs ms) ns
names_both xs [] ns = refl
names_both xs (m ∷ ms) ns = names_both (with_name xs (segment_of m)) ms ns

units_among : (names xs : List (List ℕ)) (at : Reached) (us : List Source) (ms : List Module) → AllAmong names xs → AllAmong names names → AreOf names (placed_units at us) ms
    → AllAmong names (names_from xs ms)
units_among names xs at [] _ all whole a.none = all
units_among names xs at (s ∷ us) _ all whole (a.more {ms = ms} {ns = ns} one others) =
    subst (AllAmong names) (sym (names_both xs ms ns))
    (units_among names (names_from xs ms) (reached_behind s at) us ns (unit_among (record { at = at; unit = s }) names [] names xs ms all whole one) whole others)

all_among : (us : List Source) (ms : List Module) → AreOf (program_uses us) (placed_units (first_reached us) us) ms → AllAmong (program_uses us) (segment_names ms)
unfolding AllAmong
all_among us ms are = units_among (program_uses us) [] (first_reached us) us ms (λ q h. nothing q h) (λ q h. h) are
  where
    nothing : (q : List ℕ) → is_among q [] ≡ true → is_among q (program_uses us) ≡ true
    nothing q h = cc

bound_among : (us : List Source) (xs : List (List ℕ)) (q : List ℕ) → is_among q xs ≡ true → bound us q ≤ greatest_bound us xs
bound_among us [] q h = cc
bound_among us (x ∷ xs) q h = by (pointwise nat_eq q x) refl h (λ e. bound_among us xs q e)
  where
    by : (b : Bool) → pointwise nat_eq q x ≡ b → (b || is_among q xs) ≡ true → (is_among q xs ≡ true → bound us q ≤ greatest_bound us xs)
        → bound us q ≤ max (bound us x) (greatest_bound us xs)
    by true is h rest = subst (λ (z : List ℕ). bound us z ≤ max (bound us x) (greatest_bound us xs)) (sym (equal_is q x is)) (le-max_left (bound us x) (greatest_bound us xs))
    by false is h rest = further (bound us q) (greatest_bound us xs) (max (bound us x) (greatest_bound us xs)) (rest h) (le-max_right (bound us x) (greatest_bound us xs))
      where
        further : (a b c : ℕ) → a ≤ b → b ≤ c → a ≤ c
        further a b c le more = omega (arith, le, more)

part_among : (ms : List Module) (names : List (List ℕ)) (s : ℕ) (q : Part) → slice_get (map (part_from ms) names) s ≡ Some q → is_among q.name names ≡ true
part_among ms [] s q is = cc
part_among ms (x ∷ names) zero q is =
    let same : part_from ms x ≡ q = cc in
    subst (λ (p : Part). is_among p.name (x ∷ names) ≡ true) same (ap (λ (b : Bool). b || is_among x names) (same_self x))
part_among ms (x ∷ names) (suc s) q is = by (pointwise nat_eq q.name x) (part_among ms names s q is)
  where
    by : (b : Bool) → is_among q.name names ≡ true → (b || is_among q.name names) ≡ true
    by true h = refl
    by false h = h

-- a segment is that of a part, or there is none
words_there : (ps : List Part) (f : Part → List ℕ) (s n : ℕ) → ((q : Part) → slice_get ps s ≡ Some q → length (words_of (map f ps) s) ≤ n) → length (words_of (map f ps) s) ≤ n
words_there [] f s n h = least n
  where
    least : (n : ℕ) → 0 ≤ n
    least n = omega arith
words_there (p ∷ ps) f zero n h = h p refl
words_there (p ∷ ps) f (suc s) n h = words_there ps f s n (λ q is. h q is)

pub segments_few : PartsKeepBounds → SegmentsHaveFewWords
unfolding AllAmong
segments_few keep us ms globals p s of =
    subst (λ (ss : List (List ℕ)). length (words_of ss s) ≤ most_words us) (sym of.makes.segments)
    (words_there (parts ms) (part_words (tables_of (parts ms))) s (most_words us) (λ q there.
    let size = ap (λ (ss : List (List ℕ)). length (words_of ss s)) (sym of.makes.segments) ∙ of.links.size s q there in
    let kept = keep us ms s q of.sound of.spelled of.within of.are_modules there in
    let among = all_among us ms of.are_modules q.name (part_among ms (segment_names ms) s q there) in
    let most = bound_among us (program_uses us) q.name among in
    together (length (words_of (map (part_words (tables_of (parts ms))) (parts ms)) s)) (table_size q + sizes q.modules) (bound us q.name) (most_words us) size kept most))
  where
    together : (l t b m : ℕ) → l ≡ t → t ≤ b → b ≤ m → l ≤ m
    together l t b m h1 h2 h3 = omega (arith, h1, h2, h3)
