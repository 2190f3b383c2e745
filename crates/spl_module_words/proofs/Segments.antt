-- The words of all modules in a segment: of each unit one module at most, by the number that its name has there.
use Rattle.std.proofs.Common.{◌≡◌, ◌≤◌, ℕ, suc, ◌+◌, ◌&&◌, ◌||◌, nat_eq, not, Bool, true, false, if◌then◌else◌, List, [], ◌∷◌, ◌++◌, get_or, Option, Some, None, refl, sym, ap, ◌∙◌, arith}
use Rattle.std.specs.Prelude.{unwrap_or}
use Rattle.std.specs.List.{slice_get}
use Rattle.std.proofs.lemmas.Bool.{and_parts, and_from, eqb-true, eq-eqb}
use Rattle.spl_formed_modules.specs.spl_tree.Views.{letters}
use Rattle.spl_few_loops.specs.spl_meaning.Names.{find, same_name}
use Rattle.spl_few_loops.specs.spl_meaning.Tables.{Source, Routine, routines_of}
use Rattle.spl_few_loops.specs.spl_meaning.Places.{sum}
use Rattle.spl_few_loops.specs.spl_meaning.Bodies.{Reached, reached_behind, all_routines}
use Rattle.spl_few_loops.specs.spl_meaning.Bound.{routine_weight, main_weight, segment_name, among_segment, has_main, unit_weight}
use Rattle.spl_formed_modules.specs.spl_branch.declared.modules.Module.{Module}
use Rattle.spl_formed_modules.specs.spl_branch.Pieces.{count_of}
use Rattle.spl_formed_modules.specs.spl_scopes.Scopes.{Placed, first_reached, placed_units}
use Rattle.spl_formed_modules.specs.spl_module_code.Modules.{numbered, next_number, is_taken, uses, marks_before, module_written, IsModuleOf, AreOfUnit, AreOf, program_uses}
use Rattle.spl_formed_modules.specs.spl_module_code.Modules.{AreOfUnit as u}
use Rattle.spl_formed_modules.specs.spl_module_code.Modules.{AreOf as a}
use Rattle.spl_few_loops.specs.spl_places.Programs.{Each}
use Rattle.spl_few_loops.proofs.spl_places_proofs.SoundLaws.{sound_new}
use Rattle.spl_fits.specs.Fits.{RoutineFits}
use Rattle.spl_fits.proofs.FitLaws.{programs_fit}
use Rattle.spl_few_loops.specs.Loops.{FewLoopsInUnit, FewLoopsInRoutine}
use Rattle.spl_few_loops.proofs.LoopLaws.{few_in_all}
use Rattle.spl_formed_modules.proofs.spl_wanted_names_proofs.Intrinsics.{same_letters}
use Rattle.spl_formed_modules.proofs.Formed.{next_used}
use Rattle.spl_module_words.specs.Words.{words_in, ModulesHaveFewWords}
use Rattle.spl_module_words.proofs.Sizes.{size_count}
use Rattle.spl_module_words.proofs.Declared.{routines_weight, main_there, number_weight, few_module}

-- ---- names of segments

same_self : (x : List ℕ) → same_name x x ≡ true
same_self [] = refl
same_self (a ∷ x) = and_from (nat_eq a a) (same_name x x) (eq-eqb a a refl) (same_self x)

-- the number that a name is found by is that of a segment with the name
record NumberedAt (from : ℕ) (names : List (List ℕ)) (x : List ℕ) (g : ℕ) : Type 0 where
  place : ℕ
  is : g ≡ from + place
  named : get_or names place [] ≡ x
  there : slice_get names place ≡ Some x

pub some_inside : (d x y : ℕ) → Some x ≡ Some y → x ≡ y
some_inside d x y is = ap (λ o. unwrap_or o d) is

shift : (a b : ℕ) → suc a + b ≡ a + suc b
shift a b = omega arith

at_once : (a : ℕ) → a ≡ a + 0
at_once a = omega arith

numbered_at : (from : ℕ) (names : List (List ℕ)) (x : List ℕ) (g : ℕ) → find (numbered from names) x ≡ Some g → NumberedAt from names x g
numbered_at from [] x g is = cc
numbered_at from (name ∷ names) x g is = by (same_name x name) refl (λ e. numbered_at (suc from) names x g e)
  where
    by : (b : Bool) → same_name x name ≡ b → (find (numbered (suc from) names) x ≡ Some g → NumberedAt (suc from) names x g) → NumberedAt from (name ∷ names) x g
    by true inside recur = record {
      place = 0;
      is = sym (some_inside from from g (sym (ap (λ (b : Bool). if b then Some from else find (numbered (suc from) names) x) inside) ∙ is)) ∙ at_once from;
      named = sym (same_letters x name inside);
      there = ap Some (sym (same_letters x name inside));
    }
    by false out recur =
        let rest = recur (sym (ap (λ (b : Bool). if b then Some from else find (numbered (suc from) names) x) out) ∙ is) in
        record { place = suc rest.place; is = rest.is ∙ shift from rest.place; named = rest.named; there = rest.there }

zero_first : (i : ℕ) → 0 + i ≡ i
zero_first i = omega arith

pub segment_named : (s : Source) (x : List ℕ) (g : ℕ) → find (numbered 0 s.segments) x ≡ Some g → segment_name s g ≡ x
segment_named s x g is = let n = numbered_at 0 s.segments x g is in ap (λ i. get_or s.segments i []) (n.is ∙ zero_first n.place) ∙ n.named

pub segment_there : (s : Source) (x : List ℕ) (g : ℕ) → find (numbered 0 s.segments) x ≡ Some g → slice_get s.segments g ≡ Some x
segment_there s x g is = let n = numbered_at 0 s.segments x g is in ap (λ i. slice_get s.segments i) (n.is ∙ zero_first n.place) ∙ n.there

-- ---- by name no less than by number

when_more : (b c : Bool) (n : ℕ) → (b ≡ true → c ≡ true) → (if b then n else 0) ≤ (if c then n else 0)
when_more true true n h = omega arith
when_more true false n h = let e = h refl in cc
when_more false true n h = omega arith
when_more false false n h = omega arith

named_there : (s : Source) (x : List ℕ) (g k : ℕ) → segment_name s g ≡ x → nat_eq k g ≡ true → same_name (segment_name s k) x ≡ true
named_there s x g k is same =
    ap (λ i. same_name (segment_name s i) x) (eqb-true k g same) ∙ ap (λ y. same_name y x) is ∙ same_self x

sum_more : (b : Bool) (r : Routine) (rs : List Routine) → sum routine_weight (if b then r ∷ rs else rs) ≡ (if b then routine_weight r else 0) + sum routine_weight rs
sum_more true r rs = refl
sum_more false r rs = omega arith

routines_named : (s : Source) (x : List ℕ) (g : ℕ) (rs : List Routine) → segment_name s g ≡ x → routines_weight g rs ≤ sum routine_weight (among_segment s x rs)
routines_named s x g [] is = omega arith
routines_named s x g (r ∷ rs) is =
    let split = sum_more (same_name (segment_name s r.heading.segment) x) r (among_segment s x rs) in
    let one = when_more (nat_eq r.heading.segment g) (same_name (segment_name s r.heading.segment) x) (routine_weight r) (named_there s x g r.heading.segment is) in
    let rest = routines_named s x g rs is in
    omega (arith, split, one, rest)

main_named : (s : Source) (x : List ℕ) (g : ℕ) → segment_name s g ≡ x → main_there s g ≡ true → has_main s x ≡ true
main_named s x g is here =
    let both = and_parts (not s.subprogram) (nat_eq s.tree.segment g) here in
    and_from (not s.subprogram) (same_name (segment_name s s.tree.segment) x) both.0 (named_there s x g s.tree.segment is both.1)

named_weight : (s : Source) (x : List ℕ) (g : ℕ) → segment_name s g ≡ x → number_weight s g ≤ unit_weight x s
named_weight s x g is =
    let routines = routines_named s x g (routines_of s) is in
    let main = when_more (main_there s g) (has_main s x) (main_weight s) (main_named s x g is) in
    omega (arith, routines, main)

-- ---- a module

-- what is known of a unit
record UnitFits (s : Source) : Type 0 where
  fit : Each RoutineFits (routines_of s)
  loops : Each FewLoopsInRoutine (routines_of s)
  unit_loops : FewLoopsInUnit s

few_of_module : (p : Placed) (name : List ℕ) (g : ℕ) (m : Module) → UnitFits p.unit → IsModuleOf p name g m → m.size ≤ number_weight p.unit g
few_of_module p name g m f of =
    let count = size_count of.code m of.finished of.oversized in
    let same = ap count_of of.is.pieces in
    let few = (few_module p g f.fit f.loops f.unit_loops).few (marks_before p g) [] in
    let most : count_of (module_written p g).pieces ≤ number_weight p.unit g = few in
    omega (arith, count, same, most)

-- ---- a unit

-- the module of a name, where it had none
pub room_for : List ℕ → Option ℕ → ℕ → ℕ
room_for taken None n = 0
room_for taken (Some g) n = if is_taken g taken then 0 else n

pub room_less : (g : ℕ) (taken : List ℕ) (o : Option ℕ) (n : ℕ) → room_for (g ∷ taken) o n ≤ room_for taken o n
unfolding room_for
room_less g taken None n = omega arith
room_less g taken (Some h) n = by (nat_eq h g) (is_taken h taken)
  where
    by : (b t : Bool) → (if b || t then 0 else n) ≤ (if t then 0 else n)
    by true true = omega arith
    by true false = omega arith
    by false true = omega arith
    by false false = omega arith

pub room_none : (g : ℕ) (taken : List ℕ) (o : Option ℕ) (n : ℕ) → o ≡ Some g → room_for (g ∷ taken) o n ≡ 0
unfolding room_for
room_none g taken None n is = cc
room_none g taken (Some h) n is =
    ap (λ (k : ℕ). if is_taken k (g ∷ taken) then 0 else n) (some_inside h h g is) ∙ ap (λ (b : Bool). if b || is_taken g taken then 0 else n) (eq-eqb g g refl)

pub room_all : (g : ℕ) (taken : List ℕ) (o : Option ℕ) (n : ℕ) → o ≡ Some g → is_taken g taken ≡ false → room_for taken o n ≡ n
unfolding room_for
room_all g taken None n is free = cc
room_all g taken (Some h) n is free =
    ap (λ (k : ℕ). if is_taken k taken then 0 else n) (some_inside h h g is) ∙ ap (λ (b : Bool). if b then 0 else n) free

pub next_found : (p : Placed) (taken : List ℕ) (o : Option ℕ) (g : ℕ) → next_number p taken o ≡ Some g → o ≡ Some g
next_found p taken None g is = cc
next_found p taken (Some h) g is = by (uses p h && not (is_taken h taken)) is
  where
    by : (b : Bool) → (if b then Some h else None) ≡ Some g → Some h ≡ Some g
    by true at = at
    by false at = cc

few_unit : (p : Placed) (x : List ℕ) (taken : List ℕ) (names : List (List ℕ)) (ms : List Module) → UnitFits p.unit → AreOfUnit p taken names ms
    → words_in x ms ≤ room_for taken (find (numbered 0 p.unit.segments) x) (unit_weight x p.unit)
few_unit p x taken [] _ f u.none = least (room_for taken (find (numbered 0 p.unit.segments) x) (unit_weight x p.unit))
  where
    least : (n : ℕ) → 0 ≤ n
    least n = omega arith
few_unit p x taken (name ∷ names) _ f (u.more {g = g} {m = m} {ms = ms} at of rest) =
    by (same_name (letters m.segment) x) refl (few_unit p x (g ∷ taken) names ms f rest)
  where
    o : List ℕ → Option ℕ
    o y = find (numbered 0 p.unit.segments) y

    w : ℕ
    w = unit_weight x p.unit

    by : (b : Bool) → same_name (letters m.segment) x ≡ b → words_in x ms ≤ room_for (g ∷ taken) (o x) w → (if b then m.size else 0) + words_in x ms ≤ room_for taken (o x) w
    by false other le = let less = room_less g taken (o x) w in omega (arith, le, less)
    by true same le =
        let there : letters m.segment ≡ name = ap letters of.segment ∙ of.is.segment in
        let is_x : name ≡ x = sym there ∙ same_letters (letters m.segment) x same in
        let found : o x ≡ Some g = ap o (sym is_x) ∙ next_found p taken (o name) g at in
        let free = free_now (is_taken g taken) (next_used p taken (o name) g at).1 in
        let none = room_none g taken (o x) w found in
        let all = room_all g taken (o x) w found free in
        let few = few_of_module p name g m f of in
        let weight = named_weight p.unit x g (segment_named p.unit x g found) in
        omega (arith, le, none, all, few, weight)
      where
        free_now : (b : Bool) → not b ≡ true → b ≡ false
        free_now true is = cc
        free_now false is = refl
few_unit p x taken (name ∷ names) ms f (u.skip at rest) = few_unit p x taken names ms f rest

-- ---- units

words_append : (x : List ℕ) (xs ys : List Module) → words_in x (xs ++ ys) ≡ words_in x xs + words_in x ys
words_append x [] ys = omega arith
words_append x (m ∷ xs) ys = let rest = words_append x xs ys in omega (arith, rest)

pub room_most : (taken : List ℕ) (o : Option ℕ) (n : ℕ) → room_for taken o n ≤ n
unfolding room_for
room_most taken None n = omega arith
room_most taken (Some g) n = by (is_taken g taken)
  where
    by : (b : Bool) → (if b then 0 else n) ≤ n
    by true = omega arith
    by false = omega arith

each_parts : {A : Type 0} (P : A → Type 0) (xs ys : List A) → Each P (xs ++ ys) → Each P xs × Each P ys
each_parts P [] ys all = (tt, all)
each_parts P (x ∷ xs) ys all = let rest = each_parts P xs ys all.1 in ((all.0, rest.0), rest.1)

few_units : (names : List (List ℕ)) (x : List ℕ) (at : Reached) (us : List Source) (ms : List Module) → Each RoutineFits (all_routines us)
    → Each FewLoopsInRoutine (all_routines us) → Each FewLoopsInUnit us → AreOf names (placed_units at us) ms → words_in x ms ≤ sum (unit_weight x) us
few_units names x at [] _ fit loops unit_loops a.none = omega arith
few_units names x at (s ∷ us) _ fit loops unit_loops (a.more {ms = ms} {ns = ns} one others) =
    let fits = each_parts RoutineFits (routines_of s) (all_routines us) fit in
    let ls = each_parts FewLoopsInRoutine (routines_of s) (all_routines us) loops in
    let first = few_unit (record { at = at; unit = s }) x [] names ms (record { fit = fits.0; loops = ls.0; unit_loops = unit_loops.0 }) one in
    let most = room_most [] (find (numbered 0 s.segments) x) (unit_weight x s) in
    let rest = few_units names x (reached_behind s at) us ns fits.1 ls.1 unit_loops.1 others in
    let split = words_append x ms ns in
    omega (arith, first, most, rest, split)

pub few_words : ModulesHaveFewWords
few_words us ms x sound spelled within are =
    let loops = few_in_all us spelled in
    few_units (program_uses us) x (first_reached us) us ms (programs_fit us (sound_new us sound) within).routines loops.1 loops.0 are
