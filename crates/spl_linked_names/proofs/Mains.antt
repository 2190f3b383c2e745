-- One of the units of modules without a fault has a main body.
use Rattle.std.proofs.Common.{◌≡◌, ℕ, zero, suc, ◌+◌, ◌≤◌, ◌&&◌, not, nat_eq, Bool, true, false, if◌then◌else◌, List, [], ◌∷◌, ◌++◌, length, Option, Some, None, is_some, refl, sym, ap, subst, ◌∙◌, arith, rules}
use Rattle.std.specs.Prelude.{option_map}
use Rattle.spl_carried.specs.spl_meaning.Tables.{Source}
use Rattle.spl_carried.specs.spl_meaning.Limits.{joined}
use Rattle.spl_carried.specs.spl_meaning.Bodies.{Reached, reached_behind}
use Rattle.spl_carried.specs.spl_tree.DeclarationTrees.{declarations}
use Rattle.spl_carried.specs.spl_branch.declared.modules.Module.{Module}
use Rattle.spl_carried.specs.spl_scopes.Entries.{module_entries}
use Rattle.spl_carried.specs.spl_scopes.Scopes.{Placed, first_reached, placed_units}
use Rattle.spl_carried.specs.spl_module_code.Modules.{holds_main, main_mark, marks_before, uses, uses_among, uses_of, named_segment, program_uses, IsModuleOf, AreOfUnit, AreOf}
use Rattle.spl_carried.specs.spl_module_code.Modules.{AreOfUnit as u, AreOf as a}
use Rattle.spl_carried.specs.mpe_segmenter.Faults.{mains}
use Rattle.spl_carried.proofs.mpe_segmenter_proofs.PrepareLemmas.{one_main}
use Rattle.spl_carried.specs.spl_bounds.Segments.{NumbersSegments}
use Rattle.spl_carried.specs.spl_places.Programs.{Each}
use Rattle.spl_sound_headings.specs.spl_routines.Among.{IsIn, at_front, behind}
use Rattle.spl_sound_headings.proofs.spl_routines_proofs.ListLemmas.{in_left, in_right}
use Rattle.spl_sound_headings.proofs.spl_routines_proofs.ThereLemmas.{unit_has}
use Rattle.spl_carried.specs.Covered.{main_count}
use Rattle.spl_linked_names.specs.Laws.{LinkedUnitsHaveOneMain}
use Rattle.spl_linked_names.proofs.Modules.{marked, numbered_once, get_within}
use Rattle.spl_linked_names.proofs.Apart.{main_counted}
use Rattle.std.proofs.lemmas.Bool.{lt-ltb}
use Rattle.std.proofs.Common.{zero-add}

-- ---- 1. one module

mapped_some : (marks : ℕ → ℕ) (o : Option ℕ) → is_some (option_map marks o) ≡ is_some o
mapped_some marks None = refl
mapped_some marks (Some k) = refl

mark_holds : (p : Placed) (g : ℕ) → is_some (main_mark p g) ≡ holds_main p g
mark_holds p g = by (holds_main p g)
  where
    by : (b : Bool) → is_some (if b then Some (length (module_entries p.unit g)) else None) ≡ b
    by true = refl
    by false = refl

-- a module has a main body where its unit has one in its segment
main_is : (p : Placed) (name : List ℕ) (g : ℕ) (m : Module) → IsModuleOf p name g m → is_some m.main ≡ holds_main p g
main_is p name g m of =
    let k = marked p name g m of in
    ap is_some k.main ∙ mapped_some k.marks of.code.main ∙ ap is_some of.is.main ∙ mark_holds p g

-- ---- 2. a unit

-- a subprogram has none
none_held : (p : Placed) → p.unit.subprogram ≡ true → (g : ℕ) → holds_main p g ≡ false
none_held p is g = ap (λ (b : Bool). not b && nat_eq p.unit.tree.segment g) is

add_none : (k : ℕ) → k ≡ 0 → 0 + k ≡ 0
add_none k is = omega (arith, is)

unit_none : (p : Placed) (taken : List ℕ) (names : List (List ℕ)) (ms : List Module) → p.unit.subprogram ≡ true → AreOfUnit p taken names ms → mains ms ≡ 0
unit_none p taken [] _ sub u.none = refl
unit_none p taken (name ∷ names) _ sub (u.more {g = g} {m = m} {ms = ms} at of rest) =
    ap (λ (b : Bool). (if b then 1 else 0) + mains ms) (main_is p name g m of ∙ none_held p sub g) ∙ add_none (mains ms) (unit_none p (g ∷ taken) names ms sub rest)
unit_none p taken (name ∷ names) ms sub (u.skip at rest) = unit_none p taken names ms sub rest

-- the module of a main body counts
counted : (m : Module) (ms : List Module) → IsIn m ms → is_some m.main ≡ true → 1 ≤ mains ms
counted m [] k is = elim k [ ]
counted m (y ∷ ms) (at_front same) is = by (is_some y.main) (ap (λ (z : Module). is_some z.main) (sym same) ∙ is)
  where
    by : (b : Bool) → b ≡ true → 1 ≤ (if b then 1 else 0) + mains ms
    by true e = omega arith
    by false e = never_true e
      where
        never_true : {A : Type 0} → false ≡ true → A
        never_true f = cc
counted m (y ∷ ms) (behind k) is = by (if is_some y.main then 1 else 0) (counted m ms k is)
  where
    by : (n : ℕ) → 1 ≤ mains ms → 1 ≤ n + mains ms
    by n some = omega (arith, some)

same_number : (k : ℕ) → nat_eq k k ≡ true
same_number k = search rules

unit_main : (p : Placed) (names : List (List ℕ)) (ms : List Module) → NumbersSegments p.unit → ((x : List ℕ) → IsIn x (uses_of p.unit) → IsIn x names)
    → p.unit.subprogram ≡ false → AreOfUnit p [] names ms → 1 ≤ mains ms
unit_main p names ms numbers used whole are =
    let g = p.unit.tree.segment in
    let at = get_within p.unit.segments g (numbers.main whole) in
    let found = numbered_once 0 p.unit.segments g at.0 (λ i there. numbers.once i g at.0 there at.1) at.1 ∙ ap Some (zero-add g) in
    let holds : holds_main p g ≡ true = ap (λ (b : Bool). not b && nat_eq g g) whole ∙ same_number g in
    let m = unit_has p g at.0 found (uses_main g holds) [] names ms are refl
    (used at.0 (in_right at.0 (uses_among p.unit (declarations p.unit.tree.items)) (if p.unit.subprogram then [] else named_segment p.unit g) (named at.0 at.1))) in
    counted m.here ms m.among (main_is p m.name g m.here m.is ∙ holds)
  where
    uses_main : (g : ℕ) → holds_main p g ≡ true → uses p g ≡ true
    uses_main g holds = lt-ltb 0 (marks_before p g) (by (holds_main p g) holds)
      where
        by : (b : Bool) → b ≡ true → 1 ≤ length (module_entries p.unit g) + (if b then 1 else 0)
        by true e = omega arith
        by false e = cc

    named : (x : List ℕ) → Rattle.std.specs.List.slice_get p.unit.segments p.unit.tree.segment ≡ Some x → IsIn x (if p.unit.subprogram then [] else named_segment p.unit p.unit.tree.segment)
    named x is =
        subst (λ (b : Bool). IsIn x (if b then [] else named_segment p.unit p.unit.tree.segment)) (sym whole)
        (subst (λ (o : Option (List ℕ)). IsIn x (Rattle.spl_carried.specs.spl_module_code.Modules.in_list o)) (sym is) (at_front refl))

-- ---- 3. units

mains_both : (ms ns : List Module) → mains (ms ++ ns) ≡ mains ms + mains ns
mains_both [] ns = by (mains ns)
  where
    by : (k : ℕ) → k ≡ 0 + k
    by k = omega arith
mains_both (m ∷ ms) ns = by (if is_some m.main then 1 else 0) (mains (ms ++ ns)) (mains ms) (mains ns) (mains_both ms ns)
  where
    by : (c s x y : ℕ) → s ≡ x + y → c + s ≡ c + x + y
    by c s x y e = omega (arith, e)

-- at least as many modules have main bodies as units, and none where no unit has one
record Counted (us : List Source) (ms : List Module) : Type 0 where
  least : main_count us ≤ mains ms
  none : main_count us ≡ 0 → mains ms ≡ 0

units_counted : (at : Reached) (us : List Source) (names : List (List ℕ)) (ms : List Module) → Each NumbersSegments us → ((x : List ℕ) → IsIn x (joined uses_of us) → IsIn x names)
    → AreOf names (placed_units at us) ms → Counted us ms
units_counted at [] names _ numbers used a.none = record { least = omega arith; none = λ e. refl }
units_counted at (u ∷ us) names _ numbers used (a.more {ms = ms} {ns = ns} one others) =
    let rest = units_counted (reached_behind u at) us names ns numbers.1 (λ y there. used y (in_right y (uses_of u) (joined uses_of us) there)) others in
    by u.subprogram refl (mains_both ms ns) rest.least rest.none
  where
    p : Placed
    p = record { at = at; unit = u }

    by : (b : Bool) → u.subprogram ≡ b → mains (ms ++ ns) ≡ mains ms + mains ns → main_count us ≤ mains ns → (main_count us ≡ 0 → mains ns ≡ 0) → Counted (u ∷ us) (ms ++ ns)
    by true sub sum least none =
        let empty = unit_none p [] names ms sub one in
        record {
          least = subst (λ (c : Bool). (if c then 0 else 1) + main_count us ≤ mains (ms ++ ns)) (sym sub) (omega (arith, sum, empty, least));
          none = λ e. let later = none (behind_zero e) in omega (arith, sum, empty, later);
        }
      where
        behind_zero : (if u.subprogram then 0 else 1) + main_count us ≡ 0 → main_count us ≡ 0
        behind_zero e = let f = ap (λ (c : Bool). (if c then 0 else 1) + main_count us) (sym sub) ∙ e in omega (arith, f)
    by false whole sum least none =
        let some = unit_main p names ms numbers.0 (λ y there. used y (in_left y (uses_of u) (joined uses_of us) there)) whole one in
        record {
          least = subst (λ (c : Bool). (if c then 0 else 1) + main_count us ≤ mains (ms ++ ns)) (sym whole) (omega (arith, sum, some, least));
          none = λ e. let f = ap (λ (c : Bool). (if c then 0 else 1) + main_count us) (sym whole) ∙ e in absurd (omega (arith, f));
        }

pub one_counted : LinkedUnitsHaveOneMain
one_counted us ms numbers are none =
    let k = units_counted (first_reached us) us (program_uses us) ms numbers (λ x there. there) are in
    let one = one_main (mains ms) (main_counted ms none) in
    let least = k.least in
    by (main_count us) (mains ms) one least k.none
  where
    by : (c m : ℕ) → m ≡ 1 → c ≤ m → (c ≡ 0 → m ≡ 0) → c ≡ 1
    by zero m one least none = let z = none refl in absurd (omega (arith, one, z))
    by (suc c) m one least none = omega (arith, one, least)
