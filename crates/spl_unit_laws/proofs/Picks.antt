-- Modules that are taken out along names of segments are those of their unit.
use Rattle.std.proofs.Common.{◌≡◌, ◌<◌, ℕ, zero, suc, ◌+◌, Bool, true, false, if◌then◌else◌, nat_eq, not, ◌&&◌, ◌||◌, List, [], ◌∷◌, ◌++◌, length, set, get_or, Option, Some, None, refl, sym, ap, subst, ◌∙◌, add-zero, arith}
use Rattle.std.specs.List.{slice_get}
use Rattle.std.proofs.lemmas.Bool.{and_parts, eqb-true, eqb-false, ne_eqb}
use Rattle.std.proofs.lemmas.Option.{slice_get_within, slice_get-get_or}
use Rattle.std.proofs.lemmas.List.{length-set}
use Rattle.spl_sound_labels.specs.spl_meaning.Names.{find, same_name}
use Rattle.spl_routine_code.specs.spl_branch.declared.buffer.Code.{Code}
use Rattle.spl_routine_code.specs.spl_branch.declared.modules.Module.{Module}
use Rattle.spl_routine_code.specs.spl_scopes.Scopes.{Placed}
use Rattle.spl_unit_codes.specs.spl_module_code.Modules.{uses, is_taken, next_number, numbered, IsCodeOf, IsModuleOf, AreOfUnit}
use Rattle.spl_unit_codes.specs.spl_module_code.Modules.{AreOfUnit as o}
use Rattle.spl_unit_codes.specs.declared.growing.Growing.{Growing}
use Rattle.spl_unit_codes.specs.Slots.{IsFinish, IsSlot, AreSlots, TakenAt, Taken, Picked}
use Rattle.spl_unit_codes.specs.Slots.{TakenAt as t}
use Rattle.spl_unit_codes.specs.Slots.{Picked as k}
use Rattle.spl_unit_laws.proofs.UnitWalks.{some_inside}
use Rattle.spl_unit_laws.proofs.UnitEnds.{Whole, code_done, used_is}

-- ---- lists

set_here : {A : Type 0} (xs : List A) (i : ℕ) (a : A) → i < length xs → slice_get (set xs i a) i ≡ Some a
set_here {A} [] i a lt = absurd (none lt)
  where
    none : i < 0 → ⊥
    none h = omega (arith, h)
set_here (x ∷ xs) zero a lt = refl
set_here (x ∷ xs) (suc i) a lt = set_here xs i a (omega (arith, lt))

set_there : {A : Type 0} (xs : List A) (i j : ℕ) (a : A) → nat_eq j i ≡ false → slice_get (set xs i a) j ≡ slice_get xs j
set_there [] i j a out = refl
set_there (x ∷ xs) zero zero a out = cc
set_there (x ∷ xs) zero (suc j) a out = refl
set_there (x ∷ xs) (suc i) zero a out = refl
set_there (x ∷ xs) (suc i) (suc j) a out = set_there xs i j a (ne_eqb j i (λ e. eqb-false (suc j) (suc i) out (ap suc e)))

-- names with the same letters
same_letters : (x y : List ℕ) → same_name x y ≡ true → x ≡ y
same_letters [] [] is = refl
same_letters [] (b ∷ y) is = cc
same_letters (a ∷ x) [] is = cc
same_letters (a ∷ x) (b ∷ y) is = let parts = and_parts (nat_eq a b) (same_name x y) is in (λ i. eqb-true a b parts.0 i ∷ same_letters x y parts.1 i)

-- the segment of a number that is found has that name
pub record NumberedAt (from : ℕ) (names : List (List ℕ)) (x : List ℕ) (g : ℕ) : Type 0 where
  pub place : ℕ
  pub is : g ≡ from + place
  pub there : slice_get names place ≡ Some x

numbered_at : (from : ℕ) (names : List (List ℕ)) (x : List ℕ) (g : ℕ) → find (numbered from names) x ≡ Some g → NumberedAt from names x g
numbered_at from [] x g is = cc
numbered_at from (name ∷ names) x g is = by (same_name x name) refl (λ e. numbered_at (suc from) names x g e)
  where
    shift : (a b : ℕ) → suc a + b ≡ a + suc b
    shift a b = omega arith

    by : (b : Bool) → same_name x name ≡ b → (find (numbered (suc from) names) x ≡ Some g → NumberedAt (suc from) names x g) → NumberedAt from (name ∷ names) x g
    by true inside recur = record {
      place = 0;
      is = sym (some_inside from g (sym (ap (λ (b : Bool). if b then Some from else find (numbered (suc from) names) x) inside) ∙ is)) ∙ sym (add-zero from);
      there = ap Some (sym (same_letters x name inside));
    }
    by false out recur =
        let rest = recur (sym (ap (λ (b : Bool). if b then Some from else find (numbered (suc from) names) x) out) ∙ is) in
        record { place = suc rest.place; is = rest.is ∙ shift from rest.place; there = rest.there }

segment_named : (names : List (List ℕ)) (x : List ℕ) (g : ℕ) → find (numbered 0 names) x ≡ Some g → slice_get names g ≡ Some x
segment_named names x g is = let n = numbered_at 0 names x g is in ap (λ i. slice_get names i) (n.is ∙ zero_first n.place) ∙ n.there
  where
    zero_first : (i : ℕ) → 0 + i ≡ i
    zero_first i = omega arith

-- ---- slots

-- what stands in the slot of a segment: nothing where its module was taken, else what its code becomes
abbrev pub SlotIs : Bool → Code → Option Module → Type 0
SlotIs true c slot = slot ≡ None
SlotIs false c slot = IsSlot c slot

pub record SlotsLeft (parts : List Growing) (taken : List ℕ) (slots : List (Option Module)) : Type 0 where
  pub number : length slots ≡ length parts
  pub each : (g : ℕ) (x : Growing) → slice_get parts g ≡ Some x → (slot : Option Module) × (slice_get slots g ≡ Some slot) × SlotIs (is_taken g taken) x.code slot

pub first_left : (parts : List Growing) (slots : List (Option Module)) → AreSlots parts slots → SlotsLeft parts [] slots
first_left parts slots a = record { number = a.number; each = a.each }

-- the next module is taken
module_taken : (parts : List Growing) (taken : List ℕ) (slots : List (Option Module)) (g : ℕ) → SlotsLeft parts taken slots → g < length parts
    → SlotsLeft parts (g ∷ taken) (set slots g None)
module_taken parts taken slots g left lt = record {
  number = length-set slots g None ∙ left.number;
  each = λ h x at. each h x at (nat_eq h g) refl;
}
  where
    each : (h : ℕ) (x : Growing) → slice_get parts h ≡ Some x → (b : Bool) → nat_eq h g ≡ b
        → (slot : Option Module) × (slice_get (set slots g None) h ≡ Some slot) × SlotIs (nat_eq h g || is_taken h taken) x.code slot
    each h x at true inside =
        let same : h ≡ g = eqb-true h g inside in
        let within : g < length slots = (let a = left.number in omega (arith, a, lt)) in (None, ap (λ i. slice_get (set slots g None) i) same ∙ set_here slots g None within, subst (λ (b : Bool). SlotIs (b || is_taken h taken) x.code None) (sym inside) refl)
    each h x at false out =
        let old = left.each h x at in (old.0, set_there slots g h None out ∙ old.1, subst (λ (b : Bool). SlotIs (b || is_taken h taken) x.code old.0) (sym out) old.2)

-- ---- names

-- what can be picked behind a name, wherever it begins
abbrev Recur : Placed → List Growing → List (List ℕ) → List Module → Type 0
Recur p parts names ns = (taken : List ℕ) (slots : List (Option Module)) → SlotsLeft parts taken slots → Picked (find (numbered 0 p.unit.segments)) slots names ns
    → AreOfUnit p taken names ns

-- codes that are those of their modules
abbrev AllWhole : Placed → List Growing → Type 0
AllWhole p parts = (g : ℕ) (x : Growing) → slice_get parts g ≡ Some x → Whole p g x.code

-- a name behind which nothing is taken
skipped : (p : Placed) (parts : List Growing) (taken : List ℕ) (slots new : List (Option Module)) (name : List ℕ) (names : List (List ℕ)) (ms ns : List Module)
    → SlotsLeft parts taken slots → Recur p parts names ns → Picked (find (numbered 0 p.unit.segments)) new names ns → new ≡ slots → ms ≡ []
    → next_number p taken (find (numbered 0 p.unit.segments) name) ≡ None → AreOfUnit p taken (name ∷ names) (ms ++ ns)
skipped p parts taken slots new name names ms ns left recur rest same none next =
    subst (λ xs. AreOfUnit p taken (name ∷ names) (xs ++ ns)) (sym none)
    (o.skip next (recur taken slots left (subst (λ s. Picked (find (numbered 0 p.unit.segments)) s names ns) same rest)))

-- a segment whose slot is empty is not used, or had its module
unused : (p : Placed) (g : ℕ) (c : Code) → Whole p g c → (had : Bool) → SlotIs had c None → (if uses p g && not had then Some g else None) ≡ None
unused p g c w true slot = drop_it (uses p g)
  where
    drop_it : (u : Bool) → (if u && false then Some g else None) ≡ None
    drop_it true = refl
    drop_it false = refl
unused p g c w false slot = ap (λ (u : Bool). if u && true then Some g else None) (sym (used_is p g c w.frame) ∙ slot)

-- one that is not was not taken yet, and is used
used : (p : Placed) (g : ℕ) (c : Code) (m : Module) → Whole p g c → (had : Bool) → SlotIs had c (Some m)
    → ((if uses p g && not had then Some g else None) ≡ Some g) × IsFinish c m
used p g c m w true slot = cc
used p g c m w false slot = (ap (λ (u : Bool). if u && true then Some g else None) (sym (used_is p g c w.frame) ∙ slot.0), slot.1)

module_of : (p : Placed) (name : List ℕ) (g : ℕ) (c : Code) (m : Module) → find (numbered 0 p.unit.segments) name ≡ Some g → Whole p g c → IsFinish c m → IsModuleOf p name g m
module_of p name g c m is w f = record {
  code = c;
  is = subst (λ n. IsCodeOf p n g c) (some_inside w.frame.name name (sym w.frame.named ∙ segment_named p.unit.segments name g is)) (code_done p g c w);
  segment = f.segment;
  wants = f.wants;
  finished = f.finished;
  oversized = f.oversized;
}

-- a name of a segment, by what stands in its slot
slot_picked : (p : Placed) (parts : List Growing) (taken : List ℕ) (name : List ℕ) (names : List (List ℕ)) (ns : List Module) (g : ℕ) (x : Growing)
    (slot : Option (Option Module)) (slots new : List (Option Module)) (ms : List Module) → AllWhole p parts → SlotsLeft parts taken slots → Recur p parts names ns
    → find (numbered 0 p.unit.segments) name ≡ Some g → g < length parts → slice_get parts g ≡ Some x → slot ≡ slice_get slots g → TakenAt g slot slots new ms
    → Picked (find (numbered 0 p.unit.segments)) new names ns → AreOfUnit p taken (name ∷ names) (ms ++ ns)
slot_picked p parts taken name names ns g x _ slots _ _ whole left recur is lt at here t.none rest = clash (here ∙ (left.each g x at).1)
  where
    clash : {A : Type 0} → None ≡ Some (left.each g x at).0 → A
    clash {A} e = cc
slot_picked p parts taken name names ns g x _ slots _ _ whole left recur is lt at here t.empty rest =
    let slot = left.each g x at in
    let same : None ≡ slot.0 = some_inside None slot.0 (here ∙ slot.1) in
    skipped p parts taken slots slots name names [] ns left recur rest refl refl
    (ap (next_number p taken) is ∙ unused p g x.code (whole g x at) (is_taken g taken) (subst (λ (s : Option Module). SlotIs (is_taken g taken) x.code s) (sym same) slot.2))
slot_picked p parts taken name names ns g x _ slots _ _ whole left recur is lt at here (t.some {m = m}) rest =
    let slot = left.each g x at in
    let same : Some m ≡ slot.0 = some_inside (Some m) slot.0 (here ∙ slot.1) in
    let both = used p g x.code m (whole g x at) (is_taken g taken) (subst (λ (s : Option Module). SlotIs (is_taken g taken) x.code s) (sym same) slot.2) in
    o.more (ap (next_number p taken) is ∙ both.0) (module_of p name g x.code m is (whole g x at) both.1)
    (recur (g ∷ taken) (set slots g None) (module_taken parts taken slots g left lt) rest)

-- the one of a number
head_of : (xs : List Growing) (g : ℕ) → g < length xs → Growing
head_of [] g lt = absurd (none lt)
  where
    none : g < 0 → ⊥
    none h = omega (arith, h)
head_of (x ∷ xs) g lt = x

-- a name
name_picked : (p : Placed) (parts : List Growing) (taken : List ℕ) (name : List ℕ) (names : List (List ℕ)) (ns : List Module) (number : Option ℕ)
    (slots new : List (Option Module)) (ms : List Module) → length parts ≡ length p.unit.segments → AllWhole p parts → SlotsLeft parts taken slots → Recur p parts names ns
    → find (numbered 0 p.unit.segments) name ≡ number → Taken number slots new ms → Picked (find (numbered 0 p.unit.segments)) new names ns
    → AreOfUnit p taken (name ∷ names) (ms ++ ns)
name_picked p parts taken name names ns None slots new ms count whole left recur is one rest =
    skipped p parts taken slots new name names ms ns left recur rest one.0 one.1 (ap (next_number p taken) is)
name_picked p parts taken name names ns (Some g) slots new ms count whole left recur is one rest =
    let lt : g < length parts = (let a = slice_get_within p.unit.segments g name (segment_named p.unit.segments name g is) in omega (arith, a, count)) in
    let d : Growing = head_of parts g lt in
    slot_picked p parts taken name names ns g (get_or parts g d) (slice_get slots g) slots new ms whole left recur is lt (slice_get-get_or parts g d lt) refl one rest

pub picked_modules : (p : Placed) (parts : List Growing) (taken : List ℕ) (slots : List (Option Module)) (names : List (List ℕ)) (ms : List Module)
    → length parts ≡ length p.unit.segments → ((g : ℕ) (x : Growing) → slice_get parts g ≡ Some x → Whole p g x.code) → SlotsLeft parts taken slots
    → Picked (find (numbered 0 p.unit.segments)) slots names ms → AreOfUnit p taken names ms
picked_modules p parts taken slots _ _ count whole left k.none = o.none
picked_modules p parts taken slots (name ∷ names) _ count whole left (k.more {left = new} {ns = ns} ms one rest) =
    name_picked p parts taken name names ns (find (numbered 0 p.unit.segments) name) slots new ms count whole left
    (λ had s l r. picked_modules p parts had s names ns count whole l r) refl one rest
