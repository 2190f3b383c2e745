-- Each segment that a unit uses has its module in the program.
-- 1. a module of the program stands among those of a segment              (module_stands_in)
-- 2. a unit has a module for each segment that it uses                    (unit_has)
-- 3. it uses the segments of its procedures                               (among_use, routine_has)
use Rattle.std.proofs.Common.{◌≡◌, ℕ, zero, suc, ◌+◌, Bool, true, false, nat_eq, List, [], ◌∷◌, ◌++◌, Option, Some, None, refl, sym, ap, subst, ◌∙◌, arith}
use Rattle.std.specs.Prelude.{◌||◌, not, slice_get, if◌then◌else◌}
use Rattle.std.specs.Cmp.Lexicographic.{pointwise}
use Rattle.std.proofs.lemmas.Bool.{eqb-true, eq-eqb, lt-ltb, false≢true, and_from}
use Rattle.std.proofs.lemmas.Option.{slice_get_within}
use Rattle.spl_carries.specs.spl_tree.DeclarationTrees as decl
use Rattle.spl_carries.specs.spl_tree.DeclarationTrees.{Declaration, Declarations, declarations}
use Rattle.spl_carries.specs.spl_meaning.Names.{Sort, Table, find, same_name, nothing_declared}
use Rattle.spl_carries.specs.spl_meaning.Limits.{joined}
use Rattle.spl_carries.specs.spl_meaning.Stops.{declaration_stops}
use Rattle.spl_carries.specs.spl_meaning.Tables.{Source, Routine, routine_in, routines_among, routines_of, with_declaration}
use Rattle.spl_carries.specs.spl_meaning.Bodies.{Reached, reached_behind}
use Rattle.spl_ways.specs.spl_branch.declared.modules.Module.{Module}
use Rattle.spl_label_marks.specs.spl_scopes.Entries.{Entry, module_entries}
use Rattle.spl_label_marks.specs.spl_scopes.Scopes.{Placed, first_reached, placed_units}
use Rattle.spl_label_marks.specs.spl_module_code.Modules.{IsModuleOf, AreOfUnit, AreOf, marks_before, named_segment, uses_in, uses_among, uses_of, program_uses, numbered, is_taken, uses, next_number}
use Rattle.spl_label_marks.specs.spl_module_code.Modules.{AreOfUnit as u}
use Rattle.spl_label_marks.specs.spl_module_code.Modules.{AreOf as a}
use Rattle.spl_ways.specs.mpe_segmenter.Names.{segment_of, is_among, with_name, names_from, segment_names, modules_of, part_from, parts}
use Rattle.spl_ways.specs.mpe_segmenter.Sites.{IsModule}
use Rattle.spl_ways.specs.mpe_segmenter.Whole.{IsWhole}
use Rattle.spl_ways.proofs.mpe_segmenter_proofs.NameLemmas.{same_self}
use Rattle.spl_ways.proofs.mpe_segmenter_proofs.PartLemmas.{equal_is}
use Rattle.spl_ways.proofs.mpe_segmenter_proofs.ValidLemmas.{got_map}
use Rattle.spl_routines.specs.Among.{IsIn, at_front, behind}
use Rattle.spl_routines.specs.Located.{Located}
use Rattle.spl_routines.proofs.ListLemmas.{in_left, in_right, one_there, at_parts, AtEither, before, beyond}
use Rattle.spl_routines.proofs.StandLemmas.{module_fits}

-- ---- 1. modules

-- a name that is among others is at a place
place_among : (x : List ℕ) (names : List (List ℕ)) → is_among x names ≡ true → (k : ℕ) × (slice_get names k ≡ Some x)
place_among x [] is = absurd (false≢true is)
place_among x (n ∷ names) is = by (pointwise nat_eq x n) refl is (λ e. place_among x names e) where
  by : (b : Bool) → pointwise nat_eq x n ≡ b → (b || is_among x names) ≡ true → (is_among x names ≡ true → (k : ℕ) × (slice_get names k ≡ Some x))
      → (k : ℕ) × (slice_get (n ∷ names) k ≡ Some x)
  by true same e rest = (0, ap (λ (y : List ℕ). Some y) (sym (equal_is x n same)))
  by false same e rest = let r = rest e in (suc r.0, r.1)

among_more : (x : List ℕ) (names more : List (List ℕ)) → is_among x names ≡ true → is_among x (names ++ more) ≡ true
among_more x [] more is = absurd (false≢true is)
among_more x (n ∷ names) more is = by (pointwise nat_eq x n) is (λ e. among_more x names more e) where
  by : (b : Bool) → (b || is_among x names) ≡ true → (is_among x names ≡ true → is_among x (names ++ more) ≡ true) → (b || is_among x (names ++ more)) ≡ true
  by true e rest = refl
  by false e rest = rest e

among_last : (x : List ℕ) (names : List (List ℕ)) → is_among x (names ++ x ∷ []) ≡ true
among_last x [] = ap (λ (b : Bool). b || false) (same_self x)
among_last x (n ∷ names) = by (pointwise nat_eq x n) (among_last x names) where
  by : (b : Bool) → is_among x (names ++ x ∷ []) ≡ true → (b || is_among x (names ++ x ∷ [])) ≡ true
  by true e = refl
  by false e = e

-- the names of modules' segments have what was there, and each segment's name
names_keep : (x : List ℕ) (names : List (List ℕ)) (ms : List Module) → is_among x names ≡ true → is_among x (names_from names ms) ≡ true
names_keep x names [] is = is
names_keep x names (m ∷ ms) is = names_keep x (with_name names (segment_of m)) ms (by (is_among (segment_of m) names)) where
  by : (b : Bool) → is_among x (if b then names else names ++ segment_of m ∷ []) ≡ true
  by true = is
  by false = among_more x names (segment_of m ∷ []) is

names_have : (m : Module) (names : List (List ℕ)) (ms : List Module) → IsIn m ms → is_among (segment_of m) (names_from names ms) ≡ true
names_have m names [] k = elim k [ ]
names_have m names (x ∷ ms) (at_front same) =
    names_keep (segment_of m) (with_name names (segment_of x)) ms
    (ap (λ (y : Module). is_among (segment_of m) (with_name names (segment_of y))) (sym same) ∙ by (is_among (segment_of m) names) refl) where
      by : (b : Bool) → is_among (segment_of m) names ≡ b → is_among (segment_of m) (if b then names else names ++ segment_of m ∷ []) ≡ true
      by true e = e
      by false e = among_last (segment_of m) names
names_have m names (x ∷ ms) (behind k) = names_have m (with_name names (segment_of x)) ms k

-- a module is among those of its segment
in_own : (m : Module) (ms : List Module) → IsIn m ms → IsIn m (modules_of (segment_of m) ms)
in_own m [] k = elim k [ ]
in_own m (x ∷ ms) (at_front same) =
    subst (λ (b : Bool). IsIn m (if b then x ∷ modules_of (segment_of m) ms else modules_of (segment_of m) ms))
    (sym (ap (λ (y : Module). pointwise nat_eq (segment_of m) (segment_of y)) (sym same) ∙ same_self (segment_of m))) (at_front same)
in_own m (x ∷ ms) (behind k) = by (pointwise nat_eq (segment_of m) (segment_of x)) (in_own m ms k) where
  by : (b : Bool) → IsIn m (modules_of (segment_of m) ms) → IsIn m (if b then x ∷ modules_of (segment_of m) ms else modules_of (segment_of m) ms)
  by true j = behind j
  by false j = j

-- with those before and behind it
parted : {A : Type 0} (x : A) (xs : List A) → IsIn x xs → (front : List A) × (back : List A) × (xs ≡ front ++ x ∷ back)
parted x [] k = elim k [ ]
parted x (y ∷ xs) (at_front same) = ([], xs, ap (λ z. z ∷ xs) (sym same))
parted x (y ∷ xs) (behind k) = let r = parted x xs k in (y ∷ r.0, r.1, ap (λ zs. y ∷ zs) r.2)

-- so it stands among those of a segment
module_stands_in : (ms : List Module) (m : Module) → IsIn m ms → (seg : ℕ) × (front : List Module) × (back : List Module) × IsModule (parts ms) seg front m back
module_stands_in ms m k =
    let at = place_among (segment_of m) (segment_names ms) (names_have m [] ms k) in
    let own = parted m (modules_of (segment_of m) ms) (in_own m ms k) in (
      at.0,
      own.0,
      own.1,
      record { part = part_from ms (segment_of m); there = got_map (part_from ms) (segment_names ms) at.0 (segment_of m) at.1; among = own.2 },
    )

-- ---- 2. units

-- the modules of a unit are among those of all
pub record UnitHas (q : Placed) (names : List (List ℕ)) (ms : List Module) : Type 0 where
  pub own : List Module
  pub are : AreOfUnit q [] names own
  pub among : (m : Module) → IsIn m own → IsIn m ms

unit_among : (q : Placed) (names : List (List ℕ)) (ps : List Placed) (ms : List Module) → AreOf names ps ms → IsIn q ps → UnitHas q names ms
unit_among q names [] ms is k = elim k [ ]
unit_among q names (p ∷ ps) ms (a.more {ms = xs} {ns = ns} one others) (at_front same) = record {
  own = xs;
  are = subst (λ (r : Placed). AreOfUnit r [] names xs) (sym same) one;
  among = λ m k. in_left m xs ns k;
}
unit_among q names (p ∷ ps) ms (a.more {ms = xs} {ns = ns} one others) (behind k) =
    let r = unit_among q names ps ns others k in record { own = r.own; are = r.are; among = λ m j. in_right m xs ns (r.among m j) }

-- a module of a segment of the unit
pub record HasModule (q : Placed) (g : ℕ) (ms : List Module) : Type 0 where
  pub here : Module
  pub name : List ℕ
  pub among : IsIn here ms
  pub is : IsModuleOf q name g here

has_behind : (q : Placed) (g : ℕ) (m : Module) (ms : List Module) → HasModule q g ms → HasModule q g (m ∷ ms)
has_behind q g m ms h = record { here = h.here; name = h.name; among = behind h.among; is = h.is }

-- that of a name, where it is used and not yet made, is the next
next_is : (q : Placed) (taken : List ℕ) (g : ℕ) (o : Option ℕ) → o ≡ Some g → uses q g ≡ true → is_taken g taken ≡ false → next_number q taken o ≡ Some g
next_is q taken g o is used free =
    ap (λ (x : Option ℕ). next_number q taken x) is
    ∙ ap (λ (b : Bool). if b then Some g else None) (and_from (uses q g) (not (is_taken g taken)) used (ap (λ (b : Bool). not b) free))

pub unit_has : (q : Placed) (g : ℕ) (x : List ℕ) → find (numbered 0 q.unit.segments) x ≡ Some g → uses q g ≡ true → (taken : List ℕ) (names : List (List ℕ))
    (ms : List Module) → AreOfUnit q taken names ms → is_taken g taken ≡ false → IsIn x names → HasModule q g ms
unit_has q g x is used taken [] ms are free k = elim k [ ]
unit_has q g x is used taken (name ∷ names) (m ∷ ms) (u.more {g = h} e own rest) free k =
    by (nat_eq g h) refl (λ f j. has_behind q g m ms (unit_has q g x is used (h ∷ taken) names ms rest f j)) k where
      taken_by : (b : Bool) → nat_eq g h ≡ b → b ≡ false → is_taken g (h ∷ taken) ≡ false
      taken_by b same other = ap (λ (c : Bool). c || is_taken g taken) (same ∙ other) ∙ free

      by : (b : Bool) → nat_eq g h ≡ b → (is_taken g (h ∷ taken) ≡ false → IsIn x names → HasModule q g (m ∷ ms)) → IsIn x (name ∷ names)
          → HasModule q g (m ∷ ms)
      by true same others j = record {
        here = m;
        name = name;
        among = at_front refl;
        is = subst (λ (n : ℕ). IsModuleOf q name n m) (sym (eqb-true g h same)) own;
      }
      by false same others (behind j) = others (taken_by false same refl) j
      by false same others (at_front first) =
          let named = ap (λ (y : List ℕ). find (numbered 0 q.unit.segments) y) (sym first) ∙ is in
          let next = next_is q taken g (find (numbered 0 q.unit.segments) name) named used free in
          let equal : g ≡ h = one_there g h (sym next ∙ e) in
          absurd (false≢true (sym same ∙ ap (λ (n : ℕ). nat_eq g n) (sym equal) ∙ self g)) where
            self : (n : ℕ) → nat_eq n n ≡ true
            self n = eq-eqb n n refl
unit_has q g x is used taken (name ∷ names) ms (u.skip e rest) free (behind k) = unit_has q g x is used taken names ms rest free k
unit_has q g x is used taken (name ∷ names) ms (u.skip e rest) free (at_front first) =
    let named = ap (λ (y : List ℕ). find (numbered 0 q.unit.segments) y) (sym first) ∙ is in
    let next = next_is q taken g (find (numbered 0 q.unit.segments) name) named used free in
    absurd (never g (sym e ∙ next)) where
      never : (n : ℕ) → None ≡ Some n → ⊥
      never n f = cc

-- ---- 3. procedures

-- the name of a number is at its place
numbered_at : (k : ℕ) (xs : List (List ℕ)) (x : List ℕ) (g : ℕ) → find (numbered k xs) x ≡ Some g → (j : ℕ) × (g ≡ k + j) × (slice_get xs j ≡ Some x)
numbered_at k [] x g is = cc
numbered_at k (y ∷ xs) x g is = by (same_name x y) refl is (λ f. numbered_at (suc k) xs x g f) where
  by : (b : Bool) → same_name x y ≡ b → (if b then Some k else find (numbered (suc k) xs) x) ≡ Some g
      → (find (numbered (suc k) xs) x ≡ Some g → (j : ℕ) × (g ≡ suc k + j) × (slice_get xs j ≡ Some x))
      → (j : ℕ) × (g ≡ k + j) × (slice_get (y ∷ xs) j ≡ Some x)
  by true same f rest = let here = one_there k g f in (0, omega (arith, here), ap (λ (z : List ℕ). Some z) (sym (equal_is x y same)))
  by false same f rest = let r = rest f in let number = r.1 in (suc r.0, omega (arith, number), r.2)

own_use : (s : Source) (table : Table Sort) (m : ℕ) (d : Declaration) (j : ℕ) (r : Routine) (x : List ℕ) → slice_get (routine_in table m d) j ≡ Some r
    → slice_get s.segments r.heading.segment ≡ Some x → IsIn x (uses_in s d)
own_use s table m (decl.Declaration.procedure h items ss) zero r x is segment =
    let globals : Table Sort = with_declaration nothing_declared table (decl.Declaration.procedure h items ss) in
    let same : record { heading = h; items = items; statements = ss; globals = globals; before = m } ≡ r = cc in
    subst (λ (o : Option (List ℕ)). IsIn x (listed_if o)) (sym (ap (λ (y : Routine). slice_get s.segments y.heading.segment) same ∙ segment))
    (at_front refl) where
      listed_if : Option (List ℕ) → List (List ℕ)
      listed_if None = []
      listed_if (Some name) = name ∷ []
own_use s table m (decl.Declaration.procedure h items ss) (suc j) r x is segment = cc
own_use s table m (decl.Declaration.subroutine h t) j r x is segment = cc
own_use s table m (decl.Declaration.data_items own k items) j r x is segment = cc
own_use s table m (decl.Declaration.equate es) j r x is segment = cc
own_use s table m (decl.Declaration.intrinsic xs) j r x is segment = cc
own_use s table m (decl.Declaration.label xs) j r x is segment = cc
own_use s table m (decl.Declaration.forward h) j r x is segment = cc
own_use s table m (decl.Declaration.external h) j r x is segment = cc

pub among_use : (s : Source) (table : Table Sort) (m : ℕ) (ds : Declarations) (j : ℕ) (r : Routine) (x : List ℕ) → slice_get (routines_among table m ds) j ≡ Some r
    → slice_get s.segments r.heading.segment ≡ Some x → IsIn x (uses_among s ds)
among_use s table m decl.none j r x is segment = cc
among_use s table m (decl.and d ds) j r x is segment =
    by (at_parts r (routine_in table m d) others j is)
    (λ i f. among_use s (with_declaration nothing_declared table d) (m + declaration_stops d) ds i r x f segment) where
      others : List Routine
      others = routines_among (with_declaration nothing_declared table d) (m + declaration_stops d) ds

      by : AtEither r (routine_in table m d) others j → ((i : ℕ) → slice_get others i ≡ Some r → IsIn x (uses_among s ds))
          → IsIn x (uses_in s d ++ uses_among s ds)
      by (before f) rest = in_left x (uses_in s d) (uses_among s ds) (own_use s table m d j r x f segment)
      by (beyond i at f) rest = in_right x (uses_in s d) (uses_among s ds) (rest i f)

-- what one of some units uses the program uses
units_use : (x : List ℕ) (at : Reached) (us : List Source) (q : Placed) → IsIn q (placed_units at us) → IsIn x (uses_of q.unit) → IsIn x (joined uses_of us)
units_use x at [] q k has = elim k [ ]
units_use x at (s ∷ us) q (at_front same) has = in_left x (uses_of s) (joined uses_of us) (subst (λ (r : Placed). IsIn x (uses_of r.unit)) same has)
units_use x at (s ∷ us) q (behind k) has = in_right x (uses_of s) (joined uses_of us) (units_use x (reached_behind s at) us q k has)

-- so a unit's procedure has a module, where its segment is the first of its name
pub routine_has : (us : List Source) (ms : List Module) → AreOf (program_uses us) (placed_units (first_reached us) us) ms → IsWhole (parts ms) → (q : Placed)
    → IsIn q (placed_units (first_reached us) us) → (i : ℕ) (r : Routine) → slice_get (routines_of q.unit) i ≡ Some r → (g k : ℕ) (e : Entry)
    → r.heading.segment ≡ g → slice_get (module_entries q.unit g) k ≡ Some e → (x : List ℕ) → find (numbered 0 q.unit.segments) x ≡ Some g → Located ms q g
routine_has us ms are whole q among i r there g k e segment entry x is =
    let at = numbered_at 0 q.unit.segments x g is in
    let number = at.1 in
    let place : at.0 ≡ g = omega (arith, number) in
    let named : slice_get q.unit.segments r.heading.segment ≡ Some x =
    ap (λ (n : ℕ). slice_get q.unit.segments n) (segment ∙ sym place) ∙ at.2 in
    let ours = among_use q.unit [] 0 (declarations q.unit.tree.items) i r x there named in
    let used = units_use x (first_reached us) us q among
    (in_left x (uses_among q.unit (declarations q.unit.tree.items)) (if q.unit.subprogram then [] else named_segment q.unit q.unit.tree.segment) ours) in
    let within = slice_get_within (module_entries q.unit g) k e entry in
    let h = unit_among q (program_uses us) (placed_units (first_reached us) us) ms are among in
    let m = unit_has q g x is (lt-ltb 0 (marks_before q g) (omega (arith, within))) [] (program_uses us) h.own h.are refl used in
    let s = module_stands_in ms m.here (h.among m.here m.among) in
    record {
      name = m.name;
      seg = s.0;
      front = s.1;
      here = m.here;
      back = s.2;
      is = s.3;
      of = m.is;
      finished = m.is.finished (module_fits (parts ms) whole s.0 s.1 m.here s.2 s.3);
    }
