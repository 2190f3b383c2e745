-- The procedures of a unit, its entries in a segment, and its code there, along its declarations.
-- 1. a procedure in a segment, by its number and its entry               (ProcedureIn)
-- 2. each entry that is called by name is of one                         (of_entry, entry_there)
-- 3. each procedure of the segment has one                               (of_routine, routine_there)
use Rattle.std.proofs.Common.{◌≡◌, ℕ, zero, suc, ◌+◌, Bool, true, false, nat_eq, List, [], ◌∷◌, ◌++◌, length, Some, ◌⊎◌, inl, inr, refl, sym, ap, subst, ◌∙◌, arith}
use Rattle.std.specs.Prelude.{slice_get, if◌then◌else◌}
use Rattle.std.proofs.lemmas.Bool.{eqb-true, eq-eqb, false≢true}
use Rattle.spl_carries.specs.spl_tree.DeclarationTrees as decl
use Rattle.spl_carries.specs.spl_tree.DeclarationTrees.{Declaration, Declarations}
use Rattle.spl_carries.specs.spl_meaning.Names.{Sort, Table, nothing_declared}
use Rattle.spl_carries.specs.spl_meaning.Stops.{declaration_stops}
use Rattle.spl_carries.specs.spl_meaning.Tables.{Routine, routine_in, routines_among, with_declaration}
use Rattle.spl_label_marks.specs.spl_scopes.Entries.{main, routine, Owner, Entry, procedure, is_callable, inner_entry, inner_entries, declared_entries, routines_behind, entries_among, in_segment}
use Rattle.spl_label_marks.specs.spl_scopes.Scopes.{Placed}
use Rattle.spl_label_marks.specs.spl_module_code.Modules.{entries_behind}
use Rattle.spl_routines.specs.Among.{IsIn, at_front, behind}
use Rattle.spl_routines.proofs.ListLemmas.{in_parts, InEither, left, right, in_place, at_parts, AtEither, before, beyond, at_beyond, one_there}

-- ---- 1. procedures

-- a declaration is a procedure in a segment, of this name, and has this number and this entry
abbrev pub IsProcedure : ℕ → ℕ → ℕ → List ℕ → ℕ → ℕ → Declaration → Type 0
IsProcedure g i k name n entry (decl.Declaration.procedure h items ss) = (h.segment ≡ g) × (h.name ≡ name) × (n ≡ i) × (entry ≡ k)
IsProcedure g i k name n entry d = ⊥

-- so is one of some declarations, behind n procedures and so many entries of the segment
abbrev pub ProcedureIn : Placed → ℕ → ℕ → ℕ → List ℕ → ℕ → ℕ → Declarations → Type 0
ProcedureIn q g i k name n entry decl.none = ⊥
ProcedureIn q g i k name n entry (decl.and d ds) =
    IsProcedure g i k name n entry d ⊎ ProcedureIn q g i k name (routines_behind n d) (entries_behind q g n entry d) ds

-- ---- 2. entries

pub segment_append : (g : ℕ) (es fs : List Entry) → in_segment g (es ++ fs) ≡ in_segment g es ++ in_segment g fs
segment_append g [] fs = refl
segment_append g (e ∷ es) fs = by (nat_eq e.segment g) (segment_append g es fs) where
  by : (b : Bool) → in_segment g (es ++ fs) ≡ in_segment g es ++ in_segment g fs
      → (if b then e ∷ in_segment g (es ++ fs) else in_segment g (es ++ fs)) ≡ (if b then e ∷ in_segment g es else in_segment g es) ++ in_segment g fs
  by true h = ap (λ (xs : List Entry). e ∷ xs) h
  by false h = h

-- an entry of a segment is one of all
in_all_entries : (g : ℕ) (es : List Entry) (e : Entry) → IsIn e (in_segment g es) → IsIn e es
in_all_entries g [] e k = k
in_all_entries g (x ∷ es) e k = by (nat_eq x.segment g) k (λ j. in_all_entries g es e j) where
  by : (b : Bool) → IsIn e (if b then x ∷ in_segment g es else in_segment g es) → (IsIn e (in_segment g es) → IsIn e es) → IsIn e (x ∷ es)
  by true (at_front same) rest = at_front same
  by true (behind j) rest = behind (rest j)
  by false j rest = behind (rest j)

-- no entry of a subroutine is called by name
inner_own : (g : ℕ) (o : Owner) (d : Declaration) (e : Entry) → IsIn e (inner_entry g o d) → is_callable e.callee ≡ false
inner_own g o (decl.Declaration.subroutine h s) e (at_front same) = ap (λ (x : Entry). is_callable x.callee) same
inner_own g o (decl.Declaration.subroutine h s) e (behind k) = elim k [ ]
inner_own g o (decl.Declaration.procedure h items ss) e k = elim k [ ]
inner_own g o (decl.Declaration.data_items own k items) e j = elim j [ ]
inner_own g o (decl.Declaration.equate es) e k = elim k [ ]
inner_own g o (decl.Declaration.intrinsic xs) e k = elim k [ ]
inner_own g o (decl.Declaration.label xs) e k = elim k [ ]
inner_own g o (decl.Declaration.forward h) e k = elim k [ ]
inner_own g o (decl.Declaration.external h) e k = elim k [ ]

inner_in : (g : ℕ) (o : Owner) (ds : Declarations) (e : Entry) → IsIn e (inner_entries g o ds) → is_callable e.callee ≡ false
inner_in g o decl.none e k = elim k [ ]
inner_in g o (decl.and d ds) e k = by (in_parts e (inner_entry g o d) (inner_entries g o ds) k) (λ j. inner_in g o ds e j) where
  by : InEither e (inner_entry g o d) (inner_entries g o ds) → (IsIn e (inner_entries g o ds) → is_callable e.callee ≡ false) → is_callable e.callee ≡ false
  by (left j) rest = inner_own g o d e j
  by (right j) rest = rest j

-- so a called one is that of a procedure, the first of its declaration
own_entry : (main_segment g n entry : ℕ) (d : Declaration) (k : ℕ) (e : Entry) → slice_get (in_segment g (declared_entries main_segment n d)) k ≡ Some e
    → is_callable e.callee ≡ true → IsProcedure g n (entry + k) e.name n entry d
own_entry main_segment g n entry (decl.Declaration.procedure h items ss) k e is called = by (nat_eq h.segment g) refl k is where
  inner : (j : ℕ) → slice_get (in_segment g (inner_entries h.segment (routine n) items)) j ≡ Some e → ⊥
  inner j f =
      let none = inner_in h.segment (routine n) items e
      (in_all_entries g (inner_entries h.segment (routine n) items) e (in_place e (in_segment g (inner_entries h.segment (routine n) items)) j f)) in
      false≢true (sym none ∙ called)

  first : Entry
  first = record { name = h.name; segment = h.segment; callee = procedure }

  by : (b : Bool) → nat_eq h.segment g ≡ b → (j : ℕ)
      → slice_get (if b then first ∷ in_segment g (inner_entries h.segment (routine n) items)
      else in_segment g (inner_entries h.segment (routine n) items)) j ≡ Some e
      → (h.segment ≡ g) × (h.name ≡ e.name) × (n ≡ n) × (entry ≡ entry + j)
  by true here zero f = (eqb-true h.segment g here, ap (λ (x : Entry). x.name) (one_there first e f), refl, omega arith)
  by true here (suc j) f = absurd (inner j f)
  by false here j f = absurd (inner j f)
own_entry main_segment g n entry (decl.Declaration.subroutine h s) k e is called =
    let own : List Entry = inner_entry main_segment main (decl.Declaration.subroutine h s) in
    let none = inner_own main_segment main (decl.Declaration.subroutine h s) e (in_all_entries g own e (in_place e (in_segment g own) k is)) in
    absurd (false≢true (sym none ∙ called))
own_entry main_segment g n entry (decl.Declaration.data_items own k items) j e is called = cc
own_entry main_segment g n entry (decl.Declaration.equate es) k e is called = cc
own_entry main_segment g n entry (decl.Declaration.intrinsic xs) k e is called = cc
own_entry main_segment g n entry (decl.Declaration.label xs) k e is called = cc
own_entry main_segment g n entry (decl.Declaration.forward h) k e is called = cc
own_entry main_segment g n entry (decl.Declaration.external h) k e is called = cc

pub of_entry : (q : Placed) (g n entry : ℕ) (ds : Declarations) (k : ℕ) (e : Entry)
    → slice_get (in_segment g (entries_among q.unit.tree.segment n ds)) k ≡ Some e → is_callable e.callee ≡ true
    → (i : ℕ) × ProcedureIn q g i (entry + k) e.name n entry ds
of_entry q g n entry decl.none k e is called = cc
of_entry q g n entry (decl.and d ds) k e is called =
    by (at_parts e own rest k
    (sym (ap (λ (es : List Entry). slice_get es k)
    (segment_append g (declared_entries q.unit.tree.segment n d) (entries_among q.unit.tree.segment (routines_behind n d) ds))) ∙ is))
    (λ j f. of_entry q g (routines_behind n d) (entries_behind q g n entry d) ds j e f called) where
      own : List Entry
      own = in_segment g (declared_entries q.unit.tree.segment n d)

      rest : List Entry
      rest = in_segment g (entries_among q.unit.tree.segment (routines_behind n d) ds)

      by : AtEither e own rest k
          → ((j : ℕ) → slice_get rest j ≡ Some e
          → (i : ℕ) × ProcedureIn q g i (entries_behind q g n entry d + j) e.name (routines_behind n d) (entries_behind q g n entry d) ds)
          → (i : ℕ) × ProcedureIn q g i (entry + k) e.name n entry (decl.and d ds)
      by (before f) more = (n, inl (own_entry q.unit.tree.segment g n entry d k e f called))
      by (beyond j is f) more =
          let r = more j f in
          let same : (entry + length own) + j ≡ entry + k = omega (arith, is) in
          (r.0, inr (subst (λ (x : ℕ). ProcedureIn q g r.0 x e.name (routines_behind n d) (entries_behind q g n entry d) ds) same r.1))

-- and the other way round: the entry is of that name
own_there : (main_segment g i k : ℕ) (name : List ℕ) (n entry : ℕ) (d : Declaration) (rest : List Entry) → IsProcedure g i k name n entry d
    → slice_get (in_segment g (declared_entries main_segment n d) ++ rest) 0 ≡ Some (record { name = name; segment = g; callee = procedure })
own_there main_segment g i k name n entry (decl.Declaration.procedure h items ss) rest is =
    ap (λ (b : Bool). slice_get ((if b then first ∷ others else others) ++ rest) 0) (eq-eqb h.segment g is.0)
    ∙ ap (λ (s : ℕ). Some (entry_of h.name s)) is.0 ∙ ap (λ (x : List ℕ). Some (entry_of x g)) is.1 where
      entry_of : List ℕ → ℕ → Entry
      entry_of x s = record { name = x; segment = s; callee = procedure }

      first : Entry
      first = record { name = h.name; segment = h.segment; callee = procedure }

      others : List Entry
      others = in_segment g (inner_entries h.segment (routine n) items)
own_there main_segment g i k name n entry (decl.Declaration.subroutine h s) rest is = absurd is
own_there main_segment g i k name n entry (decl.Declaration.data_items own kind items) rest is = absurd is
own_there main_segment g i k name n entry (decl.Declaration.equate es) rest is = absurd is
own_there main_segment g i k name n entry (decl.Declaration.intrinsic xs) rest is = absurd is
own_there main_segment g i k name n entry (decl.Declaration.label xs) rest is = absurd is
own_there main_segment g i k name n entry (decl.Declaration.forward h) rest is = absurd is
own_there main_segment g i k name n entry (decl.Declaration.external h) rest is = absurd is

-- the entry of one is the place that its declaration has
own_place : (g i k : ℕ) (name : List ℕ) (n entry : ℕ) (d : Declaration) → IsProcedure g i k name n entry d → k ≡ entry + 0
own_place g i k name n entry (decl.Declaration.procedure h items ss) is = let same = is.3 in omega (arith, same)
own_place g i k name n entry (decl.Declaration.subroutine h s) is = absurd is
own_place g i k name n entry (decl.Declaration.data_items own kind items) is = absurd is
own_place g i k name n entry (decl.Declaration.equate es) is = absurd is
own_place g i k name n entry (decl.Declaration.intrinsic xs) is = absurd is
own_place g i k name n entry (decl.Declaration.label xs) is = absurd is
own_place g i k name n entry (decl.Declaration.forward h) is = absurd is
own_place g i k name n entry (decl.Declaration.external h) is = absurd is

pub entry_there : (q : Placed) (g i k : ℕ) (name : List ℕ) (n entry : ℕ) (ds : Declarations) → ProcedureIn q g i k name n entry ds
    → (j : ℕ) × (k ≡ entry + j)
    × (slice_get (in_segment g (entries_among q.unit.tree.segment n ds)) j ≡ Some (record { name = name; segment = g; callee = procedure }))
entry_there q g i k name n entry decl.none is = absurd is
entry_there q g i k name n entry (decl.and d ds) (inl own) =
    let rest : List Entry = entries_among q.unit.tree.segment (routines_behind n d) ds in (
      0,
      own_place g i k name n entry d own,
      ap (λ (es : List Entry). slice_get es 0) (segment_append g (declared_entries q.unit.tree.segment n d) rest)
          ∙ own_there q.unit.tree.segment g i k name n entry d (in_segment g rest) own,
    )
entry_there q g i k name n entry (decl.and d ds) (inr later) =
    let own : List Entry = in_segment g (declared_entries q.unit.tree.segment n d) in
    let rest : List Entry = entries_among q.unit.tree.segment (routines_behind n d) ds in
    let r = entry_there q g i k name (routines_behind n d) (entries_behind q g n entry d) ds later in
    let same = r.1 in (
      length own + r.0,
      omega (arith, same),
      ap (λ (es : List Entry). slice_get es (length own + r.0)) (segment_append g (declared_entries q.unit.tree.segment n d) rest)
          ∙ at_beyond own (in_segment g rest) r.0 ∙ r.2,
    )

-- ---- 3. procedures with bodies

-- how many procedures a declaration is
behind_count : (table : Table Sort) (m n : ℕ) (d : Declaration) → routines_behind n d ≡ n + length (routine_in table m d)
behind_count table m n (decl.Declaration.procedure h items ss) = omega arith
behind_count table m n (decl.Declaration.subroutine h s) = omega arith
behind_count table m n (decl.Declaration.data_items own k items) = omega arith
behind_count table m n (decl.Declaration.equate es) = omega arith
behind_count table m n (decl.Declaration.intrinsic xs) = omega arith
behind_count table m n (decl.Declaration.label xs) = omega arith
behind_count table m n (decl.Declaration.forward h) = omega arith
behind_count table m n (decl.Declaration.external h) = omega arith

own_routine : (g n entry : ℕ) (table : Table Sort) (m : ℕ) (d : Declaration) (j : ℕ) (r : Routine) → slice_get (routine_in table m d) j ≡ Some r
    → r.heading.segment ≡ g → IsProcedure g (n + j) entry r.heading.name n entry d
own_routine g n entry table m (decl.Declaration.procedure h items ss) zero r is segment =
    let globals : Table Sort = with_declaration nothing_declared table (decl.Declaration.procedure h items ss) in
    let same : record { heading = h; items = items; statements = ss; globals = globals; before = m } ≡ r = cc in
    (ap (λ (x : Routine). x.heading.segment) same ∙ segment, ap (λ (x : Routine). x.heading.name) same, omega arith, refl)
own_routine g n entry table m (decl.Declaration.procedure h items ss) (suc j) r is segment = cc
own_routine g n entry table m (decl.Declaration.subroutine h s) j r is segment = cc
own_routine g n entry table m (decl.Declaration.data_items own k items) j r is segment = cc
own_routine g n entry table m (decl.Declaration.equate es) j r is segment = cc
own_routine g n entry table m (decl.Declaration.intrinsic xs) j r is segment = cc
own_routine g n entry table m (decl.Declaration.label xs) j r is segment = cc
own_routine g n entry table m (decl.Declaration.forward h) j r is segment = cc
own_routine g n entry table m (decl.Declaration.external h) j r is segment = cc

pub of_routine : (q : Placed) (g n entry : ℕ) (table : Table Sort) (m : ℕ) (ds : Declarations) (j : ℕ) (r : Routine)
    → slice_get (routines_among table m ds) j ≡ Some r → r.heading.segment ≡ g → (k : ℕ) × ProcedureIn q g (n + j) k r.heading.name n entry ds
of_routine q g n entry table m decl.none j r is segment = cc
of_routine q g n entry table m (decl.and d ds) j r is segment =
    by (at_parts r (routine_in table m d) others j is)
    (λ i f. of_routine q g (routines_behind n d) (entries_behind q g n entry d) (with_declaration nothing_declared table d) (m + declaration_stops d) ds i r
    f segment) where
      others : List Routine
      others = routines_among (with_declaration nothing_declared table d) (m + declaration_stops d) ds

      by : AtEither r (routine_in table m d) others j
          → ((i : ℕ) → slice_get others i ≡ Some r
          → (k : ℕ) × ProcedureIn q g (routines_behind n d + i) k r.heading.name (routines_behind n d) (entries_behind q g n entry d) ds)
          → (k : ℕ) × ProcedureIn q g (n + j) k r.heading.name n entry (decl.and d ds)
      by (before f) more = (entry, inl (own_routine g n entry table m d j r f segment))
      by (beyond i is f) more =
          let x = more i f in
          let count = behind_count table m n d in
          let same : routines_behind n d + i ≡ n + j = omega (arith, is, count) in
          (x.0, inr (subst (λ (y : ℕ). ProcedureIn q g y x.0 r.heading.name (routines_behind n d) (entries_behind q g n entry d) ds) same x.1))

-- the procedure of such a declaration
pub record RoutineThere (rs : List Routine) (g i n : ℕ) (name : List ℕ) : Type 0 where
  pub place : ℕ
  pub number : i ≡ n + place
  pub is : Routine
  pub there : slice_get rs place ≡ Some is
  pub named : is.heading.name ≡ name
  pub segment : is.heading.segment ≡ g

routine_own : (table : Table Sort) (m g i k : ℕ) (name : List ℕ) (n entry : ℕ) (d : Declaration) (others : List Routine) → IsProcedure g i k name n entry d
    → RoutineThere (routine_in table m d ++ others) g i n name
routine_own table m g i k name n entry (decl.Declaration.procedure h items ss) others is =
    let number = is.2 in
    let globals : Table Sort = with_declaration nothing_declared table (decl.Declaration.procedure h items ss) in
    record {
      place = 0;
      number = omega (arith, number);
      is = record { heading = h; items = items; statements = ss; globals = globals; before = m };
      there = refl;
      named = is.1;
      segment = is.0;
    }
routine_own table m g i k name n entry (decl.Declaration.subroutine h s) others is = absurd is
routine_own table m g i k name n entry (decl.Declaration.data_items own kind items) others is = absurd is
routine_own table m g i k name n entry (decl.Declaration.equate es) others is = absurd is
routine_own table m g i k name n entry (decl.Declaration.intrinsic xs) others is = absurd is
routine_own table m g i k name n entry (decl.Declaration.label xs) others is = absurd is
routine_own table m g i k name n entry (decl.Declaration.forward h) others is = absurd is
routine_own table m g i k name n entry (decl.Declaration.external h) others is = absurd is

pub routine_there : (q : Placed) (g i k : ℕ) (name : List ℕ) (n entry : ℕ) (table : Table Sort) (m : ℕ) (ds : Declarations)
    → ProcedureIn q g i k name n entry ds → RoutineThere (routines_among table m ds) g i n name
routine_there q g i k name n entry table m decl.none is = absurd is
routine_there q g i k name n entry table m (decl.and d ds) (inl own) =
    routine_own table m g i k name n entry d (routines_among (with_declaration nothing_declared table d) (m + declaration_stops d) ds) own
routine_there q g i k name n entry table m (decl.and d ds) (inr later) =
    let others : List Routine = routines_among (with_declaration nothing_declared table d) (m + declaration_stops d) ds in
    let r = routine_there q g i k name (routines_behind n d) (entries_behind q g n entry d) (with_declaration nothing_declared table d)
    (m + declaration_stops d) ds later in
    let number = r.number in
    let count = behind_count table m n d in
    record {
      place = length (routine_in table m d) + r.place;
      number = omega (arith, number, count);
      is = r.is;
      there = at_beyond (routine_in table m d) others r.place ∙ r.there;
      named = r.named;
      segment = r.segment;
    }
