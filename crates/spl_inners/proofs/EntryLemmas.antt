-- Where the subroutine of a name is declared: its number among those of its body, and its entry.
-- 1. of a main body, among the declarations of its unit              (InnerIn, MainFound, main_found)
-- 2. of a procedure, behind that one's entry                          (SplitAt, split_at, routine_found)
use Rattle.std.proofs.Common.{◌≡◌, ℕ, zero, suc, ◌+◌, ◌<◌, Bool, true, false, List, [], ◌∷◌, ◌++◌, length, Some, ◌⊎◌, inl, inr, refl, sym, ap, subst, ◌∙◌, arith, append_assoc, append-nil}
use Rattle.std.specs.Prelude.{slice_get, if◌then◌else◌}
use Rattle.std.proofs.lemmas.Bool.{eq-eqb, ne_eqb}
use Rattle.spl_routes.specs.spl_tree.DeclarationTrees as decl
use Rattle.spl_routes.specs.spl_tree.DeclarationTrees.{Declaration, Declarations, declarations}
use Rattle.spl_routes.specs.spl_meaning.Names.{Sort, Table, find, same_name, nothing_declared}
use Rattle.spl_routes.specs.spl_meaning.Stops.{declaration_stops}
use Rattle.spl_routes.specs.spl_meaning.Tables.{Routine, routine_in, routines_among, with_declaration, routine_subroutines, Subroutine, subroutine_in, subroutines_among, subroutine_named}
use Rattle.spl_routes.specs.spl_scopes.Entries.{main, routine, Owner, Entry, procedure, is_inner, indexes, inner_entries, declared_entries, routines_behind, entries_among, in_segment, module_entries}
use Rattle.spl_routes.specs.spl_scopes.Scopes.{Placed}
use Rattle.spl_routes.specs.spl_module_code.Modules.{inner_behind, entries_behind}
use Rattle.spl_routes.proofs.spl_routines_proofs.ListLemmas.{at_parts, AtEither, before, beyond, at_beyond, one_there}
use Rattle.spl_routes.proofs.spl_routines_proofs.EntryLemmas.{ProcedureIn, segment_append}
use Rattle.spl_inners.proofs.IndexLemmas.{indexes_append, indexes_none, AreOthers, others_both, others_in, own_entry, own_entries, own_are, own_all, own_at, own_others, own_found}

-- what stands at a place of a list stands there in a longer one
at_first : {A : Type 0} (xs ys : List A) (k : ℕ) (x : A) → slice_get xs k ≡ Some x → slice_get (xs ++ ys) k ≡ Some x
at_first [] ys k x is = cc
at_first (y ∷ xs) ys zero x is = is
at_first (y ∷ xs) ys (suc k) x is = at_first xs ys k x is

-- ---- 1. main bodies

-- a declaration is a subroutine of the main body, and has this number and this entry
abbrev pub IsInner : ℕ → ℕ → ℕ → ℕ → Declaration → Type 0
IsInner i k j entry (decl.Declaration.subroutine h s) = (j ≡ i) × (entry ≡ k)
IsInner i k j entry d = ⊥

-- so is one of some declarations, behind n procedures, j subroutines and so many entries of the segment
abbrev pub InnerIn : Placed → ℕ → ℕ → ℕ → ℕ → ℕ → ℕ → Declarations → Type 0
InnerIn q g i k n j entry decl.none = ⊥
InnerIn q g i k n j entry (decl.and d ds) =
    IsInner i k j entry d ⊎ InnerIn q g i k (routines_behind n d) (inner_behind j d) (entries_behind q g n entry d) ds

-- the subroutine that some declarations of a unit mean by a name, and its index
pub record MainFound (q : Placed) (n j entry m : ℕ) (ds : Declarations) (x : List ℕ) (index : ℕ) : Type 0 where
  pub place : ℕ
  pub is : Subroutine
  pub there : slice_get (subroutines_among m ds) place ≡ Some is
  pub means : subroutine_named (subroutines_among m ds) x ≡ Some is
  pub at : InnerIn q q.unit.tree.segment (j + place) index n j entry ds
  pub offset : ℕ
  pub number : index ≡ entry + offset
  pub entered : slice_get (in_segment q.unit.tree.segment (entries_among q.unit.tree.segment n ds)) offset ≡ Some (own_entry q.unit.tree.segment main is)

-- the entries of a declaration, and those behind it
parted : (g s n entry : ℕ) (d : Declaration) (ds : Declarations)
    → indexes (is_inner main) entry (in_segment g (entries_among s n (decl.and d ds)))
    ≡ indexes (is_inner main) entry (in_segment g (declared_entries s n d))
    ++ indexes (is_inner main) (entry + length (in_segment g (declared_entries s n d))) (in_segment g (entries_among s (routines_behind n d) ds))
parted g s n entry d ds =
    ap (λ (es : List Entry). indexes (is_inner main) entry es) (segment_append g (declared_entries s n d) (entries_among s (routines_behind n d) ds))
    ∙ indexes_append (is_inner main) entry (in_segment g (declared_entries s n d)) (in_segment g (entries_among s (routines_behind n d) ds))

module _ (q : Placed) (x : List ℕ) (index : ℕ) where
  abbrev seg : ℕ
  seg = q.unit.tree.segment

  abbrev here : ℕ → Declaration → List Entry
  here n d = in_segment seg (declared_entries seg n d)

  abbrev behind : ℕ → Declaration → Declarations → List Entry
  behind n d ds = in_segment seg (entries_among seg (routines_behind n d) ds)

  entered_later : (n : ℕ) (d : Declaration) (ds : Declarations) (offset : ℕ) (e : Entry) → slice_get (behind n d ds) offset ≡ Some e
      → slice_get (in_segment seg (entries_among seg n (decl.and d ds))) (length (here n d) + offset) ≡ Some e
  entered_later n d ds offset e is =
      ap (λ (es : List Entry). slice_get es (length (here n d) + offset)) (segment_append seg (declared_entries seg n d) (entries_among seg (routines_behind n d) ds))
      ∙ at_beyond (here n d) (behind n d ds) offset ∙ is

  -- behind what is no subroutine of the main body
  later : (n j entry m : ℕ) (d : Declaration) (ds : Declarations) → subroutine_in m d ≡ [] → inner_behind j d ≡ j
      → MainFound q (routines_behind n d) (inner_behind j d) (entries_behind q seg n entry d) (m + declaration_stops d) ds x index
      → MainFound q n j entry m (decl.and d ds) x index
  later n j entry m d ds none count f =
      let number = f.number in
      record {
        place = f.place;
        is = f.is;
        there = ap (λ (ss : List Subroutine). slice_get (ss ++ subroutines_among (m + declaration_stops d) ds) f.place) none ∙ f.there;
        means = ap (λ (ss : List Subroutine). subroutine_named (ss ++ subroutines_among (m + declaration_stops d) ds) x) none ∙ f.means;
        at = inr (subst (λ (k : ℕ). InnerIn q seg (k + f.place) index (routines_behind n d) (inner_behind j d) (entries_behind q seg n entry d) ds) count f.at);
        offset = length (here n d) + f.offset;
        number = omega (arith, number);
        entered = entered_later n d ds f.offset (own_entry seg main f.is) f.entered;
      }

  -- where the index is behind the entries of a declaration
  found_later : (n entry : ℕ) (d : Declaration) (ds : Declarations) → AreOthers main (here n d)
      → find (indexes (is_inner main) entry (in_segment seg (entries_among seg n (decl.and d ds)))) x ≡ Some index
      → find (indexes (is_inner main) (entries_behind q seg n entry d) (behind n d ds)) x ≡ Some index
  found_later n entry d ds others is =
      sym (ap (λ (t : Table ℕ). find t x)
      (parted seg seg n entry d ds
      ∙ ap (λ (t : Table ℕ). t ++ indexes (is_inner main) (entries_behind q seg n entry d) (behind n d ds)) (indexes_none main entry (here n d) others)))
      ∙ is

  pub main_found : (n j entry m : ℕ) (ds : Declarations) → find (indexes (is_inner main) entry (in_segment seg (entries_among seg n ds))) x ≡ Some index
      → MainFound q n j entry m ds x index
  main_found n j entry m decl.none is = cc
  main_found n j entry m (decl.and (decl.Declaration.data_items own k items) ds) is =
      let d = decl.Declaration.data_items own k items in
      later n j entry m d ds refl refl (main_found n j (entries_behind q seg n entry d) (m + declaration_stops d) ds (found_later n entry d ds tt is))
  main_found n j entry m (decl.and (decl.Declaration.equate es) ds) is =
      let d = decl.Declaration.equate es in
      later n j entry m d ds refl refl (main_found n j (entries_behind q seg n entry d) (m + declaration_stops d) ds (found_later n entry d ds tt is))
  main_found n j entry m (decl.and (decl.Declaration.intrinsic xs) ds) is =
      let d = decl.Declaration.intrinsic xs in
      later n j entry m d ds refl refl (main_found n j (entries_behind q seg n entry d) (m + declaration_stops d) ds (found_later n entry d ds tt is))
  main_found n j entry m (decl.and (decl.Declaration.label xs) ds) is =
      let d = decl.Declaration.label xs in
      later n j entry m d ds refl refl (main_found n j (entries_behind q seg n entry d) (m + declaration_stops d) ds (found_later n entry d ds tt is))
  main_found n j entry m (decl.and (decl.Declaration.forward h) ds) is =
      let d = decl.Declaration.forward h in
      later n j entry m d ds refl refl (main_found n j (entries_behind q seg n entry d) (m + declaration_stops d) ds (found_later n entry d ds tt is))
  main_found n j entry m (decl.and (decl.Declaration.external h) ds) is =
      let d = decl.Declaration.external h in
      later n j entry m d ds refl refl (main_found n j (entries_behind q seg n entry d) (m + declaration_stops d) ds (found_later n entry d ds tt is))
  main_found n j entry m (decl.and (decl.Declaration.procedure h items ss) ds) is =
      let d = decl.Declaration.procedure h items ss in
      let others = others_in main seg (declared_entries seg n d)
      (refl, subst (λ (es : List Entry). AreOthers main es) (sym (own_are h.segment (routine n) 0 items)) (own_others h.segment main (routine n) (subroutines_among 0 items) refl)) in
      later n j entry m d ds refl refl (main_found (suc n) j (entries_behind q seg n entry d) (m + declaration_stops d) ds (found_later n entry d ds others is))
  main_found n j entry m (decl.and (decl.Declaration.subroutine h s) ds) is =
      by (same_name x h.name) refl is_one (λ f. main_found n (suc j) (entries_behind q seg n entry d) (m + declaration_stops d) ds f) where
        d : Declaration
        d = decl.Declaration.subroutine h s

        its : Subroutine
        its = record { heading = h; statement = s; before = m }

        others : Table ℕ
        others = indexes (is_inner main) (entries_behind q seg n entry d) (behind n d ds)

        -- its one entry is of the segment
        one : here n d ≡ own_entry seg main its ∷ []
        one = ap (λ (b : Bool). if b then own_entry seg main its ∷ [] else []) (eq-eqb seg seg refl)

        is_one : (if same_name x h.name then Some entry else find others x) ≡ Some index
        is_one = sym (ap (λ (t : Table ℕ). find t x) (parted seg seg n entry d ds ∙ ap (λ (es : List Entry). indexes (is_inner main) entry es ++ others) one)) ∙ is

        by : (b : Bool) → same_name x h.name ≡ b → (if b then Some entry else find others x) ≡ Some index
            → (find others x ≡ Some index → MainFound q n (suc j) (entries_behind q seg n entry d) (m + declaration_stops d) ds x index)
            → MainFound q n j entry m (decl.and d ds) x index
        by true same f rest =
            let here' = one_there entry index f in
            record {
              place = 0;
              is = its;
              there = refl;
              means = ap (λ (b : Bool). if b then Some its else subroutine_named (subroutines_among (m + declaration_stops d) ds) x) same;
              at = inl (omega arith, here');
              offset = 0;
              number = omega (arith, here');
              entered =
                  ap (λ (es : List Entry). slice_get es 0) (segment_append seg (declared_entries seg n d) (entries_among seg (routines_behind n d) ds))
                  ∙ ap (λ (es : List Entry). slice_get (es ++ behind n d ds) 0) one;
            }
        by false same f rest =
            let r = rest f in
            let number = r.number in
            let next : suc j + r.place ≡ j + suc r.place = omega arith in
            record {
              place = suc r.place;
              is = r.is;
              there = r.there;
              means = ap (λ (b : Bool). if b then Some its else subroutine_named (subroutines_among (m + declaration_stops d) ds) x) same ∙ r.means;
              at = inr (subst (λ (k : ℕ). InnerIn q seg k index n (suc j) (entries_behind q seg n entry d) ds) next r.at);
              offset = length (here n d) + r.offset;
              number = omega (arith, number);
              entered = entered_later n d ds r.offset (own_entry seg main r.is) r.entered;
            }

-- ---- 2. procedures

abbrev routine_entry : ℕ → Routine → Entry
routine_entry g r = record { name = r.heading.name; segment = g; callee = procedure }

-- among the entries of a segment are those of a procedure: its own, and behind it those of its subroutines; no other is of a subroutine of that procedure
pub record SplitAt (q : Placed) (g i n entry : ℕ) (r : Routine) (ds : Declarations) : Type 0 where
  pub before : List Entry
  pub behind : List Entry
  pub is : in_segment g (entries_among q.unit.tree.segment n ds)
      ≡ before ++ routine_entry g r ∷ (own_entries g (routine i) (routine_subroutines r) ++ behind)
  pub none_before : AreOthers (routine i) before
  pub none_behind : AreOthers (routine i) behind
  pub procedure' : ProcedureIn q g i (entry + length before) r.heading.name n entry ds

-- a declaration that is not that procedure has no such entry
declared_others : (s n i : ℕ) (d : Declaration) → (i ≡ n → ⊥) → AreOthers (routine i) (declared_entries s n d)
declared_others s n i (decl.Declaration.procedure h items ss) other = (
  refl,
  subst (λ (es : List Entry). AreOthers (routine i) es) (sym (own_are h.segment (routine n) 0 items))
      (own_others h.segment (routine i) (routine n) (subroutines_among 0 items) (ne_eqb i n other)),
)
declared_others s n i (decl.Declaration.subroutine h t) other = (refl, tt)
declared_others s n i (decl.Declaration.data_items own k items) other = tt
declared_others s n i (decl.Declaration.equate es) other = tt
declared_others s n i (decl.Declaration.intrinsic xs) other = tt
declared_others s n i (decl.Declaration.label xs) other = tt
declared_others s n i (decl.Declaration.forward h) other = tt
declared_others s n i (decl.Declaration.external h) other = tt

-- procedures only become more
routines_grow : (n : ℕ) (d : Declaration) (i : ℕ) → i < n → i < routines_behind n d
routines_grow n (decl.Declaration.procedure h items ss) i low = omega (arith, low)
routines_grow n (decl.Declaration.subroutine h s) i low = low
routines_grow n (decl.Declaration.data_items own k items) i low = low
routines_grow n (decl.Declaration.equate es) i low = low
routines_grow n (decl.Declaration.intrinsic xs) i low = low
routines_grow n (decl.Declaration.label xs) i low = low
routines_grow n (decl.Declaration.forward h) i low = low
routines_grow n (decl.Declaration.external h) i low = low

-- nor has what stands behind that procedure
others_among : (s n i : ℕ) (ds : Declarations) → i < n → AreOthers (routine i) (entries_among s n ds)
others_among s n i decl.none low = tt
others_among s n i (decl.and d ds) low =
    others_both (routine i) (declared_entries s n d) (entries_among s (routines_behind n d) ds) (declared_others s n i d (λ e. absurd (omega (arith, low, e))))
    (others_among s (routines_behind n d) i ds (routines_grow n d i low))

-- how many procedures a declaration is
behind_count : (table : Table Sort) (m n : ℕ) (d : Declaration) → routines_behind n d ≡ n + length (routine_in table m d)
behind_count table m n (decl.Declaration.procedure h items ss) = omega arith
behind_count table m n (decl.Declaration.subroutine h s) = omega arith
behind_count table m n (decl.Declaration.data_items own k items) = omega arith
behind_count table m n (decl.Declaration.equate es) = omega arith
behind_count table m n (decl.Declaration.intrinsic xs) = omega arith
behind_count table m n (decl.Declaration.label xs) = omega arith
behind_count table m n (decl.Declaration.forward h) = omega arith
behind_count table m n (decl.Declaration.external h) = omega arith

-- a procedure's declaration begins with its entries
split_here : (q : Placed) (g n entry : ℕ) (table : Table Sort) (m : ℕ) (d : Declaration) (ds : Declarations) (j : ℕ) (r : Routine)
    → slice_get (routine_in table m d) j ≡ Some r → r.heading.segment ≡ g → SplitAt q g (n + j) n entry r (decl.and d ds)
split_here q g n entry table m (decl.Declaration.procedure h items ss) ds zero r is segment =
    subst (λ (y : Routine). SplitAt q g (n + 0) n entry y (decl.and d ds)) (one_there its r is)
    (subst (λ (k : ℕ). SplitAt q g k n entry its (decl.and d ds)) none own) where
      d : Declaration
      d = decl.Declaration.procedure h items ss

      its : Routine
      its = record { heading = h; items = items; statements = ss; globals = with_declaration nothing_declared table (decl.Declaration.procedure h items ss); before = m }

      none : n ≡ n + 0
      none = omega arith

      there : h.segment ≡ g
      there = ap (λ (y : Routine). y.heading.segment) (one_there its r is) ∙ segment

      rest : List Entry
      rest = in_segment g (entries_among q.unit.tree.segment (suc n) ds)

      entries : in_segment g (declared_entries q.unit.tree.segment n (decl.Declaration.procedure h items ss)) ≡ routine_entry g its ∷ own_entries g (routine n) (routine_subroutines its)
      entries =
          subst (λ (s : ℕ). in_segment g (record { name = h.name; segment = s; callee = procedure } ∷ inner_entries s (routine n) items)
          ≡ routine_entry g its ∷ own_entries g (routine n) (subroutines_among m items)) (sym there)
          (ap (λ (b : Bool). if b then routine_entry g its ∷ in_segment g (inner_entries g (routine n) items) else in_segment g (inner_entries g (routine n) items)) (eq-eqb g g refl)
          ∙ ap (λ (es : List Entry). routine_entry g its ∷ in_segment g es) (own_are g (routine n) m items)
          ∙ ap (λ (es : List Entry). routine_entry g its ∷ es) (own_all g (routine n) (subroutines_among m items)))

      own : SplitAt q g n n entry its (decl.and d ds)
      own = record {
        before = [];
        behind = rest;
        is =
            segment_append g (declared_entries q.unit.tree.segment n (decl.Declaration.procedure h items ss)) (entries_among q.unit.tree.segment (suc n) ds)
            ∙ ap (λ (es : List Entry). es ++ in_segment g (entries_among q.unit.tree.segment (suc n) ds)) entries;
        none_before = tt;
        none_behind = others_in (routine n) g (entries_among q.unit.tree.segment (suc n) ds) (others_among q.unit.tree.segment (suc n) n ds (omega arith));
        procedure' = inl (there, refl, refl, omega arith);
      }
split_here q g n entry table m (decl.Declaration.procedure h items ss) ds (suc j) r is segment = cc
split_here q g n entry table m (decl.Declaration.subroutine h s) ds j r is segment = cc
split_here q g n entry table m (decl.Declaration.data_items own k items) ds j r is segment = cc
split_here q g n entry table m (decl.Declaration.equate es) ds j r is segment = cc
split_here q g n entry table m (decl.Declaration.intrinsic xs) ds j r is segment = cc
split_here q g n entry table m (decl.Declaration.label xs) ds j r is segment = cc
split_here q g n entry table m (decl.Declaration.forward h) ds j r is segment = cc
split_here q g n entry table m (decl.Declaration.external h) ds j r is segment = cc

length_both : (es fs : List Entry) → length (es ++ fs) ≡ length es + length fs
length_both [] fs = omega arith
length_both (e ∷ es) fs = let rest = length_both es fs in omega (arith, rest)

-- behind another declaration
split_later : (q : Placed) (g i n entry : ℕ) (r : Routine) (d : Declaration) (ds : Declarations) → AreOthers (routine i) (declared_entries q.unit.tree.segment n d)
    → SplitAt q g i (routines_behind n d) (entries_behind q g n entry d) r ds → SplitAt q g i n entry r (decl.and d ds)
split_later q g i n entry r d ds others x =
    let own : List Entry = in_segment g (declared_entries q.unit.tree.segment n d) in
    let last : List Entry = routine_entry g r ∷ (own_entries g (routine i) (routine_subroutines r) ++ x.behind) in
    let sum = length_both own x.before in
    let place : (entry + length own) + length x.before ≡ entry + length (own ++ x.before) = omega (arith, sum) in
    record {
      before = own ++ x.before;
      behind = x.behind;
      is = segment_append g (declared_entries q.unit.tree.segment n d) (entries_among q.unit.tree.segment (routines_behind n d) ds)
          ∙ ap (λ (es : List Entry). own ++ es) x.is ∙ sym (append_assoc own x.before last);
      none_before = others_both (routine i) own x.before (others_in (routine i) g (declared_entries q.unit.tree.segment n d) others) x.none_before;
      none_behind = x.none_behind;
      procedure' = inr (subst (λ (k : ℕ). ProcedureIn q g i k r.heading.name (routines_behind n d) (entries_behind q g n entry d) ds) place x.procedure');
    }

pub split_at : (q : Placed) (g n entry : ℕ) (table : Table Sort) (m : ℕ) (ds : Declarations) (j : ℕ) (r : Routine)
    → slice_get (routines_among table m ds) j ≡ Some r → r.heading.segment ≡ g → SplitAt q g (n + j) n entry r ds
split_at q g n entry table m decl.none j r is segment = cc
split_at q g n entry table m (decl.and d ds) j r is segment =
    by (at_parts r (routine_in table m d) others j is)
    (λ i f. split_at q g (routines_behind n d) (entries_behind q g n entry d) (with_declaration nothing_declared table d) (m + declaration_stops d) ds i r f segment) where
      others : List Routine
      others = routines_among (with_declaration nothing_declared table d) (m + declaration_stops d) ds

      -- where the declaration is a procedure, that one has another number
      differs : (e : Declaration) (i : ℕ) → j ≡ length (routine_in table m e) + i → AreOthers (routine (n + j)) (declared_entries q.unit.tree.segment n e)
      differs (decl.Declaration.procedure h items ss) i is =
          declared_others q.unit.tree.segment n (n + j) (decl.Declaration.procedure h items ss) (λ e. absurd (omega (arith, is, e)))
      differs (decl.Declaration.subroutine h s) i is = (refl, tt)
      differs (decl.Declaration.data_items own k items) i is = tt
      differs (decl.Declaration.equate es) i is = tt
      differs (decl.Declaration.intrinsic xs) i is = tt
      differs (decl.Declaration.label xs) i is = tt
      differs (decl.Declaration.forward h) i is = tt
      differs (decl.Declaration.external h) i is = tt

      by : AtEither r (routine_in table m d) others j
          → ((i : ℕ) → slice_get others i ≡ Some r → SplitAt q g (routines_behind n d + i) (routines_behind n d) (entries_behind q g n entry d) r ds)
          → SplitAt q g (n + j) n entry r (decl.and d ds)
      by (before f) more = split_here q g n entry table m d ds j r f segment
      by (beyond i is f) more =
          let count = behind_count table m n d in
          let same : routines_behind n d + i ≡ n + j = omega (arith, is, count) in
          split_later q g (n + j) n entry r d ds (differs d i is)
          (subst (λ (y : ℕ). SplitAt q g y (routines_behind n d) (entries_behind q g n entry d) r ds) same (more i f))

-- the subroutine that a procedure means by a name, and its index behind the procedure's entry
pub record RoutineFound (q : Placed) (g i : ℕ) (r : Routine) (x : List ℕ) (index : ℕ) : Type 0 where
  pub entry : ℕ
  pub procedure' : ProcedureIn q g i entry r.heading.name 0 0 (declarations q.unit.tree.items)
  pub place : ℕ
  pub number : index ≡ suc entry + place
  pub is : Subroutine
  pub there : slice_get (routine_subroutines r) place ≡ Some is
  pub means : subroutine_named (routine_subroutines r) x ≡ Some is
  pub entered : slice_get (module_entries q.unit g) index ≡ Some (own_entry g (routine i) is)

pub routine_found : (q : Placed) (g i : ℕ) (r : Routine) (x : List ℕ) (index : ℕ) → SplitAt q g i 0 0 r (declarations q.unit.tree.items)
    → find (indexes (is_inner (routine i)) 0 (module_entries q.unit g)) x ≡ Some index → RoutineFound q g i r x index
routine_found q g i r x index s is =
    let o : Owner = routine i in
    let own : List Entry = own_entries g o (routine_subroutines r) in
    let last : List Entry = routine_entry g r ∷ (own ++ s.behind) in
    let k = 0 + length s.before in
    let alone : indexes (is_inner o) 0 (module_entries q.unit g) ≡ indexes (is_inner o) (suc k) own =
    ap (λ (es : List Entry). indexes (is_inner o) 0 es) s.is ∙ indexes_append (is_inner o) 0 s.before last
    ∙ ap (λ (t : Table ℕ). t ++ indexes (is_inner o) k last) (indexes_none o 0 s.before s.none_before)
    ∙ indexes_append (is_inner o) (suc k) own s.behind
    ∙ ap (λ (t : Table ℕ). indexes (is_inner o) (suc k) own ++ t) (indexes_none o (suc k + length own) s.behind s.none_behind)
    ∙ append-nil (indexes (is_inner o) (suc k) own) in
    let f = own_found g o (suc k) (routine_subroutines r) x index (sym (ap (λ (t : Table ℕ). find t x) alone) ∙ is) in
    let number = f.number in
    let place : index ≡ length s.before + suc f.place = omega (arith, number) in
    record {
      entry = k;
      procedure' = s.procedure';
      place = f.place;
      number = f.number;
      is = f.is;
      there = f.there;
      means = f.means;
      entered = ap (λ (n : ℕ). slice_get (module_entries q.unit g) n) place
          ∙ ap (λ (es : List Entry). slice_get es (length s.before + suc f.place)) s.is ∙ at_beyond s.before last (suc f.place)
          ∙ at_first own s.behind f.place (own_entry g o f.is) (own_at g o (routine_subroutines r) f.place f.is f.there);
    }
