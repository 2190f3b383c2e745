-- What is entered along the declarations of a unit are the entries of its modules.
-- 1. entries one by one are, in each segment, the segment's entries behind those that were there       (made_behind, procedures_behind)
-- 2. along declarations they are the entries of the declarations                                        (entered_all)
-- 3. the main body's subroutines have their indexes among those of its segment                           (main_all)
-- 4. and so have those of each procedure, whose entries stand one behind the other                       (routines_found)
use Rattle.std.proofs.Common.{ℕ, zero, suc, zero-add, ◌≡◌, ◌<◌, ◌≤◌, ◌+◌, arith, add-zero, length-append, Bool, true, false, nat_eq, List, [], ◌∷◌, ◌++◌, length, Option, Some, None, refl, sym, ap, ◌∙◌}
use Rattle.std.specs.Prelude.{if◌then◌else◌}
use Rattle.std.specs.List.{slice_get}
use Rattle.spl_tree.specs.DeclarationTrees as decl
use Rattle.spl_tree.specs.DeclarationTrees.{Heading, Declaration, Declarations, declarations}
use Rattle.spl_sound.specs.spl_meaning.Stops.{declaration_stops}
use Rattle.std.proofs.lemmas.Bool.{eq-eqb, ne_eqb}
use Rattle.spl_sound.specs.spl_meaning.Names.{Sort, Table, find, nothing_declared}
use Rattle.spl_sound.specs.spl_meaning.Tables.{Source, Routine, with_declaration, routines_among}
use Rattle.spl_sound.specs.spl_meaning.Places.{only}
use Rattle.spl_places.specs.spl_found.OwnNames.{with_name}
use Rattle.spl_scopes.specs.Entries.{Owner, main, routine, Callee, procedure, subroutine, Entry, inner_entry, inner_entries, declared_entries, routines_behind, entries_among, in_segment, is_callable, is_inner, indexes}
use Rattle.spl_places.specs.NameMaps.{behind_table}
use Rattle.spl_places.proofs.NameMapLemmas.{behind_more, behind_none, behind_nothing}
use Rattle.spl_modules.specs.Made.{Made, made_from}
use Rattle.spl_modules.specs.Entered.{Indexes, Entered, and_made, and_procedure, with_entry, behind_entries, and_inner, inner_index, inner_indexes, Walk, with_declared, with_all, nothing_entered}
use Rattle.spl_modules.specs.UnitModules.{IsUnitModules}

-- ---- lists

append_same : {A : Type 0} (xs ys zs : List A) → xs ++ ys ++ zs ≡ xs ++ (ys ++ zs)
append_same [] ys zs = refl
append_same (x ∷ xs) ys zs = ap (λ ws. x ∷ ws) (append_same xs ys zs)

nothing_behind : {A : Type 0} (xs : List A) → xs ++ [] ≡ xs
nothing_behind [] = refl
nothing_behind (x ∷ xs) = ap (λ ws. x ∷ ws) (nothing_behind xs)

length_more : {A : Type 0} (xs : List A) (x : A) → length (xs ++ x ∷ []) ≡ suc (length xs)
length_more [] x = refl
length_more (y ∷ xs) x = ap suc (length_more xs x)

-- ---- numbers

suc_right : (k n : ℕ) → suc k + n ≡ k + suc n
suc_right k n = omega arith

same_self : (n : ℕ) → nat_eq n n ≡ true
same_self n = eq-eqb n n refl

other : (m n : ℕ) → (m ≡ n → ⊥) → nat_eq m n ≡ false
other m n ne = ne_eqb m n ne

lower : (m n : ℕ) → m < n → nat_eq m n ≡ false
lower m n lt = other m n (λ is. omega (arith, lt, is))

higher : (m n : ℕ) → n < m → nat_eq m n ≡ false
higher m n lt = other m n (λ is. omega (arith, lt, is))

-- ---- look-ups behind tables

behind_one : (has : Indexes) (x : List ℕ) (k : ℕ) (t : Table ℕ) → behind_table (with_name has x k) t ≡ behind_table has ((x, k) ∷ t)
behind_one has x k t = sym (behind_more has x k t)

pub behind_two : (has : Indexes) (s t : Table ℕ) → behind_table (behind_table has s) t ≡ behind_table has (s ++ t)
behind_two has [] t = ap (λ (h : Indexes). behind_table h t) (behind_none has)
behind_two has (e ∷ s) t =
    ap (λ (h : Indexes). behind_table h t) (sym (behind_one has e.0 e.1 s)) ∙ behind_two (with_name has e.0 e.1) s t ∙ behind_one has e.0 e.1 (s ++ t)

-- ---- 1. entries one by one

append_more : {A : Type 0} (xs : List A) (x : A) (ys : List A) → xs ++ x ∷ [] ++ ys ≡ xs ++ (x ∷ ys)
append_more xs x ys = append_same xs (x ∷ []) ys

made_more : (b : Bool) (m : List Made) (e : Entry) (rest : List Entry)
    → (if b then and_made m e.name (is_callable e.callee) else m) ++ made_from (length (if b then and_made m e.name (is_callable e.callee) else m)) rest
    ≡ m ++ made_from (length m) (if b then e ∷ rest else rest)
made_more true m e rest =
    let x : Made = record { name = e.name; mark = length m; callable = is_callable e.callee } in
    ap (λ (k : ℕ). m ++ x ∷ [] ++ made_from k rest) (length_more m x) ∙ append_same m (x ∷ []) (made_from (suc (length m)) rest)
made_more false m e rest = refl

made_behind : (t : Entered) (es : List Entry) (h : ℕ) → (behind_entries t es).made h ≡ t.made h ++ made_from (length (t.made h)) (in_segment h es)
made_behind t [] h = sym (nothing_behind (t.made h))
made_behind t (e ∷ es) h =
    made_behind (with_entry t e.name e.segment (is_callable e.callee)) es h ∙ made_more (nat_eq e.segment h) (t.made h) e (in_segment h es)

-- how many there are
made_length : (k : ℕ) (es : List Entry) → length (made_from k es) ≡ length es
made_length k [] = refl
made_length k (e ∷ es) = ap suc (made_length (suc k) es)

length_behind : (t : Entered) (es : List Entry) (h : ℕ) → length ((behind_entries t es).made h) ≡ length (t.made h) + length (in_segment h es)
length_behind t es h =
    ap length (made_behind t es h) ∙ length-append (t.made h) (made_from (length (t.made h)) (in_segment h es))
    ∙ ap (λ (n : ℕ). length (t.made h) + n) (made_length (length (t.made h)) (in_segment h es))

procedure_more : (c : Bool) (has : Indexes) (x : List ℕ) (k : ℕ) (t : Table ℕ)
    → behind_table (and_procedure has x c k) t ≡ behind_table has (only c (x, k) ++ t)
procedure_more true has x k t = behind_one has x k t
procedure_more false has x k t = refl

procedures_more : (b : Bool) (has : Indexes) (m : List Made) (e : Entry) (rest : List Entry)
    → behind_table (if b then and_procedure has e.name (is_callable e.callee) (length m) else has)
    (indexes is_callable (length (if b then and_made m e.name (is_callable e.callee) else m)) rest)
    ≡ behind_table has (indexes is_callable (length m) (if b then e ∷ rest else rest))
procedures_more true has m e rest =
    ap (λ (k : ℕ). behind_table (and_procedure has e.name (is_callable e.callee) (length m)) (indexes is_callable k rest))
    (length_more m (record { name = e.name; mark = length m; callable = is_callable e.callee }))
    ∙ procedure_more (is_callable e.callee) has e.name (length m) (indexes is_callable (suc (length m)) rest)
procedures_more false has m e rest = refl

procedures_behind : (t : Entered) (es : List Entry) (h : ℕ)
    → (behind_entries t es).procedures h ≡ behind_table (t.procedures h) (indexes is_callable (length (t.made h)) (in_segment h es))
procedures_behind t [] h = sym (behind_none (t.procedures h))
procedures_behind t (e ∷ es) h =
    procedures_behind (with_entry t e.name e.segment (is_callable e.callee)) es h
    ∙ procedures_more (nat_eq e.segment h) (t.procedures h) (t.made h) e (in_segment h es)

-- ---- lists of entries

pub behind_both : (t : Entered) (xs ys : List Entry) → behind_entries t (xs ++ ys) ≡ behind_entries (behind_entries t xs) ys
behind_both t [] ys = refl
behind_both t (x ∷ xs) ys = behind_both (with_entry t x.name x.segment (is_callable x.callee)) xs ys

segment_both : (g : ℕ) (xs ys : List Entry) → in_segment g (xs ++ ys) ≡ in_segment g xs ++ in_segment g ys
segment_both g [] ys = refl
segment_both g (x ∷ xs) ys = by (nat_eq x.segment g) (segment_both g xs ys)
  where
    by : (b : Bool) → in_segment g (xs ++ ys) ≡ in_segment g xs ++ in_segment g ys
        → (if b then x ∷ in_segment g (xs ++ ys) else in_segment g (xs ++ ys)) ≡ (if b then x ∷ in_segment g xs else in_segment g xs) ++ in_segment g ys
    by true rest = ap (λ (zs : List Entry). x ∷ zs) rest
    by false rest = rest

indexes_both : (passes : Callee → Bool) (k : ℕ) (xs ys : List Entry)
    → indexes passes k (xs ++ ys) ≡ indexes passes k xs ++ indexes passes (k + length xs) ys
indexes_both passes k [] ys = ap (λ (m : ℕ). indexes passes m ys) (sym (add-zero k))
indexes_both passes k (x ∷ xs) ys =
    ap (λ (t : Table ℕ). only (passes x.callee) (x.name, k) ++ t)
    (indexes_both passes (suc k) xs ys ∙ ap (λ (m : ℕ). indexes passes (suc k) xs ++ indexes passes m ys) (omega arith))
    ∙ sym (append_same (only (passes x.callee) (x.name, k)) (indexes passes (suc k) xs) (indexes passes (k + suc (length xs)) ys))

-- ---- entries that fail a test

abbrev Lacks : (Callee → Bool) → List Entry → Type 0
Lacks passes [] = Unit {0}
Lacks passes (e ∷ es) = (passes e.callee ≡ false) × Lacks passes es

lacks_both : (passes : Callee → Bool) (xs ys : List Entry) → Lacks passes xs → Lacks passes ys → Lacks passes (xs ++ ys)
lacks_both passes [] ys first second = second
lacks_both passes (x ∷ xs) ys first second = (first.0, lacks_both passes xs ys first.1 second)

indexes_lacking : (passes : Callee → Bool) (k : ℕ) (es : List Entry) → Lacks passes es → indexes passes k es ≡ []
indexes_lacking passes k [] none = refl
indexes_lacking passes k (e ∷ es) none =
    ap (λ (b : Bool). only b (e.name, k) ++ indexes passes (suc k) es) none.0 ∙ indexes_lacking passes (suc k) es none.1

lacks_segment : (passes : Callee → Bool) (g : ℕ) (es : List Entry) → Lacks passes es → Lacks passes (in_segment g es)
lacks_segment passes g [] none = tt
lacks_segment passes g (e ∷ es) none = by (nat_eq e.segment g) (lacks_segment passes g es none.1)
  where
    by : (b : Bool) → Lacks passes (in_segment g es) → Lacks passes (if b then e ∷ in_segment g es else in_segment g es)
    by true rest = (none.0, rest)
    by false rest = rest

-- ---- subroutines of one body

inner_lacks : (passes : Callee → Bool) (g : ℕ) (o : Owner) (ds : Declarations) → passes (subroutine o) ≡ false → Lacks passes (inner_entries g o ds)
inner_lacks passes g o decl.none fails = tt
inner_lacks passes g o (decl.and d ds) fails = lacks_both passes (inner_entry g o d) (inner_entries g o ds) (one d) (inner_lacks passes g o ds fails)
  where
    one : (d : Declaration) → Lacks passes (inner_entry g o d)
    one (decl.Declaration.data_items own k items) = tt
    one (decl.Declaration.equate es) = tt
    one (decl.Declaration.intrinsic xs) = tt
    one (decl.Declaration.label xs) = tt
    one (decl.Declaration.forward h) = tt
    one (decl.Declaration.external h) = tt
    one (decl.Declaration.procedure h items ss) = tt
    one (decl.Declaration.subroutine h s) = (fails, tt)

-- whose they are makes no difference to what is entered
inner_same : (t : Entered) (g : ℕ) (o p : Owner) (ds : Declarations) → behind_entries t (inner_entries g o ds) ≡ behind_entries t (inner_entries g p ds)
inner_same t g o p decl.none = refl
inner_same t g o p (decl.and d ds) =
    behind_both t (inner_entry g o d) (inner_entries g o ds) ∙ ap (λ (u : Entered). behind_entries u (inner_entries g o ds)) (one d)
    ∙ inner_same (behind_entries t (inner_entry g p d)) g o p ds ∙ sym (behind_both t (inner_entry g p d) (inner_entries g p ds))
  where
    one : (d : Declaration) → behind_entries t (inner_entry g o d) ≡ behind_entries t (inner_entry g p d)
    one (decl.Declaration.data_items own k items) = refl
    one (decl.Declaration.equate es) = refl
    one (decl.Declaration.intrinsic xs) = refl
    one (decl.Declaration.label xs) = refl
    one (decl.Declaration.forward h) = refl
    one (decl.Declaration.external h) = refl
    one (decl.Declaration.procedure h items ss) = refl
    one (decl.Declaration.subroutine h s) = refl

-- all stand in that segment
inner_there : (g : ℕ) (o : Owner) (ds : Declarations) → in_segment g (inner_entries g o ds) ≡ inner_entries g o ds
inner_there g o decl.none = refl
inner_there g o (decl.and d ds) =
    segment_both g (inner_entry g o d) (inner_entries g o ds)
    ∙ ap (λ (es : List Entry). es ++ in_segment g (inner_entries g o ds)) (one d)
    ∙ ap (λ (es : List Entry). inner_entry g o d ++ es) (inner_there g o ds)
  where
    one : (d : Declaration) → in_segment g (inner_entry g o d) ≡ inner_entry g o d
    one (decl.Declaration.data_items own k items) = refl
    one (decl.Declaration.equate es) = refl
    one (decl.Declaration.intrinsic xs) = refl
    one (decl.Declaration.label xs) = refl
    one (decl.Declaration.forward h) = refl
    one (decl.Declaration.external h) = refl
    one (decl.Declaration.procedure h items ss) = refl
    one (decl.Declaration.subroutine h s) =
        ap (λ (b : Bool). if b then record { name = h.name; segment = g; callee = subroutine o } ∷ [] else []) (same_self g)

-- their indexes are those that follow one another
inner_numbered : (passes : Callee → Bool) (g : ℕ) (o : Owner) (k : ℕ) (ds : Declarations) → passes (subroutine o) ≡ true
    → indexes passes k (inner_entries g o ds) ≡ inner_indexes k ds
inner_numbered passes g o k decl.none is = refl
inner_numbered passes g o k (decl.and d ds) is =
    indexes_both passes k (inner_entry g o d) (inner_entries g o ds)
    ∙ ap (λ (t : Table ℕ). t ++ indexes passes (k + length (inner_entry g o d)) (inner_entries g o ds)) (one d)
    ∙ ap (λ (n : ℕ). inner_index k d ++ indexes passes (k + n) (inner_entries g o ds)) (many d)
    ∙ ap (λ (t : Table ℕ). inner_index k d ++ t) (inner_numbered passes g o (k + length (inner_index k d)) ds is)
  where
    one : (d : Declaration) → indexes passes k (inner_entry g o d) ≡ inner_index k d
    one (decl.Declaration.data_items own k' items) = refl
    one (decl.Declaration.equate es) = refl
    one (decl.Declaration.intrinsic xs) = refl
    one (decl.Declaration.label xs) = refl
    one (decl.Declaration.forward h) = refl
    one (decl.Declaration.external h) = refl
    one (decl.Declaration.procedure h items ss) = refl
    one (decl.Declaration.subroutine h s) = ap (λ (b : Bool). only b (h.name, k) ++ []) is

    many : (d : Declaration) → length (inner_entry g o d) ≡ length (inner_index k d)
    many (decl.Declaration.data_items own k' items) = refl
    many (decl.Declaration.equate es) = refl
    many (decl.Declaration.intrinsic xs) = refl
    many (decl.Declaration.label xs) = refl
    many (decl.Declaration.forward h) = refl
    many (decl.Declaration.external h) = refl
    many (decl.Declaration.procedure h items ss) = refl
    many (decl.Declaration.subroutine h s) = refl

-- a declaration of a body adds its index
pub length_one : (t : Entered) (g : ℕ) (d : Declaration)
    → length ((behind_entries t (inner_entry g main d)).made g) ≡ length (t.made g) + length (inner_index (length (t.made g)) d)
length_one t g d =
    let k = length (t.made g) in
    length_behind t (inner_entry g main d) g ∙ ap (λ (n : ℕ). k + n) (one d)
  where
    one : (d : Declaration) → length (in_segment g (inner_entry g main d)) ≡ length (inner_index (length (t.made g)) d)
    one (decl.Declaration.data_items own k' items) = refl
    one (decl.Declaration.equate es) = refl
    one (decl.Declaration.intrinsic xs) = refl
    one (decl.Declaration.label xs) = refl
    one (decl.Declaration.forward h) = refl
    one (decl.Declaration.external h) = refl
    one (decl.Declaration.procedure h items ss) = refl
    one (decl.Declaration.subroutine h s) =
        ap (λ (b : Bool). length {A = Entry} (if b then record { name = h.name; segment = g; callee = subroutine main } ∷ [] else [])) (same_self g)

-- ---- 2. along declarations

entered_one : (g n : ℕ) (w : Walk) (d : Declaration) → (with_declared g w d).entered ≡ behind_entries w.entered (declared_entries g n d)
entered_one g n w (decl.Declaration.data_items own k items) = refl
entered_one g n w (decl.Declaration.equate es) = refl
entered_one g n w (decl.Declaration.intrinsic xs) = refl
entered_one g n w (decl.Declaration.label xs) = refl
entered_one g n w (decl.Declaration.forward h) = refl
entered_one g n w (decl.Declaration.external h) = refl
entered_one g n w (decl.Declaration.procedure h items ss) =
    inner_same (with_entry w.entered h.name h.segment true) h.segment main (routine n) items
entered_one g n w (decl.Declaration.subroutine h s) = refl

entered_all : (g n : ℕ) (w : Walk) (ds : Declarations) → (with_all g w ds).entered ≡ behind_entries w.entered (entries_among g n ds)
entered_all g n w decl.none = refl
entered_all g n w (decl.and d ds) =
    entered_all g (routines_behind n d) (with_declared g w d) ds
    ∙ ap (λ (t : Entered). behind_entries t (entries_among g (routines_behind n d) ds)) (entered_one g n w d)
    ∙ sym (behind_both w.entered (declared_entries g n d) (entries_among g (routines_behind n d) ds))

-- a declaration of a body among the names of its subroutines
pub inner_named : (has : Indexes) (k : ℕ) (d : Declaration) → and_inner has k d ≡ behind_table has (inner_index k d)
inner_named has k (decl.Declaration.data_items own k' items) = sym (behind_none has)
inner_named has k (decl.Declaration.equate es) = sym (behind_none has)
inner_named has k (decl.Declaration.intrinsic xs) = sym (behind_none has)
inner_named has k (decl.Declaration.label xs) = sym (behind_none has)
inner_named has k (decl.Declaration.forward h) = sym (behind_none has)
inner_named has k (decl.Declaration.external h) = sym (behind_none has)
inner_named has k (decl.Declaration.procedure h items ss) = sym (behind_none has)
inner_named has k (decl.Declaration.subroutine h s) = sym (behind_more has h.name k [] ∙ behind_none (with_name has h.name k))

-- ---- 3. the main body's subroutines

main_one : (g n k : ℕ) (w : Walk) (d : Declaration) → k ≡ length (w.entered.made g)
    → (with_declared g w d).main_body ≡ behind_table w.main_body (indexes (is_inner main) k (in_segment g (declared_entries g n d)))
main_one g n k w (decl.Declaration.data_items own k' items) is = sym (behind_none w.main_body)
main_one g n k w (decl.Declaration.equate es) is = sym (behind_none w.main_body)
main_one g n k w (decl.Declaration.intrinsic xs) is = sym (behind_none w.main_body)
main_one g n k w (decl.Declaration.label xs) is = sym (behind_none w.main_body)
main_one g n k w (decl.Declaration.forward h) is = sym (behind_none w.main_body)
main_one g n k w (decl.Declaration.external h) is = sym (behind_none w.main_body)
main_one g n k w (decl.Declaration.procedure h items ss) is =
    sym (behind_none w.main_body)
    ∙ ap (λ (t : Table ℕ). behind_table w.main_body t)
    (sym (indexes_lacking (is_inner main) k (in_segment g (declared_entries g n (decl.Declaration.procedure h items ss)))
    (lacks_segment (is_inner main) g (declared_entries g n (decl.Declaration.procedure h items ss))
    (refl, inner_lacks (is_inner main) h.segment (routine n) items refl))))
main_one g n k w (decl.Declaration.subroutine h s) is =
    inner_named w.main_body (length (w.entered.made g)) (decl.Declaration.subroutine h s)
    ∙ ap (λ (m : ℕ). behind_table w.main_body ((h.name, m) ∷ [])) (sym is)
    ∙ ap (λ (b : Bool). behind_table w.main_body (indexes (is_inner main) k (if b then record { name = h.name; segment = g; callee = subroutine main } ∷ [] else [])))
    (sym (same_self g))

main_all : (g n : ℕ) (w : Walk) (ds : Declarations)
    → (with_all g w ds).main_body ≡ behind_table w.main_body (indexes (is_inner main) (length (w.entered.made g)) (in_segment g (entries_among g n ds)))
main_all g n w decl.none = sym (behind_none w.main_body)
main_all g n w (decl.and d ds) =
    let k = length (w.entered.made g) in
    let one = declared_entries g n d in
    let rest = entries_among g (routines_behind n d) ds in
    main_all g (routines_behind n d) (with_declared g w d) ds
    ∙ ap (λ (t : Entered). behind_table (with_declared g w d).main_body (indexes (is_inner main) (length (t.made g)) (in_segment g rest))) (entered_one g n w d)
    ∙ ap (λ (m : ℕ). behind_table (with_declared g w d).main_body (indexes (is_inner main) m (in_segment g rest))) (length_behind w.entered one g)
    ∙ ap (λ (has : Indexes). behind_table has (indexes (is_inner main) (k + length (in_segment g one)) (in_segment g rest))) (main_one g n k w d refl)
    ∙ behind_two w.main_body (indexes (is_inner main) k (in_segment g one)) (indexes (is_inner main) (k + length (in_segment g one)) (in_segment g rest))
    ∙ ap (λ (t : Table ℕ). behind_table w.main_body t)
    (sym (indexes_both (is_inner main) k (in_segment g one) (in_segment g rest)) ∙ ap (λ (es : List Entry). indexes (is_inner main) k es) (sym (segment_both g one rest)))

-- ---- 4. the subroutines of procedures

-- those of the procedure that a declaration is
abbrev extra_in : Entered → Declaration → List Indexes
extra_in t (decl.Declaration.procedure h items ss) =
    find (inner_indexes (length ((with_entry t h.name h.segment true).made h.segment)) items) ∷ []
extra_in t d = []

-- and of the procedures among declarations
abbrev extra : ℕ → ℕ → Entered → Declarations → List Indexes
extra g n t decl.none = []
extra g n t (decl.and d ds) = extra_in t d ++ extra g (routines_behind n d) (behind_entries t (declared_entries g n d)) ds

routines_one : (g : ℕ) (w : Walk) (d : Declaration) → (with_declared g w d).routines ≡ w.routines ++ extra_in w.entered d
routines_one g w (decl.Declaration.data_items own k items) = sym (nothing_behind w.routines)
routines_one g w (decl.Declaration.equate es) = sym (nothing_behind w.routines)
routines_one g w (decl.Declaration.intrinsic xs) = sym (nothing_behind w.routines)
routines_one g w (decl.Declaration.label xs) = sym (nothing_behind w.routines)
routines_one g w (decl.Declaration.forward h) = sym (nothing_behind w.routines)
routines_one g w (decl.Declaration.external h) = sym (nothing_behind w.routines)
routines_one g w (decl.Declaration.procedure h items ss) = refl
routines_one g w (decl.Declaration.subroutine h s) = sym (nothing_behind w.routines)

routines_all : (g n : ℕ) (w : Walk) (ds : Declarations) → (with_all g w ds).routines ≡ w.routines ++ extra g n w.entered ds
routines_all g n w decl.none = sym (nothing_behind w.routines)
routines_all g n w (decl.and d ds) =
    let m = routines_behind n d in
    routines_all g m (with_declared g w d) ds
    ∙ ap (λ (rs : List Indexes). rs ++ extra g m (with_declared g w d).entered ds) (routines_one g w d)
    ∙ append_same w.routines (extra_in w.entered d) (extra g m (with_declared g w d).entered ds)
    ∙ ap (λ (t : Entered). w.routines ++ (extra_in w.entered d ++ extra g m t ds)) (entered_one g n w d)

-- procedures that come later have other numbers
later_lacks : (g i m : ℕ) (ds : Declarations) → i < m → Lacks (is_inner (routine i)) (entries_among g m ds)
later_lacks g i m decl.none lt = tt
later_lacks g i m (decl.and d ds) lt = one d (later_lacks g i m ds lt) (later_lacks g i (suc m) ds (omega (arith, lt)))
  where
    one : (d : Declaration) → Lacks (is_inner (routine i)) (entries_among g m ds) → Lacks (is_inner (routine i)) (entries_among g (suc m) ds)
        → Lacks (is_inner (routine i)) (declared_entries g m d ++ entries_among g (routines_behind m d) ds)
    one (decl.Declaration.data_items own k items) here next = here
    one (decl.Declaration.equate es) here next = here
    one (decl.Declaration.intrinsic xs) here next = here
    one (decl.Declaration.label xs) here next = here
    one (decl.Declaration.forward h) here next = here
    one (decl.Declaration.external h) here next = here
    one (decl.Declaration.procedure h items ss) here next = (
      refl,
      lacks_both (is_inner (routine i)) (inner_entries h.segment (routine m) items) (entries_among g (suc m) ds)
          (inner_lacks (is_inner (routine i)) h.segment (routine m) items (lower i m lt)) next,
    )
    one (decl.Declaration.subroutine h s) here next = (refl, here)

-- what is known before some declarations: how many entries each segment has, and that none of a procedure that comes later stands there
record Before (n : ℕ) (t : Entered) (before : List Entry) : Type 0 where
  many : (h : ℕ) → length (t.made h) ≡ length (in_segment h before)
  none : (i : ℕ) → n ≤ i → Lacks (is_inner (routine i)) before

-- the subroutines of procedure i in a segment with these entries
abbrev found_in : ℕ → ℕ → List Entry → Indexes
found_in i g es = find (indexes (is_inner (routine i)) 0 (in_segment g es))

-- the indexes of a procedure's subroutines, where it stands behind some entries and before others
one_found : (i g : ℕ) (t : Entered) (before rest : List Entry) (h : Heading) (items : Declarations)
    → length (t.made h.segment) ≡ length (in_segment h.segment before)
    → Lacks (is_inner (routine i)) before → Lacks (is_inner (routine i)) rest
    → find (inner_indexes (length ((with_entry t h.name h.segment true).made h.segment)) items)
    ≡ found_in i h.segment (before ++ (record { name = h.name; segment = h.segment; callee = procedure } ∷ inner_entries h.segment (routine i) items ++ rest))
one_found i g t before rest h items many none later =
    let e : Entry = record { name = h.name; segment = h.segment; callee = procedure } in
    let own = inner_entries h.segment (routine i) items in
    let passes = is_inner (routine i) in
    let m = t.made h.segment in
    let k = length (in_segment h.segment before) in
    let counted : length ((with_entry t h.name h.segment true).made h.segment) ≡ suc k =
    ap (λ (b : Bool). length (if b then and_made m h.name true else m)) (same_self h.segment)
    ∙ length_more m (record { name = h.name; mark = length m; callable = true }) ∙ ap suc many in
    let parted : in_segment h.segment (before ++ (e ∷ own ++ rest)) ≡ in_segment h.segment before ++ (e ∷ own ++ in_segment h.segment rest) =
    segment_both h.segment before (e ∷ own ++ rest)
    ∙ ap (λ (b : Bool). in_segment h.segment before ++ (if b then e ∷ in_segment h.segment (own ++ rest) else in_segment h.segment (own ++ rest))) (same_self h.segment)
    ∙ ap (λ (es : List Entry). in_segment h.segment before ++ (e ∷ es))
    (segment_both h.segment own rest ∙ ap (λ (es : List Entry). es ++ in_segment h.segment rest) (inner_there h.segment (routine i) items)) in
    let listed : indexes passes 0 (in_segment h.segment before ++ (e ∷ own ++ in_segment h.segment rest)) ≡ inner_indexes (suc k) items =
    indexes_both passes 0 (in_segment h.segment before) (e ∷ own ++ in_segment h.segment rest)
    ∙ ap (λ (u : Table ℕ). u ++ indexes passes (0 + k) (e ∷ own ++ in_segment h.segment rest))
    (indexes_lacking passes 0 (in_segment h.segment before) (lacks_segment passes h.segment before none))
    ∙ ap (λ (j : ℕ). indexes passes j (e ∷ own ++ in_segment h.segment rest)) (zero-add k)
    ∙ indexes_both passes (suc k) own (in_segment h.segment rest)
    ∙ ap (λ (u : Table ℕ). indexes passes (suc k) own ++ u)
    (indexes_lacking passes (suc k + length own) (in_segment h.segment rest) (lacks_segment passes h.segment rest later))
    ∙ nothing_behind (indexes passes (suc k) own)
    ∙ inner_numbered passes h.segment (routine i) (suc k) items (same_self i) in
    ap (λ (j : ℕ). find (inner_indexes j items)) counted
    ∙ ap (λ (u : Table ℕ). find u) (sym listed)
    ∙ ap (λ (es : List Entry). find (indexes passes 0 es)) (sym parted)

-- a procedure that comes behind a declaration comes behind those before it, and has none of its entries
declared_lacks : (g n i : ℕ) (d : Declaration) → routines_behind n d ≤ i → (n ≤ i) × Lacks (is_inner (routine i)) (declared_entries g n d)
declared_lacks g n i (decl.Declaration.data_items own k items) le = (le, tt)
declared_lacks g n i (decl.Declaration.equate es) le = (le, tt)
declared_lacks g n i (decl.Declaration.intrinsic xs) le = (le, tt)
declared_lacks g n i (decl.Declaration.label xs) le = (le, tt)
declared_lacks g n i (decl.Declaration.forward h) le = (le, tt)
declared_lacks g n i (decl.Declaration.external h) le = (le, tt)
declared_lacks g n i (decl.Declaration.procedure h items ss) le =
    (omega (arith, le), (refl, inner_lacks (is_inner (routine i)) h.segment (routine n) items (higher i n (omega (arith, le)))))
declared_lacks g n i (decl.Declaration.subroutine h s) le = (le, (refl, tt))

-- behind a declaration
before_one : (g n : ℕ) (t : Entered) (before : List Entry) (d : Declaration) → Before n t before
    → Before (routines_behind n d) (behind_entries t (declared_entries g n d)) (before ++ declared_entries g n d)
before_one g n t before d known =
    let one = declared_entries g n d in
    record {
      many = λ h.
          length_behind t one h ∙ ap (λ (k : ℕ). k + length (in_segment h one)) (known.many h)
          ∙ sym (length-append (in_segment h before) (in_segment h one)) ∙ ap length (sym (segment_both h before one));
      none = λ i le.
          let both = declared_lacks g n i d le in
          lacks_both (is_inner (routine i)) before one (known.none i both.0) both.1;
    }

-- entries that stand before others
moved : (i h : ℕ) (before one rest : List Entry) (x : Option Indexes) → x ≡ Some (found_in i h (before ++ one ++ rest)) → x ≡ Some (found_in i h (before ++ (one ++ rest)))
moved i h before one rest x is = is ∙ ap (λ (es : List Entry). Some (found_in i h es)) (append_same before one rest)

-- a declaration that is no procedure
plain_found : (g n m : ℕ) (t : Entered) (before : List Entry) (table : Table Sort) (d : Declaration) (ds : Declarations) (i : ℕ) (r : Routine)
    → slice_get (extra g n (behind_entries t (declared_entries g n d)) ds) i
    ≡ Some (found_in (n + i) r.heading.segment (before ++ declared_entries g n d ++ entries_among g n ds))
    → slice_get (extra g n (behind_entries t (declared_entries g n d)) ds) i
    ≡ Some (found_in (n + i) r.heading.segment (before ++ (declared_entries g n d ++ entries_among g n ds)))
plain_found g n m t before table d ds i r found =
    moved (n + i) r.heading.segment before (declared_entries g n d) (entries_among g n ds) (slice_get (extra g n (behind_entries t (declared_entries g n d)) ds) i) found

abbrev heading_in : Heading → Option Routine → Heading
heading_in h None = h
heading_in h (Some r) = r.heading

-- each procedure's indexes are those among the entries of its segment
routines_found : (g n m : ℕ) (t : Entered) (before : List Entry) (table : Table Sort) (ds : Declarations) (i : ℕ) (r : Routine) → Before n t before
    → slice_get (routines_among table m ds) i ≡ Some r
    → slice_get (extra g n t ds) i ≡ Some (found_in (n + i) r.heading.segment (before ++ entries_among g n ds))
routines_found g n m t before table decl.none i r known at = cc
routines_found g n m t before table (decl.and (decl.Declaration.procedure h items ss) ds) zero r known at =
    let rest = entries_among g (suc n) ds in
    let one = declared_entries g n (decl.Declaration.procedure h items ss) in
    ap Some (one_found n g t before rest h items (known.many h.segment) (known.none n (omega arith)) (later_lacks g n (suc n) ds (omega arith)))
    ∙ ap (λ (k : ℕ). Some (found_in k h.segment (before ++ (one ++ rest)))) (sym (add-zero n))
    ∙ ap (λ (k : Heading). Some (found_in (n + 0) k.segment (before ++ (one ++ rest)))) (ap (heading_in h) at)
routines_found g n m t before table (decl.and (decl.Declaration.procedure h items ss) ds) (suc i) r known at =
    let d = decl.Declaration.procedure h items ss in
    let one = declared_entries g n d in
    let rest = entries_among g (suc n) ds in
    let found = routines_found g (suc n) (m + declaration_stops d) (behind_entries t one) (before ++ one) (with_declaration nothing_declared table d) ds i r
    (before_one g n t before d known) at in
    moved (n + suc i) r.heading.segment before one rest (slice_get (extra g (suc n) (behind_entries t one) ds) i)
    (found ∙ ap (λ (k : ℕ). Some (found_in k r.heading.segment (before ++ one ++ rest))) (suc_right n i))
routines_found g n m t before table (decl.and (decl.Declaration.data_items own k items) ds) i r known at =
    plain_found g n m t before table (decl.Declaration.data_items own k items) ds i r
    (routines_found g n (m + declaration_stops (decl.Declaration.data_items own k items)) (behind_entries t (declared_entries g n (decl.Declaration.data_items own k items)))
    (before ++ declared_entries g n (decl.Declaration.data_items own k items)) (with_declaration nothing_declared table (decl.Declaration.data_items own k items)) ds i r
    (before_one g n t before (decl.Declaration.data_items own k items) known) at)
routines_found g n m t before table (decl.and (decl.Declaration.equate es) ds) i r known at =
    plain_found g n m t before table (decl.Declaration.equate es) ds i r
    (routines_found g n (m + declaration_stops (decl.Declaration.equate es)) (behind_entries t (declared_entries g n (decl.Declaration.equate es)))
    (before ++ declared_entries g n (decl.Declaration.equate es)) (with_declaration nothing_declared table (decl.Declaration.equate es)) ds i r
    (before_one g n t before (decl.Declaration.equate es) known) at)
routines_found g n m t before table (decl.and (decl.Declaration.intrinsic xs) ds) i r known at =
    plain_found g n m t before table (decl.Declaration.intrinsic xs) ds i r
    (routines_found g n (m + declaration_stops (decl.Declaration.intrinsic xs)) (behind_entries t (declared_entries g n (decl.Declaration.intrinsic xs)))
    (before ++ declared_entries g n (decl.Declaration.intrinsic xs)) (with_declaration nothing_declared table (decl.Declaration.intrinsic xs)) ds i r
    (before_one g n t before (decl.Declaration.intrinsic xs) known) at)
routines_found g n m t before table (decl.and (decl.Declaration.label xs) ds) i r known at =
    plain_found g n m t before table (decl.Declaration.label xs) ds i r
    (routines_found g n (m + declaration_stops (decl.Declaration.label xs)) (behind_entries t (declared_entries g n (decl.Declaration.label xs)))
    (before ++ declared_entries g n (decl.Declaration.label xs)) (with_declaration nothing_declared table (decl.Declaration.label xs)) ds i r
    (before_one g n t before (decl.Declaration.label xs) known) at)
routines_found g n m t before table (decl.and (decl.Declaration.forward h) ds) i r known at =
    plain_found g n m t before table (decl.Declaration.forward h) ds i r
    (routines_found g n (m + declaration_stops (decl.Declaration.forward h)) (behind_entries t (declared_entries g n (decl.Declaration.forward h)))
    (before ++ declared_entries g n (decl.Declaration.forward h)) (with_declaration nothing_declared table (decl.Declaration.forward h)) ds i r
    (before_one g n t before (decl.Declaration.forward h) known) at)
routines_found g n m t before table (decl.and (decl.Declaration.external h) ds) i r known at =
    plain_found g n m t before table (decl.Declaration.external h) ds i r
    (routines_found g n (m + declaration_stops (decl.Declaration.external h)) (behind_entries t (declared_entries g n (decl.Declaration.external h)))
    (before ++ declared_entries g n (decl.Declaration.external h)) (with_declaration nothing_declared table (decl.Declaration.external h)) ds i r
    (before_one g n t before (decl.Declaration.external h) known) at)
routines_found g n m t before table (decl.and (decl.Declaration.subroutine h s) ds) i r known at =
    plain_found g n m t before table (decl.Declaration.subroutine h s) ds i r
    (routines_found g n (m + declaration_stops (decl.Declaration.subroutine h s)) (behind_entries t (declared_entries g n (decl.Declaration.subroutine h s)))
    (before ++ declared_entries g n (decl.Declaration.subroutine h s)) (with_declaration nothing_declared table (decl.Declaration.subroutine h s)) ds i r
    (before_one g n t before (decl.Declaration.subroutine h s) known) at)

-- ---- a unit

pub unit_modules : (u : Source) → IsUnitModules u (with_all u.tree.segment nothing_entered (declarations u.tree.items))
unit_modules u =
    let g = u.tree.segment in
    let ds = declarations u.tree.items in
    let es = entries_among g 0 ds in
    let all = entered_all g 0 nothing_entered ds in
    record {
      made = λ h. ap (λ (t : Entered). t.made h) all ∙ made_behind nothing_entered.entered es h;
      procedures = λ h.
          ap (λ (t : Entered). t.procedures h) all ∙ procedures_behind nothing_entered.entered es h
          ∙ behind_nothing (indexes is_callable 0 (in_segment h es));
      main_body = main_all g 0 nothing_entered ds ∙ behind_nothing (indexes (is_inner main) 0 (in_segment g es));
      routines = λ i r at.
          ap (λ (rs : List Indexes). slice_get rs i) (routines_all g 0 nothing_entered ds)
          ∙ routines_found g 0 0 nothing_entered.entered [] [] ds i r (record { many = λ h. refl; none = λ j le. tt }) at
          ∙ ap (λ (k : ℕ). Some (found_in k r.heading.segment es)) (zero-add i);
    }
