-- The words of a unit's bodies in a segment, declaration by declaration: the procedure of a number is the one that is declared there.
use Rattle.std.proofs.Common.{◌≡◌, ◌≤◌, ℕ, zero, suc, ◌+◌, ◌&&◌, nat_eq, not, Bool, true, false, if◌then◌else◌, List, [], ◌∷◌, drop, length, Option, Some, None, refl, sym, ap, subst, ◌∙◌, arith}
use Rattle.std.specs.List.{slice_get}
use Rattle.spl_formed_modules.specs.spl_tree.DeclarationTrees as decl
use Rattle.spl_formed_modules.specs.spl_tree.DeclarationTrees.{Declaration, Declarations, declarations}
use Rattle.spl_formed_modules.specs.spl_tree.StatementTrees as stat
use Rattle.spl_few_loops.specs.spl_meaning.Stops.{declaration_stops}
use Rattle.spl_few_loops.specs.spl_meaning.Names.{Sort, Table, nothing_declared}
use Rattle.spl_few_loops.specs.spl_meaning.Places.{list_words, list_array_words}
use Rattle.spl_few_loops.specs.spl_meaning.Tables.{Source, Routine, Subroutine, with_declaration, routines_of, routines_among, routine_table, subroutines_among, unit_subroutines}
use Rattle.spl_few_loops.specs.spl_meaning.Bodies.{Body, Named, procedure_body, named_bodies, main_body}
use Rattle.spl_few_loops.specs.spl_meaning.Bound.{subroutine_weight, subroutines_weight, routine_weight, main_weight}
use Rattle.spl_formed_modules.specs.spl_code.Parts.{Part, nothing, ◌⨟◌}
use Rattle.spl_few_loops.proofs.spl_code_proofs.CountLemmas.{count_append, Few, few_then, few_more, few_pieces}
use Rattle.spl_formed_modules.specs.spl_scopes.Entries.{Entry, module_entries}
use Rattle.spl_formed_modules.specs.spl_scopes.Scopes.{Placed, global_places, routine_bodies}
use Rattle.spl_formed_modules.specs.spl_module_code.Bodies.{routine_part}
use Rattle.spl_formed_modules.specs.spl_module_code.Modules.{routine_at, inner_with, inner_at, entries_behind, declared_part, declared_parts, main_at, module_part}
use Rattle.spl_few_loops.specs.spl_places.Programs.{Each}
use Rattle.spl_fits.specs.Fits.{RoutineFits}
use Rattle.spl_few_loops.specs.Loops.{FewLoopsInSubroutine, FewLoopsInRoutine, FewLoopsInUnit}
use Rattle.spl_module_words.proofs.Bodies.{takes_inner, takes_routine, takes_main}

-- ---- what stands in a segment by its number

-- the weight of those procedures that stand there
abbrev pub routines_weight : ℕ → List Routine → ℕ
routines_weight g [] = 0
routines_weight g (r ∷ rs) = (if nat_eq r.heading.segment g then routine_weight r else 0) + routines_weight g rs

-- whether a unit's main body does
abbrev pub main_there : Source → ℕ → Bool
main_there u g = not u.subprogram && nat_eq u.tree.segment g

-- ---- declarations

few_if : (n : ℕ) (b : Bool) (p : Part) → Few n p → Few (if b then n else 0) (if b then p else nothing)
few_if n true p h = h
few_if n false p h = few_pieces [] (omega arith)

few_routine_at : (es : List Entry) (i entry n : ℕ) (o : Option Named) (x : Named) → o ≡ Some x → Few n (routine_part es i entry x) → Few n (routine_at es i entry o)
few_routine_at es i entry n o x is h = subst (λ (o : Option Named). Few n (routine_at es i entry o)) (sym is) h

few_inner_with : (es : List Entry) (b : Body) (entry : ℕ) (o : Option Subroutine) (s : Subroutine) → o ≡ Some s → FewLoopsInSubroutine s
    → Few (subroutine_weight s.heading s.statement) (inner_with es b entry o)
few_inner_with es b entry o s is few =
    subst (λ (o : Option Subroutine). Few (subroutine_weight s.heading s.statement) (inner_with es b entry o)) (sym is) (takes_inner es b entry s few)

-- a subroutine of the main body, in a segment or in another
few_inner_at : (p : Placed) (g j entry : ℕ) (sub inside : Bool) (s : Subroutine) → slice_get (unit_subroutines p.unit) j ≡ Some s → FewLoopsInSubroutine s
    → Few (if not sub && inside then subroutine_weight s.heading s.statement else 0)
    (if inside then inner_at (module_entries p.unit g) j entry (if sub then None else Some (main_body (global_places p) p.unit)) else nothing)
few_inner_at p g j entry true true s is few = few_pieces [] (omega arith)
few_inner_at p g j entry true false s is few = few_pieces [] (omega arith)
few_inner_at p g j entry false true s is few =
    few_inner_with (module_entries p.unit g) (main_body (global_places p) p.unit) entry (slice_get (unit_subroutines p.unit) j) s is few
few_inner_at p g j entry false false s is few = few_pieces [] (omega arith)

-- ---- the bodies that are left before some declarations

next_there : {A : Type 0} (k : ℕ) (xs : List A) (y : A) (ys : List A) → drop k xs ≡ y ∷ ys → slice_get xs k ≡ Some y
next_there zero [] y ys is = cc
next_there zero (x ∷ xs) y ys is = ap (λ zs. slice_get zs 0) is
next_there (suc k) [] y ys is = cc
next_there (suc k) (x ∷ xs) y ys is = next_there k xs y ys is

drop_next : {A : Type 0} (k : ℕ) (xs : List A) (y : A) (ys : List A) → drop k xs ≡ y ∷ ys → drop (suc k) xs ≡ ys
drop_next zero [] y ys is = cc
drop_next zero (x ∷ xs) y ys is = ap (λ zs. drop 1 zs) is
drop_next (suc k) [] y ys is = cc
drop_next (suc k) (x ∷ xs) y ys is = drop_next k xs y ys is

-- they are those of these declarations, behind such a list and so many statements; each is within its limits
record Left (p : Placed) (n j : ℕ) (t : Table Sort) (m : ℕ) (ds : Declarations) : Type 0 where
  own : ℕ
  own_arrays : ℕ
  bodies : drop n (routine_bodies p) ≡ named_bodies (global_places p) own own_arrays (routines_among t m ds)
  inners : drop j (unit_subroutines p.unit) ≡ subroutines_among m ds
  fit : Each RoutineFits (routines_among t m ds)
  loops : Each FewLoopsInRoutine (routines_among t m ds)
  inner_loops : Each FewLoopsInSubroutine (subroutines_among m ds)

-- what they weigh in a segment
abbrev weight_left : Bool → ℕ → Table Sort → ℕ → Declarations → ℕ
weight_left inside g t m ds = routines_weight g (routines_among t m ds) + (if inside then subroutines_weight (subroutines_among m ds) else 0)

-- behind a declaration that is no body
left_plain : (p : Placed) (n j : ℕ) (t : Table Sort) (m : ℕ) (d : Declaration) (ds : Declarations)
    → routines_among t m (decl.and d ds) ≡ routines_among (with_declaration nothing_declared t d) (m + declaration_stops d) ds
    → subroutines_among m (decl.and d ds) ≡ subroutines_among (m + declaration_stops d) ds → Left p n j t m (decl.and d ds)
    → Left p n j (with_declaration nothing_declared t d) (m + declaration_stops d) ds
left_plain p n j t m d ds routines subs a = record {
  own = a.own;
  own_arrays = a.own_arrays;
  bodies = a.bodies ∙ ap (λ (rs : List Routine). named_bodies (global_places p) a.own a.own_arrays rs) routines;
  inners = a.inners ∙ subs;
  fit = subst (λ (rs : List Routine). Each RoutineFits rs) routines a.fit;
  loops = subst (λ (rs : List Routine). Each FewLoopsInRoutine rs) routines a.loops;
  inner_loops = subst (λ (ss : List Subroutine). Each FewLoopsInSubroutine ss) subs a.inner_loops;
}

abbrev made : Table Sort → ℕ → decl.Heading → Declarations → List stat.Statement → Routine
made t m h items ss = record { heading = h; items = items; statements = ss; globals = with_declaration nothing_declared t (decl.Declaration.procedure h items ss); before = m }

-- behind a procedure
left_routine : (p : Placed) (n j : ℕ) (t : Table Sort) (m : ℕ) (h : decl.Heading) (items : Declarations) (ss : List stat.Statement) (ds : Declarations)
    → Left p n j t m (decl.and (decl.Declaration.procedure h items ss) ds)
    → Left p (suc n) j (with_declaration nothing_declared t (decl.Declaration.procedure h items ss)) (m + declaration_stops (decl.Declaration.procedure h items ss)) ds
left_routine p n j t m h items ss ds a =
    let d = decl.Declaration.procedure h items ss in
    let r : Routine = made t m h items ss in
    record {
      own = a.own + list_words true (routine_table r);
      own_arrays = a.own_arrays + list_array_words true (routine_table r);
      bodies = drop_next n (routine_bodies p) (record { name = h.name; body = procedure_body (global_places p) a.own a.own_arrays r })
          (named_bodies (global_places p) (a.own + list_words true (routine_table r)) (a.own_arrays + list_array_words true (routine_table r))
          (routines_among (with_declaration nothing_declared t d) (m + declaration_stops d) ds)) a.bodies;
      inners = a.inners;
      fit = a.fit.1;
      loops = a.loops.1;
      inner_loops = a.inner_loops;
    }

-- behind a subroutine of the main body
left_inner : (p : Placed) (n j : ℕ) (t : Table Sort) (m : ℕ) (h : decl.Heading) (s : stat.Statement) (ds : Declarations)
    → Left p n j t m (decl.and (decl.Declaration.subroutine h s) ds)
    → Left p n (suc j) (with_declaration nothing_declared t (decl.Declaration.subroutine h s)) (m + declaration_stops (decl.Declaration.subroutine h s)) ds
left_inner p n j t m h s ds a = record {
  own = a.own;
  own_arrays = a.own_arrays;
  bodies = a.bodies;
  inners = drop_next j (unit_subroutines p.unit) (record { heading = h; statement = s; before = m }) (subroutines_among (m + declaration_stops (decl.Declaration.subroutine h s)) ds) a.inners;
  fit = a.fit;
  loops = a.loops;
  inner_loops = a.inner_loops.1;
}

-- ---- their words

nothing_before : {n : ℕ} {p q : Part} → Few 0 p → Few n q → Few n (p ⨟ q)
nothing_before a b = few_more (few_then a b) (omega arith)

regrouped : (a x y : ℕ) → a + (x + y) ≤ (a + x) + y
regrouped a x y = omega arith

inner_regrouped : (b : Bool) (a x y : ℕ) → (if b then a else 0) + (x + (if b then y else 0)) ≤ x + (if b then a + y else 0)
inner_regrouped true a x y = omega arith
inner_regrouped false a x y = omega arith

no_body : {n : ℕ} → Few n nothing
no_body = few_pieces [] (omega arith)

few_declarations : (p : Placed) (g n j entry : ℕ) (t : Table Sort) (m : ℕ) (ds : Declarations) → Left p n j t m ds
    → Few (weight_left (main_there p.unit g) g t m ds) (declared_parts p g n j entry ds)
few_declarations p g n j entry t m decl.none a = no_body
few_declarations p g n j entry t m (decl.and (decl.Declaration.procedure h items ss) ds) a =
    let d = decl.Declaration.procedure h items ss in
    let r : Routine = made t m h items ss in
    let es : List Entry = module_entries p.unit g in
    let body : Named = record { name = h.name; body = procedure_body (global_places p) a.own a.own_arrays r } in
    let there = next_there n (routine_bodies p) body
    (named_bodies (global_places p) (a.own + list_words true (routine_table r)) (a.own_arrays + list_array_words true (routine_table r))
    (routines_among (with_declaration nothing_declared t d) (m + declaration_stops d) ds)) a.bodies in
    let one : Few (if nat_eq h.segment g then routine_weight r else 0) (declared_part p g n j entry d) =
    few_if (routine_weight r) (nat_eq h.segment g) (routine_at es n entry (slice_get (routine_bodies p) n))
    (few_routine_at es n entry (routine_weight r) (slice_get (routine_bodies p) n) body there
    (takes_routine es n entry h.name (global_places p) a.own a.own_arrays r a.fit.0 a.loops.0)) in
    few_more (few_then one (few_declarations p g (suc n) j (entries_behind p g n entry d) (with_declaration nothing_declared t d) (m + declaration_stops d) ds
    (left_routine p n j t m h items ss ds a)))
    (regrouped (if nat_eq h.segment g then routine_weight r else 0) (routines_weight g (routines_among (with_declaration nothing_declared t d) (m + declaration_stops d) ds))
    (if main_there p.unit g then subroutines_weight (subroutines_among (m + declaration_stops d) ds) else 0))
few_declarations p g n j entry t m (decl.and (decl.Declaration.subroutine h s) ds) a =
    let d = decl.Declaration.subroutine h s in
    let sub : Subroutine = record { heading = h; statement = s; before = m } in
    let there = next_there j (unit_subroutines p.unit) sub (subroutines_among (m + declaration_stops d) ds) a.inners in
    let one : Few (if main_there p.unit g then subroutine_weight h s else 0) (declared_part p g n j entry d) =
    few_inner_at p g j entry p.unit.subprogram (nat_eq p.unit.tree.segment g) sub there a.inner_loops.0 in
    few_more (few_then one (few_declarations p g n (suc j) (entries_behind p g n entry d) (with_declaration nothing_declared t d) (m + declaration_stops d) ds
    (left_inner p n j t m h s ds a)))
    (inner_regrouped (main_there p.unit g) (subroutine_weight h s) (routines_weight g (routines_among (with_declaration nothing_declared t d) (m + declaration_stops d) ds))
    (subroutines_weight (subroutines_among (m + declaration_stops d) ds)))
few_declarations p g n j entry t m (decl.and (decl.Declaration.data_items own k items) ds) a =
    nothing_before no_body (few_declarations p g n j (entries_behind p g n entry (decl.Declaration.data_items own k items)) (with_declaration nothing_declared t (decl.Declaration.data_items own k items)) (m + declaration_stops (decl.Declaration.data_items own k items)) ds
    (left_plain p n j t m (decl.Declaration.data_items own k items) ds refl refl a))
few_declarations p g n j entry t m (decl.and (decl.Declaration.equate xs) ds) a =
    nothing_before no_body (few_declarations p g n j (entries_behind p g n entry (decl.Declaration.equate xs)) (with_declaration nothing_declared t (decl.Declaration.equate xs)) (m + declaration_stops (decl.Declaration.equate xs)) ds
    (left_plain p n j t m (decl.Declaration.equate xs) ds refl refl a))
few_declarations p g n j entry t m (decl.and (decl.Declaration.intrinsic xs) ds) a =
    nothing_before no_body (few_declarations p g n j (entries_behind p g n entry (decl.Declaration.intrinsic xs)) (with_declaration nothing_declared t (decl.Declaration.intrinsic xs)) (m + declaration_stops (decl.Declaration.intrinsic xs)) ds
    (left_plain p n j t m (decl.Declaration.intrinsic xs) ds refl refl a))
few_declarations p g n j entry t m (decl.and (decl.Declaration.label xs) ds) a =
    nothing_before no_body (few_declarations p g n j (entries_behind p g n entry (decl.Declaration.label xs)) (with_declaration nothing_declared t (decl.Declaration.label xs)) (m + declaration_stops (decl.Declaration.label xs)) ds
    (left_plain p n j t m (decl.Declaration.label xs) ds refl refl a))
few_declarations p g n j entry t m (decl.and (decl.Declaration.forward h) ds) a =
    nothing_before no_body (few_declarations p g n j (entries_behind p g n entry (decl.Declaration.forward h)) (with_declaration nothing_declared t (decl.Declaration.forward h)) (m + declaration_stops (decl.Declaration.forward h)) ds
    (left_plain p n j t m (decl.Declaration.forward h) ds refl refl a))
few_declarations p g n j entry t m (decl.and (decl.Declaration.external h) ds) a =
    nothing_before no_body (few_declarations p g n j (entries_behind p g n entry (decl.Declaration.external h)) (with_declaration nothing_declared t (decl.Declaration.external h)) (m + declaration_stops (decl.Declaration.external h)) ds
    (left_plain p n j t m (decl.Declaration.external h) ds refl refl a))

-- ---- a module

-- what a unit has in a segment by its number
abbrev pub number_weight : Source → ℕ → ℕ
number_weight u g = routines_weight g (routines_of u) + (if main_there u g then main_weight u else 0)

nothing_behind : (n : ℕ) {q : Part} → Few (n + 0) q → Few (n + 0) (q ⨟ nothing)
nothing_behind n a = few_more (few_then a none) (still n)
  where
    none : Few 0 nothing
    none = no_body

    still : (n : ℕ) → n + 0 + 0 ≤ n + 0
    still n = omega arith

few_main : (p : Placed) (g : ℕ) (sub inside : Bool) (words : ℕ) → FewLoopsInUnit p.unit
    → Few (words + (if not sub && inside then subroutines_weight (unit_subroutines p.unit) else 0)) (declared_parts p g 0 0 0 (declarations p.unit.tree.items))
    → Few (words + (if not sub && inside then main_weight p.unit else 0))
    (declared_parts p g 0 0 0 (declarations p.unit.tree.items)
    ⨟ (if not sub && inside then main_at (module_entries p.unit g) (if sub then None else Some (main_body (global_places p) p.unit)) else nothing))
few_main p g true inside words few h = nothing_behind words h
few_main p g false false words few h = nothing_behind words h
few_main p g false true words few h = record {
  few = λ l ws.
      let first = declared_parts p g 0 0 0 (declarations p.unit.tree.items) l ws in
      let es : List Entry = module_entries p.unit g in
      let subs = h.few l ws in
      let body = takes_main es (global_places p) p.unit (length es) few.0 (l + first.marks) first.wants in
      let sum = count_append first.pieces (main_at es (Some (main_body (global_places p) p.unit)) (l + first.marks) first.wants).pieces in
      omega (arith, subs, body, sum);
}

pub few_module : (p : Placed) (g : ℕ) → Each RoutineFits (routines_of p.unit) → Each FewLoopsInRoutine (routines_of p.unit) → FewLoopsInUnit p.unit
    → Few (number_weight p.unit g) (module_part p g)
few_module p g fit loops unit_loops =
    few_main p g p.unit.subprogram (nat_eq p.unit.tree.segment g) (routines_weight g (routines_of p.unit)) unit_loops
    (few_declarations p g 0 0 0 [] 0 (declarations p.unit.tree.items)
    (record { own = p.at.own; own_arrays = p.at.own_arrays; bodies = refl; inners = refl; fit = fit; loops = loops; inner_loops = unit_loops.1 }))
