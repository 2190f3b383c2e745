-- The names that the code of a unit in a segment wants, declaration by declaration: the procedure of a number is the one that is declared there.
use Rattle.std.proofs.Common.{◌≡◌, ℕ, zero, suc, ◌+◌, ◌&&◌, nat_eq, not, Bool, true, false, if◌then◌else◌, List, [], ◌∷◌, codes, drop, length, Option, Some, None, refl, sym, ap, subst, ◌∙◌}
use Rattle.std.specs.List.{slice_get}
use Rattle.std.proofs.lemmas.Bool.{and_parts}
use Rattle.spl_module_code.specs.spl_tree.DeclarationTrees as decl
use Rattle.spl_module_code.specs.spl_tree.DeclarationTrees.{Declaration, Declarations, declarations}
use Rattle.spl_module_code.specs.spl_tree.StatementTrees as stat
use Rattle.spl_module_code.specs.spl_tree.StatementTrees.{statements}
use Rattle.spl_module_code.specs.spl_meaning.Stops.{declaration_stops}
use Rattle.spl_module_code.specs.spl_meaning.Names.{Sort, Table, find, nothing_declared}
use Rattle.spl_module_code.specs.spl_meaning.Places.{Place, list_words, list_array_words}
use Rattle.spl_module_code.specs.spl_meaning.Tables.{Routine, Subroutine, with_declaration, routines_among, routines_of, routine_table, routine_names, routine_subroutines, subroutines_among, unit_subroutines, unit_table}
use Rattle.spl_module_code.specs.spl_meaning.Bodies.{Body, Named, procedure_body, named_bodies, main_body}
use Rattle.spl_module_code.specs.spl_meaning.Bound.{statements_names}
use Rattle.spl_module_code.specs.spl_code.Parts.{nothing}
use Rattle.spl_module_code.specs.spl_scopes.Entries.{main, routine, Entry, module_entries, routines_behind}
use Rattle.spl_module_code.specs.spl_scopes.Scopes.{Placed, global_places, routine_bodies}
use Rattle.spl_module_code.specs.Bodies.{body_statements, routine_part}
use Rattle.spl_module_code.specs.Modules.{inner_behind, routine_at, inner_with, inner_at, entries_behind, declared_part, declared_parts, main_at, marks_before, module_part}
use Rattle.spl_called_names.specs.Called.{Testing, calls_pass, inner_passes, inners_pass, routine_passes, routines_pass, main_passes, main_there, IsPassing}
use Rattle.spl_called_names.specs.Laws.{ModulesWantWhatIsCalled}
use Rattle.spl_called_names.proofs.PartLaws.{passing_pieces, passing_then}
use Rattle.spl_called_names.proofs.Bodies.{passing_statements, passing_procedure, passing_main, passing_inner, passing_inners}

-- ---- lists

next_there : {A : Type 0} (k : ℕ) (xs : List A) (y : A) (ys : List A) → drop k xs ≡ y ∷ ys → slice_get xs k ≡ Some y
next_there zero [] y ys is = cc
next_there zero (x ∷ xs) y ys is = ap (λ zs. slice_get zs 0) is
next_there (suc k) [] y ys is = cc
next_there (suc k) (x ∷ xs) y ys is = next_there k xs y ys is

drop_next : {A : Type 0} (k : ℕ) (xs : List A) (y : A) (ys : List A) → drop k xs ≡ y ∷ ys → drop (suc k) xs ≡ ys
drop_next zero [] y ys is = cc
drop_next zero (x ∷ xs) y ys is = ap (λ zs. drop 1 zs) is
drop_next (suc k) [] y ys is = cc
drop_next (suc k) (x ∷ xs) y ys is = drop_next k xs y ys is

-- both hold where they matter
when_both : (b x y : Bool) → (if b then x && y else true) ≡ true → ((if b then x else true) ≡ true) × ((if b then y else true) ≡ true)
when_both true x y h = and_parts x y h
when_both false x y h = (refl, refl)

-- ---- a declaration

abbrev made : Table Sort → ℕ → decl.Heading → Declarations → List stat.Statement → Routine
made t m h items ss = record { heading = h; items = items; statements = ss; globals = with_declaration nothing_declared t (decl.Declaration.procedure h items ss); before = m }

passing_routine : {t : Testing} (es : List Entry) (i entry : ℕ) (name : List ℕ) (globals : Table Place) (own own_arrays : ℕ) (r : Routine) → routine_passes t r ≡ true
    → IsPassing t (routine_part es i entry (record { name = name; body = procedure_body globals own own_arrays r }))
passing_routine {t} es i entry name globals own own_arrays r h =
    let b : Body = procedure_body globals own own_arrays r in
    let both = and_parts (inners_pass t (routine_names r) (routine_subroutines r)) (calls_pass t (routine_names r) (statements_names (statements r.statements))) h in
    passing_then (passing_inners es (routine i) b (suc entry) (routine_subroutines r) both.0)
    (passing_procedure b entry (body_statements es (routine i) b) (λ leave. passing_statements es (routine i) b leave both.1))

passing_routine_at : {t : Testing} (es : List Entry) (i entry : ℕ) (o : Option Named) (x : Named) (inside pass : Bool) → o ≡ Some x
    → (if inside then pass else true) ≡ true → (pass ≡ true → IsPassing t (routine_part es i entry x))
    → IsPassing t (if inside then routine_at es i entry o else nothing)
passing_routine_at {t} es i entry o x true pass is h part = subst (λ (o : Option Named). IsPassing t (routine_at es i entry o)) (sym is) (part h)
passing_routine_at {t} es i entry o x false pass is h part = passing_pieces []

passing_inner_with : {t : Testing} (es : List Entry) (b : Body) (entry : ℕ) (o : Option Subroutine) (s : Subroutine) → o ≡ Some s
    → inner_passes t b.here.names s ≡ true → IsPassing t (inner_with es b entry o)
passing_inner_with {t} es b entry o s is h = subst (λ (o : Option Subroutine). IsPassing t (inner_with es b entry o)) (sym is) (passing_inner es main b entry s h)

-- a subroutine of the main body, where there is one
passing_inner_at : {t : Testing} (p : Placed) (g j entry : ℕ) (sub inside : Bool) (s : Subroutine) → slice_get (unit_subroutines p.unit) j ≡ Some s
    → (if not sub && inside then inner_passes t (find (unit_table p.unit)) s else true) ≡ true
    → IsPassing t (if inside then inner_at (module_entries p.unit g) j entry (if sub then None else Some (main_body (global_places p) p.unit)) else nothing)
passing_inner_at p g j entry true true s is h = passing_pieces []
passing_inner_at p g j entry true false s is h = passing_pieces []
passing_inner_at p g j entry false true s is h =
    passing_inner_with (module_entries p.unit g) (main_body (global_places p) p.unit) entry (slice_get (unit_subroutines p.unit) j) s is h
passing_inner_at p g j entry false false s is h = passing_pieces []

-- what is left of a unit's procedures and of its main body's subroutines before some declarations; in the segment it passes
record Left (t : Testing) (p : Placed) (g n j : ℕ) (ds : Declarations) : Type 0 where
  table : Table Sort
  before : ℕ
  own : ℕ
  own_arrays : ℕ
  bodies : drop n (routine_bodies p) ≡ named_bodies (global_places p) own own_arrays (routines_among table before ds)
  inners : drop j (unit_subroutines p.unit) ≡ subroutines_among before ds
  routines : routines_pass t g (routines_among table before ds) ≡ true
  main_inners : (if main_there p.unit g then inners_pass t (find (unit_table p.unit)) (subroutines_among before ds) else true) ≡ true

left_plain : {t : Testing} (p : Placed) (g n j : ℕ) (d : Declaration) (ds : Declarations) (a : Left t p g n j (decl.and d ds))
    → routines_among a.table a.before (decl.and d ds) ≡ routines_among (with_declaration nothing_declared a.table d) (a.before + declaration_stops d) ds
    → subroutines_among a.before (decl.and d ds) ≡ subroutines_among (a.before + declaration_stops d) ds → Left t p g n j ds
left_plain {t} p g n j d ds a routines inners = record {
  table = with_declaration nothing_declared a.table d;
  before = a.before + declaration_stops d;
  own = a.own;
  own_arrays = a.own_arrays;
  bodies = a.bodies ∙ ap (λ (rs : List Routine). named_bodies (global_places p) a.own a.own_arrays rs) routines;
  inners = a.inners ∙ inners;
  routines = ap (routines_pass t g) (sym routines) ∙ a.routines;
  main_inners = ap (λ (ss : List Subroutine). if main_there p.unit g then inners_pass t (find (unit_table p.unit)) ss else true) (sym inners) ∙ a.main_inners;
}

-- its first procedure, and the others
procedure_parts : (t : Testing) (g : ℕ) (r : Routine) (rs : List Routine) → routines_pass t g (r ∷ rs) ≡ true
    → ((if nat_eq r.heading.segment g then routine_passes t r else true) ≡ true) × (routines_pass t g rs ≡ true)
procedure_parts t g r rs h = and_parts (if nat_eq r.heading.segment g then routine_passes t r else true) (routines_pass t g rs) h

passing_declared : {t : Testing} (p : Placed) (g n j entry : ℕ) (d : Declaration) (ds : Declarations) → Left t p g n j (decl.and d ds)
    → IsPassing t (declared_part p g n j entry d)
passing_declared {t} p g n j entry (decl.Declaration.procedure h items ss) ds a =
    let d = decl.Declaration.procedure h items ss in
    let r : Routine = made a.table a.before h items ss in
    let behind : List Routine = routines_among (with_declaration nothing_declared a.table d) (a.before + declaration_stops d) ds in
    let there = next_there n (routine_bodies p) (record { name = h.name; body = procedure_body (global_places p) a.own a.own_arrays r })
    (named_bodies (global_places p) (a.own + list_words true (routine_table r)) (a.own_arrays + list_array_words true (routine_table r)) behind) a.bodies in
    passing_routine_at (module_entries p.unit g) n entry (slice_get (routine_bodies p) n) _ (nat_eq h.segment g) (routine_passes t r) there
    (procedure_parts t g r behind a.routines).0
    (λ pass. passing_routine (module_entries p.unit g) n entry h.name (global_places p) a.own a.own_arrays r pass)
passing_declared {t} p g n j entry (decl.Declaration.subroutine h s) ds a =
    let d = decl.Declaration.subroutine h s in
    let sub : Subroutine = record { heading = h; statement = s; before = a.before } in
    let there = next_there j (unit_subroutines p.unit) sub (subroutines_among (a.before + declaration_stops d) ds) a.inners in
    passing_inner_at p g j entry p.unit.subprogram (nat_eq p.unit.tree.segment g) sub there
    (when_both (main_there p.unit g) (inner_passes t (find (unit_table p.unit)) sub) (inners_pass t (find (unit_table p.unit)) (subroutines_among (a.before + declaration_stops d) ds))
    a.main_inners).0
passing_declared p g n j entry (decl.Declaration.data_items own k items) ds a = passing_pieces []
passing_declared p g n j entry (decl.Declaration.equate xs) ds a = passing_pieces []
passing_declared p g n j entry (decl.Declaration.intrinsic xs) ds a = passing_pieces []
passing_declared p g n j entry (decl.Declaration.label xs) ds a = passing_pieces []
passing_declared p g n j entry (decl.Declaration.forward h) ds a = passing_pieces []
passing_declared p g n j entry (decl.Declaration.external h) ds a = passing_pieces []

left_next : {t : Testing} (p : Placed) (g n j : ℕ) (d : Declaration) (ds : Declarations) → Left t p g n j (decl.and d ds) → Left t p g (routines_behind n d) (inner_behind j d) ds
left_next {t} p g n j (decl.Declaration.procedure h items ss) ds a =
    let d = decl.Declaration.procedure h items ss in
    let r : Routine = made a.table a.before h items ss in
    let behind : List Routine = routines_among (with_declaration nothing_declared a.table d) (a.before + declaration_stops d) ds in
    record {
      table = with_declaration nothing_declared a.table d;
      before = a.before + declaration_stops d;
      own = a.own + list_words true (routine_table r);
      own_arrays = a.own_arrays + list_array_words true (routine_table r);
      bodies = drop_next n (routine_bodies p) (record { name = h.name; body = procedure_body (global_places p) a.own a.own_arrays r })
          (named_bodies (global_places p) (a.own + list_words true (routine_table r)) (a.own_arrays + list_array_words true (routine_table r)) behind) a.bodies;
      inners = a.inners;
      routines = (procedure_parts t g r behind a.routines).1;
      main_inners = a.main_inners;
    }
left_next {t} p g n j (decl.Declaration.subroutine h s) ds a =
    let d = decl.Declaration.subroutine h s in
    let sub : Subroutine = record { heading = h; statement = s; before = a.before } in
    record {
      table = with_declaration nothing_declared a.table d;
      before = a.before + declaration_stops d;
      own = a.own;
      own_arrays = a.own_arrays;
      bodies = a.bodies;
      inners = drop_next j (unit_subroutines p.unit) sub (subroutines_among (a.before + declaration_stops d) ds) a.inners;
      routines = a.routines;
      main_inners = (when_both (main_there p.unit g) (inner_passes t (find (unit_table p.unit)) sub)
          (inners_pass t (find (unit_table p.unit)) (subroutines_among (a.before + declaration_stops d) ds)) a.main_inners).1;
    }
left_next p g n j (decl.Declaration.data_items own k items) ds a = left_plain p g n j (decl.Declaration.data_items own k items) ds a refl refl
left_next p g n j (decl.Declaration.equate xs) ds a = left_plain p g n j (decl.Declaration.equate xs) ds a refl refl
left_next p g n j (decl.Declaration.intrinsic xs) ds a = left_plain p g n j (decl.Declaration.intrinsic xs) ds a refl refl
left_next p g n j (decl.Declaration.label xs) ds a = left_plain p g n j (decl.Declaration.label xs) ds a refl refl
left_next p g n j (decl.Declaration.forward h) ds a = left_plain p g n j (decl.Declaration.forward h) ds a refl refl
left_next p g n j (decl.Declaration.external h) ds a = left_plain p g n j (decl.Declaration.external h) ds a refl refl

-- ---- a module

passing_declarations : {t : Testing} (p : Placed) (g n j entry : ℕ) (ds : Declarations) → Left t p g n j ds → IsPassing t (declared_parts p g n j entry ds)
passing_declarations p g n j entry decl.none a = passing_pieces []
passing_declarations p g n j entry (decl.and d ds) a =
    passing_then (passing_declared p g n j entry d ds a)
    (passing_declarations p g (routines_behind n d) (inner_behind j d) (entries_behind p g n entry d) ds (left_next p g n j d ds a))

abbrev main_calls : Testing → Placed → Bool
main_calls t p =
    calls_pass t (find (unit_table p.unit)) (statements_names (statements p.unit.tree.statements)) && t (record { name = codes "TERMINATE"; gate = true })

-- the main body, where the unit is no subprogram and has it there
passing_main_at : {t : Testing} (p : Placed) (g : ℕ) (sub inside : Bool) → (if not sub && inside then main_calls t p else true) ≡ true
    → IsPassing t (if not sub && inside then main_at (module_entries p.unit g) (if sub then None else Some (main_body (global_places p) p.unit)) else nothing)
passing_main_at p g true inside h = passing_pieces []
passing_main_at p g false false h = passing_pieces []
passing_main_at {t} p g false true h =
    let es : List Entry = module_entries p.unit g in
    let b : Body = main_body (global_places p) p.unit in
    let both = and_parts (calls_pass t (find (unit_table p.unit)) (statements_names (statements p.unit.tree.statements))) (t (record { name = codes "TERMINATE"; gate = true })) h in
    passing_main b (length es) (body_statements es main b (length es)) (passing_statements es main b (length es) both.0) both.1

pub passing_module : ModulesWantWhatIsCalled
passing_module t p g h = whole.passes (marks_before p g) [] refl
  where
    routines : Bool
    routines = routines_pass t g (routines_of p.unit)

    mains : (if main_there p.unit g then inners_pass t (find (unit_table p.unit)) (unit_subroutines p.unit) && main_calls t p else true) ≡ true
    mains = (and_parts routines (if main_there p.unit g then main_passes t p.unit else true) h).1

    whole : IsPassing t (module_part p g)
    whole =
        let both = when_both (main_there p.unit g) (inners_pass t (find (unit_table p.unit)) (unit_subroutines p.unit)) (main_calls t p) mains in
        let first : Left t p g 0 0 (declarations p.unit.tree.items) = record {
          table = [];
          before = 0;
          own = p.at.own;
          own_arrays = p.at.own_arrays;
          bodies = refl;
          inners = refl;
          routines = (and_parts routines (if main_there p.unit g then main_passes t p.unit else true) h).0;
          main_inners = both.0;
        } in
        passing_then (passing_declarations p g 0 0 0 (declarations p.unit.tree.items) first) (passing_main_at p g p.unit.subprogram (nat_eq p.unit.tree.segment g) both.1)
