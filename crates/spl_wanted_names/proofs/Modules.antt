-- The names that the code of a unit in a segment wants, declaration by declaration: the procedure of a number is the one that is declared there.
use Rattle.std.proofs.Common.{◌≡◌, ◌≤◌, ℕ, zero, suc, ◌+◌, ◌&&◌, nat_eq, not, Bool, true, false, if◌then◌else◌, List, [], ◌∷◌, drop, length, Option, Some, None, refl, sym, ap, subst, ◌∙◌, arith}
use Rattle.std.specs.List.{list_all, slice_get}
use Rattle.std.proofs.lemmas.List.{length-map}
use Rattle.spl_module_code.specs.spl_tree.DeclarationTrees as decl
use Rattle.spl_module_code.specs.spl_tree.DeclarationTrees.{Declaration, Declarations, declarations}
use Rattle.spl_module_code.specs.spl_tree.StatementTrees as stat
use Rattle.spl_module_code.specs.spl_tree.StatementTrees.{statements}
use Rattle.spl_module_code.specs.spl_meaning.Stops.{declaration_stops}
use Rattle.spl_module_code.specs.spl_meaning.Names.{Sort, Table, find, nothing_declared}
use Rattle.spl_module_code.specs.spl_meaning.Places.{Place, list_words, list_array_words}
use Rattle.spl_module_code.specs.spl_meaning.Tables.{Routine, Subroutine, with_declaration, routines_among, routine_table, subroutines_among, unit_subroutines}
use Rattle.spl_module_code.specs.spl_meaning.Bodies.{Body, Named, procedure_body, named_bodies, main_body}
use Rattle.spl_module_code.specs.spl_code.Parts.{Part, nothing, wanted_of}
use Rattle.spl_module_code.specs.spl_scopes.Entries.{main, routine, Entry, module_entries, routines_behind}
use Rattle.spl_module_code.specs.spl_scopes.Scopes.{Placed, global_places, routine_bodies}
use Rattle.spl_module_code.specs.Bodies.{body_statements, routine_part}
use Rattle.spl_module_code.specs.Modules.{inner_behind, routine_at, inner_with, inner_at, entries_behind, declared_part, declared_parts, main_at, marks_before, module_written}
use Rattle.spl_few_calls.specs.Calls.{calls_in, calls_within}
use Rattle.spl_wanted_names.specs.Wants.{names_gate, IsWanting}
use Rattle.spl_wanted_names.specs.Counts.{all_inner_calls, calls_at, all_calls_at, module_calls}
use Rattle.spl_wanted_names.specs.Laws.{ModulesWantFewNames, WantsAreKnown}
use Rattle.spl_wanted_names.proofs.PartLaws.{wanting_pieces, wanting_then}
use Rattle.spl_wanted_names.proofs.Intrinsics.{Known, known_first, known_next, known_unit, known_routine}
use Rattle.spl_wanted_names.proofs.Bodies.{wanting_statements, wanting_procedure, wanting_main, wanting_inner, wanting_inners}

-- ---- lists

next_there : {A : Type 0} (k : ℕ) (xs : List A) (y : A) (ys : List A) → drop k xs ≡ y ∷ ys → slice_get xs k ≡ Some y
next_there zero [] y ys is = cc
next_there zero (x ∷ xs) y ys is = ap (λ zs. slice_get zs 0) is
next_there (suc k) [] y ys is = cc
next_there (suc k) (x ∷ xs) y ys is = next_there k xs y ys is

drop_next : {A : Type 0} (k : ℕ) (xs : List A) (y : A) (ys : List A) → drop k xs ≡ y ∷ ys → drop (suc k) xs ≡ ys
drop_next zero [] y ys is = cc
drop_next zero (x ∷ xs) y ys is = ap (λ zs. drop 1 zs) is
drop_next (suc k) [] y ys is = cc
drop_next (suc k) (x ∷ xs) y ys is = drop_next k xs y ys is

-- ---- a declaration

abbrev made : Table Sort → ℕ → decl.Heading → Declarations → List stat.Statement → Routine
made t m h items ss = record { heading = h; items = items; statements = ss; globals = with_declaration nothing_declared t (decl.Declaration.procedure h items ss); before = m }

-- a procedure of which this is the routine
wanting_routine : (es : List Entry) (i entry : ℕ) (name : List ℕ) (globals : Table Place) (own own_arrays : ℕ) (t : Table Sort) (m : ℕ) (h : decl.Heading) (items : Declarations)
    (ss : List stat.Statement) → Known (find t)
    → IsWanting (all_inner_calls items + calls_within (statements ss))
    (routine_part es i entry (record { name = name; body = procedure_body globals own own_arrays (made t m h items ss) }))
wanting_routine es i entry name globals own own_arrays t m h items ss known =
    let r : Routine = made t m h items ss in
    let b : Body = procedure_body globals own own_arrays r in
    let names : Known b.here.names = known_routine r (known_next t (decl.Declaration.procedure h items ss) known) in
    wanting_then (wanting_inners es (routine i) b (suc entry) m items names)
    (wanting_procedure b entry (body_statements es (routine i) b) (λ leave. wanting_statements es (routine i) b leave names))

wanting_routine_at : (es : List Entry) (i entry n : ℕ) (o : Option Named) (x : Named) → o ≡ Some x → IsWanting n (routine_part es i entry x) → IsWanting n (routine_at es i entry o)
wanting_routine_at es i entry n o x is h = subst (λ (o : Option Named). IsWanting n (routine_at es i entry o)) (sym is) h

wanting_inner_with : (es : List Entry) (b : Body) (entry : ℕ) (o : Option Subroutine) (s : Subroutine) → o ≡ Some s → Known b.here.names
    → IsWanting (calls_in s.statement) (inner_with es b entry o)
wanting_inner_with es b entry o s is known =
    subst (λ (o : Option Subroutine). IsWanting (calls_in s.statement) (inner_with es b entry o)) (sym is) (wanting_inner es main b entry s known)

-- a subroutine of the main body, where there is one
wanting_inner_at : (p : Placed) (g j entry : ℕ) (sub : Bool) (s : Subroutine) → slice_get (unit_subroutines p.unit) j ≡ Some s
    → IsWanting (calls_in s.statement) (inner_at (module_entries p.unit g) j entry (if sub then None else Some (main_body (global_places p) p.unit)))
wanting_inner_at p g j entry true s is = wanting_pieces []
wanting_inner_at p g j entry false s is =
    wanting_inner_with (module_entries p.unit g) (main_body (global_places p) p.unit) entry (slice_get (unit_subroutines p.unit) j) s is (known_unit p.unit)

chosen : (n : ℕ) (b : Bool) (p : Part) → IsWanting n p → IsWanting (if b then n else 0) (if b then p else nothing)
chosen n true p h = h
chosen n false p h = wanting_pieces []

-- what is left of a unit's procedures and of its main body's subroutines before some declarations
record Left (p : Placed) (n j : ℕ) (ds : Declarations) : Type 0 where
  table : Table Sort
  before : ℕ
  own : ℕ
  own_arrays : ℕ
  known : Known (find table)
  bodies : drop n (routine_bodies p) ≡ named_bodies (global_places p) own own_arrays (routines_among table before ds)
  inners : drop j (unit_subroutines p.unit) ≡ subroutines_among before ds

left_plain : (p : Placed) (n j : ℕ) (d : Declaration) (ds : Declarations) (a : Left p n j (decl.and d ds))
    → routines_among a.table a.before (decl.and d ds) ≡ routines_among (with_declaration nothing_declared a.table d) (a.before + declaration_stops d) ds
    → subroutines_among a.before (decl.and d ds) ≡ subroutines_among (a.before + declaration_stops d) ds → Left p n j ds
left_plain p n j d ds a routines inners = record {
  table = with_declaration nothing_declared a.table d;
  before = a.before + declaration_stops d;
  own = a.own;
  own_arrays = a.own_arrays;
  known = known_next a.table d a.known;
  bodies = a.bodies ∙ ap (λ (rs : List Routine). named_bodies (global_places p) a.own a.own_arrays rs) routines;
  inners = a.inners ∙ inners;
}

wanting_declared : (p : Placed) (g n j entry : ℕ) (d : Declaration) (ds : Declarations) → Left p n j (decl.and d ds)
    → IsWanting (calls_at p.unit.tree.segment g d) (declared_part p g n j entry d)
wanting_declared p g n j entry (decl.Declaration.procedure h items ss) ds a =
    let d = decl.Declaration.procedure h items ss in
    let r : Routine = made a.table a.before h items ss in
    let there = next_there n (routine_bodies p) (record { name = h.name; body = procedure_body (global_places p) a.own a.own_arrays r })
    (named_bodies (global_places p) (a.own + list_words true (routine_table r)) (a.own_arrays + list_array_words true (routine_table r))
    (routines_among (with_declaration nothing_declared a.table d) (a.before + declaration_stops d) ds)) a.bodies in
    chosen (all_inner_calls items + calls_within (statements ss)) (nat_eq h.segment g) _
    (wanting_routine_at (module_entries p.unit g) n entry _ (slice_get (routine_bodies p) n) _ there
    (wanting_routine (module_entries p.unit g) n entry h.name (global_places p) a.own a.own_arrays a.table a.before h items ss a.known))
wanting_declared p g n j entry (decl.Declaration.subroutine h s) ds a =
    let d = decl.Declaration.subroutine h s in
    let there = next_there j (unit_subroutines p.unit) (record { heading = h; statement = s; before = a.before }) (subroutines_among (a.before + declaration_stops d) ds) a.inners in
    chosen (calls_in s) (nat_eq p.unit.tree.segment g) _ (wanting_inner_at p g j entry p.unit.subprogram (record { heading = h; statement = s; before = a.before }) there)
wanting_declared p g n j entry (decl.Declaration.data_items own k items) ds a = wanting_pieces []
wanting_declared p g n j entry (decl.Declaration.equate es) ds a = wanting_pieces []
wanting_declared p g n j entry (decl.Declaration.intrinsic xs) ds a = wanting_pieces []
wanting_declared p g n j entry (decl.Declaration.label xs) ds a = wanting_pieces []
wanting_declared p g n j entry (decl.Declaration.forward h) ds a = wanting_pieces []
wanting_declared p g n j entry (decl.Declaration.external h) ds a = wanting_pieces []

left_next : (p : Placed) (n j : ℕ) (d : Declaration) (ds : Declarations) → Left p n j (decl.and d ds) → Left p (routines_behind n d) (inner_behind j d) ds
left_next p n j (decl.Declaration.procedure h items ss) ds a =
    let d = decl.Declaration.procedure h items ss in
    let r : Routine = made a.table a.before h items ss in
    record {
      table = with_declaration nothing_declared a.table d;
      before = a.before + declaration_stops d;
      own = a.own + list_words true (routine_table r);
      own_arrays = a.own_arrays + list_array_words true (routine_table r);
      known = known_next a.table d a.known;
      bodies = drop_next n (routine_bodies p) (record { name = h.name; body = procedure_body (global_places p) a.own a.own_arrays r })
          (named_bodies (global_places p) (a.own + list_words true (routine_table r)) (a.own_arrays + list_array_words true (routine_table r))
          (routines_among (with_declaration nothing_declared a.table d) (a.before + declaration_stops d) ds)) a.bodies;
      inners = a.inners;
    }
left_next p n j (decl.Declaration.subroutine h s) ds a =
    let d = decl.Declaration.subroutine h s in
    record {
      table = with_declaration nothing_declared a.table d;
      before = a.before + declaration_stops d;
      own = a.own;
      own_arrays = a.own_arrays;
      known = known_next a.table d a.known;
      bodies = a.bodies;
      inners = drop_next j (unit_subroutines p.unit) (record { heading = h; statement = s; before = a.before }) (subroutines_among (a.before + declaration_stops d) ds) a.inners;
    }
left_next p n j (decl.Declaration.data_items own k items) ds a = left_plain p n j (decl.Declaration.data_items own k items) ds a refl refl
left_next p n j (decl.Declaration.equate es) ds a = left_plain p n j (decl.Declaration.equate es) ds a refl refl
left_next p n j (decl.Declaration.intrinsic xs) ds a = left_plain p n j (decl.Declaration.intrinsic xs) ds a refl refl
left_next p n j (decl.Declaration.label xs) ds a = left_plain p n j (decl.Declaration.label xs) ds a refl refl
left_next p n j (decl.Declaration.forward h) ds a = left_plain p n j (decl.Declaration.forward h) ds a refl refl
left_next p n j (decl.Declaration.external h) ds a = left_plain p n j (decl.Declaration.external h) ds a refl refl

-- ---- a module

wanting_declarations : (p : Placed) (g n j entry : ℕ) (ds : Declarations) → Left p n j ds → IsWanting (all_calls_at p.unit.tree.segment g ds) (declared_parts p g n j entry ds)
wanting_declarations p g n j entry decl.none a = wanting_pieces []
wanting_declarations p g n j entry (decl.and d ds) a =
    wanting_then (wanting_declared p g n j entry d ds a)
    (wanting_declarations p g (routines_behind n d) (inner_behind j d) (entries_behind p g n entry d) ds (left_next p n j d ds a))

left_first : (p : Placed) → Left p 0 0 (declarations p.unit.tree.items)
left_first p = record {
  table = [];
  before = 0;
  own = p.at.own;
  own_arrays = p.at.own_arrays;
  known = known_first;
  bodies = refl;
  inners = refl;
}

-- the main body, where the unit is no subprogram and has it there
wanting_main_at : (p : Placed) (g : ℕ) (sub inside : Bool)
    → IsWanting (if inside then suc (calls_within (statements p.unit.tree.statements)) else 0)
    (if not sub && inside then main_at (module_entries p.unit g) (if sub then None else Some (main_body (global_places p) p.unit)) else nothing)
wanting_main_at p g true inside = wanting_pieces []
wanting_main_at p g false false = wanting_pieces []
wanting_main_at p g false true =
    let es : List Entry = module_entries p.unit g in
    let b : Body = main_body (global_places p) p.unit in
    wanting_main b (length es) (body_statements es main b (length es)) (wanting_statements es main b (length es) (known_unit p.unit))

pub wanting_module : ModulesWantFewNames
wanting_module p g =
    wanting_then (wanting_declarations p g 0 0 0 (declarations p.unit.tree.items) (left_first p))
    (wanting_main_at p g p.unit.subprogram (nat_eq p.unit.tree.segment g))

behind_none : (n m : ℕ) → m ≤ 0 + n → m ≤ n
behind_none n m le = omega arith

pub wants_known : WantsAreKnown
wants_known p name g c is =
    let one = wanting_module p g in
    let count = length-map c.wants.items wanted_of in (
      subst (λ (k : ℕ). k ≤ module_calls p.unit g) (ap length (sym is.wants) ∙ count)
          (behind_none (module_calls p.unit g) (length (module_written p g).wants) (one.few (marks_before p g) [])),
      ap (list_all names_gate) is.wants ∙ one.gates (marks_before p g) [] refl,
    )
