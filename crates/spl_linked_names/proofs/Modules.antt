-- The procedures of a unit are defined by its modules.
-- 1. the entry of a procedure                    (procedure_entered)
-- 2. the names that a module defines             (defined_there)
-- 3. so it is with a unit's modules               (unit_defines)
use Rattle.std.proofs.Common.{◌≡◌, ◌⊎◌, inl, inr, ℕ, zero, suc, ◌+◌, ◌≤◌, ◌<◌, nat_eq, Bool, true, false, if◌then◌else◌, List, [], ◌∷◌, map, length, Some, refl, sym, ap, subst, ◌∙◌, arith, zero-add, rules}
use Rattle.std.specs.List.{slice_get}
use Rattle.std.specs.Prelude.{option_map}
use Rattle.std.specs.Cmp.Lexicographic.{same_text}
use Rattle.std.proofs.lemmas.Option.{slice_get_within}
use Rattle.std.proofs.lemmas.Bool.{cases_lt, lt-ltb}
use Rattle.spl_carried.specs.spl_tree.DeclarationTrees as decl
use Rattle.spl_carried.specs.spl_tree.DeclarationTrees.{Declarations, declarations}
use Rattle.spl_carried.specs.spl_meaning.Names.{Sort, Table, find, same_name, nothing_declared}
use Rattle.spl_carried.specs.spl_meaning.Tables.{Routine, with_declaration, routines_among, routines_of}
use Rattle.spl_carried.specs.spl_meaning.Stops.{declaration_stops}
use Rattle.spl_carried.specs.spl_branch.declared.buffer.Entry as code
use Rattle.spl_carried.specs.spl_branch.declared.modules.Define.{Define}
use Rattle.spl_carried.specs.spl_branch.declared.modules.Module.{Module}
use Rattle.spl_carried.specs.spl_branch.Modules.{define_of}
use Rattle.spl_carried.specs.spl_modules.Made.{Made, made_of, made_from}
use Rattle.spl_carried.specs.spl_scopes.Entries.{Entry, procedure, is_callable, in_segment, declared_entries, entries_among, module_entries}
use Rattle.spl_carried.specs.spl_scopes.Scopes.{Placed}
use Rattle.spl_carried.specs.spl_module_code.Modules.{IsModuleOf, AreOfUnit, marks_before, numbered, uses, uses_among}
use Rattle.spl_carried.specs.mpe_segmenter.Names.{is_among}
use Rattle.spl_carried.specs.mpe_segmenter.Faults.{define_names, callables}
use Rattle.spl_carried.specs.spl_bounds.Segments.{NumbersSegments, StandsIn}
use Rattle.spl_carried.specs.spl_places.Programs.{Each}
use Rattle.spl_carried.proofs.mpe_segmenter_proofs.NameLemmas.{same_self}
use Rattle.spl_sound_headings.specs.spl_routines.Among.{IsIn, at_front, behind}
use Rattle.spl_sound_headings.proofs.spl_routines_proofs.ListLemmas.{in_right, place_of}
use Rattle.spl_sound_headings.proofs.spl_routines_proofs.ThereLemmas.{unit_has, among_use}
use Rattle.spl_linked_names.proofs.Repeats.{among_left, among_right, among_self}

-- ---- 1. entries

abbrev entry_of : Routine → Entry
entry_of r = record { name = r.heading.name; segment = r.heading.segment; callee = procedure }

in_segment_there : (g : ℕ) (e : Entry) (es : List Entry) → e.segment ≡ g → IsIn e es → IsIn e (in_segment g es)
in_segment_there g e [] is k = elim k [ ]
in_segment_there g e (x ∷ es) is (at_front same) =
    subst (λ (b : Bool). IsIn e (if b then x ∷ in_segment g es else in_segment g es)) (sym (ap (λ (y : Entry). nat_eq y.segment g) (sym same) ∙ ap (λ (n : ℕ). nat_eq n g) is ∙ self g))
    (at_front same)
  where
    self : (n : ℕ) → nat_eq n n ≡ true
    self n = search rules
in_segment_there g e (x ∷ es) is (behind k) = by (nat_eq x.segment g) (in_segment_there g e es is k)
  where
    by : (b : Bool) → IsIn e (in_segment g es) → IsIn e (if b then x ∷ in_segment g es else in_segment g es)
    by true j = behind j
    by false j = j

routine_same : (a b : Routine) → Some a ≡ Some b → a ≡ b
routine_same a b is = cc

procedure_entered : (seg n : ℕ) (t : Table Sort) (m : ℕ) (ds : Declarations) (j : ℕ) (r : Routine) → slice_get (routines_among t m ds) j ≡ Some r
    → IsIn (entry_of r) (entries_among seg n ds)
procedure_entered seg n t m decl.none j r is = cc
procedure_entered seg n t m (decl.and (decl.Declaration.procedure h items ss) ds) zero r is =
    at_front (ap entry_of (sym (routine_same _ r is)))
procedure_entered seg n t m (decl.and (decl.Declaration.procedure h items ss) ds) (suc j) r is =
    let d = decl.Declaration.procedure h items ss in
    in_right (entry_of r) (declared_entries seg n d) (entries_among seg (suc n) ds) (procedure_entered seg (suc n) (with_declaration nothing_declared t d) (m + declaration_stops d) ds j r is)
procedure_entered seg n t m (decl.and (decl.Declaration.subroutine h s) ds) j r is =
    let d = decl.Declaration.subroutine h s in
    in_right (entry_of r) (declared_entries seg n d) (entries_among seg n ds) (procedure_entered seg n (with_declaration nothing_declared t d) (m + declaration_stops d) ds j r is)
procedure_entered seg n t m (decl.and (decl.Declaration.data_items own k items) ds) j r is =
    procedure_entered seg n (with_declaration nothing_declared t (decl.Declaration.data_items own k items)) (m + declaration_stops (decl.Declaration.data_items own k items)) ds j r is
procedure_entered seg n t m (decl.and (decl.Declaration.equate es) ds) j r is =
    procedure_entered seg n (with_declaration nothing_declared t (decl.Declaration.equate es)) (m + declaration_stops (decl.Declaration.equate es)) ds j r is
procedure_entered seg n t m (decl.and (decl.Declaration.intrinsic xs) ds) j r is =
    procedure_entered seg n (with_declaration nothing_declared t (decl.Declaration.intrinsic xs)) (m + declaration_stops (decl.Declaration.intrinsic xs)) ds j r is
procedure_entered seg n t m (decl.and (decl.Declaration.label xs) ds) j r is =
    procedure_entered seg n (with_declaration nothing_declared t (decl.Declaration.label xs)) (m + declaration_stops (decl.Declaration.label xs)) ds j r is
procedure_entered seg n t m (decl.and (decl.Declaration.forward h) ds) j r is =
    procedure_entered seg n (with_declaration nothing_declared t (decl.Declaration.forward h)) (m + declaration_stops (decl.Declaration.forward h)) ds j r is
procedure_entered seg n t m (decl.and (decl.Declaration.external h) ds) j r is =
    procedure_entered seg n (with_declaration nothing_declared t (decl.Declaration.external h)) (m + declaration_stops (decl.Declaration.external h)) ds j r is

-- ---- 2. defines

-- the names of entries that may be called from anywhere
names_of : List Made → List (List ℕ)
names_of [] = []
names_of (e ∷ es) = if e.callable then e.name ∷ names_of es else names_of es

defines_are : (marks : ℕ → ℕ) (es : List code.Entry) → define_names (map (define_of marks) es) ≡ names_of (map made_of es)
unfolding names_of
defines_are marks [] = refl
defines_are marks (e ∷ es) = ap (λ (ns : List (List ℕ)). if (made_of e).callable then (made_of e).name ∷ ns else ns) (defines_are marks es)

made_named : (k : ℕ) (es : List Entry) (e : Entry) → is_callable e.callee ≡ true → IsIn e es → is_among e.name (names_of (made_from k es)) ≡ true
unfolding names_of
made_named k [] e called is = elim is [ ]
made_named k (x ∷ es) e called (at_front same) =
    ap (λ (b : Bool). is_among e.name (if b then x.name ∷ names_of (made_from (suc k) es) else names_of (made_from (suc k) es)))
    (ap (λ (y : Entry). is_callable y.callee) (sym same) ∙ called)
    ∙ ap (λ (y : Entry). is_among e.name (y.name ∷ names_of (made_from (suc k) es))) (sym same) ∙ among_self e.name (names_of (made_from (suc k) es))
made_named k (x ∷ es) e called (behind later) = by (is_callable x.callee) (made_named (suc k) es e called later)
  where
    by : (b : Bool) → is_among e.name (names_of (made_from (suc k) es)) ≡ true
        → is_among e.name (if b then x.name ∷ names_of (made_from (suc k) es) else names_of (made_from (suc k) es)) ≡ true
    by true rest = among_right e.name (x.name ∷ []) (names_of (made_from (suc k) es)) rest
    by false rest = rest

-- a module of a unit defines what its entries tell
pub record Marked (p : Placed) (g : ℕ) (m : Module) (name : List ℕ) (of : IsModuleOf p name g m) : Type 0 where
  pub marks : ℕ → ℕ
  pub defines : m.defines.items ≡ map (define_of marks) of.code.entries.items
  pub main : m.main ≡ option_map marks of.code.main

pub marked : (p : Placed) (name : List ℕ) (g : ℕ) (m : Module) (of : IsModuleOf p name g m) → Marked p g m name of
marked p name g m of = by (cases_lt 16383 m.size)
  where
    by : (16383 < m.size) ⊎ (m.size ≤ 16383) → Marked p g m name of
    by (inl long) = let o = of.oversized long in record { marks = λ l. 0; defines = o.defines; main = o.main }
    by (inr le) = let f = of.finished le in record { marks = f.marks; defines = f.defines; main = f.main }

defined_there : (p : Placed) (name : List ℕ) (g : ℕ) (m : Module) (of : IsModuleOf p name g m) (e : Entry) → is_callable e.callee ≡ true
    → IsIn e (module_entries p.unit g) → is_among e.name (define_names m.defines.items) ≡ true
defined_there p name g m of e called is =
    let k = marked p name g m of in
    ap (λ (ds : List Define). is_among e.name (define_names ds)) k.defines ∙ ap (is_among e.name) (defines_are k.marks of.code.entries.items ∙ ap names_of of.is.entries)
    ∙ made_named 0 (module_entries p.unit g) e called is

-- ---- 3. units

callables_there : (x : List ℕ) (m : Module) (ms : List Module) → IsIn m ms → is_among x (define_names m.defines.items) ≡ true → is_among x (callables ms) ≡ true
callables_there x m [] k is = elim k [ ]
callables_there x m (y ∷ ms) (at_front same) is =
    among_left x (define_names y.defines.items) (callables ms) (ap (λ (z : Module). is_among x (define_names z.defines.items)) (sym same) ∙ is)
callables_there x m (y ∷ ms) (behind k) is = among_right x (define_names y.defines.items) (callables ms) (callables_there x m ms k is)

-- where each name stands once among some, that of a number is found by it
suc_zero : {A : Type 0} (n : ℕ) → 0 ≡ suc n → A
suc_zero n is = absurd (omega (arith, is))

suc_same : (i j : ℕ) → suc i ≡ suc j → i ≡ j
suc_same i j is = omega (arith, is)

text_same : (a b : List ℕ) → Some a ≡ Some b → a ≡ b
text_same a b is = cc

pub numbered_once : (k : ℕ) (xs : List (List ℕ)) (g : ℕ) (x : List ℕ) → ((i : ℕ) → slice_get xs i ≡ Some x → i ≡ g) → slice_get xs g ≡ Some x
    → find (numbered k xs) x ≡ Some (k + g)
numbered_once k [] g x once is = cc
numbered_once k (y ∷ xs) zero x once is =
    ap (λ (b : Bool). if b then Some k else find (numbered (suc k) xs) x) (ap (λ (z : List ℕ). same_name x z) (text_same y x is) ∙ same_self x) ∙ ap Some place
  where
    place : k ≡ k + 0
    place = omega arith
numbered_once k (y ∷ xs) (suc g) x once is =
    by (same_name x y) refl (numbered_once (suc k) xs g x (λ i there. suc_same i g (once (suc i) there)) is)
  where
    place : suc k + g ≡ k + suc g
    place = omega arith

    by : (b : Bool) → same_name x y ≡ b → find (numbered (suc k) xs) x ≡ Some (suc k + g) → (if b then Some k else find (numbered (suc k) xs) x) ≡ Some (k + suc g)
    by true same rest = suc_zero g (once 0 (ap Some (sym (same_text x y (sym same)))))
    by false same rest = rest ∙ ap Some place

-- what is within a list is there
pub get_within : (xs : List (List ℕ)) (k : ℕ) → k < length xs → (x : List ℕ) × (slice_get xs k ≡ Some x)
get_within [] k less = absurd (omega (arith, less))
get_within (y ∷ xs) zero less = (y, refl)
get_within (y ∷ xs) (suc k) less = get_within xs k (omega (arith, less))

each_at : (P : Routine → Type 0) (rs : List Routine) → Each P rs → (j : ℕ) (r : Routine) → slice_get rs j ≡ Some r → P r
each_at P [] all j r is = cc
each_at P (q ∷ rs) all zero r is = subst P (routine_same q r is) all.0
each_at P (q ∷ rs) all (suc j) r is = each_at P rs all.1 j r is

-- where what has entries is used
uses_there : (p : Placed) (g : ℕ) (e : Entry) → IsIn e (module_entries p.unit g) → uses p g ≡ true
uses_there p g e k =
    let at = place_of e (module_entries p.unit g) k in
    let within = slice_get_within (module_entries p.unit g) at.0 e at.1 in
    lt-ltb 0 (marks_before p g) (omega (arith, within))

pub unit_defines : (p : Placed) (names : List (List ℕ)) (ms : List Module) → NumbersSegments p.unit → ((x : List ℕ) → IsIn x (uses_among p.unit (declarations p.unit.tree.items)) → IsIn x names)
    → AreOfUnit p [] names ms → (j : ℕ) (r : Routine) → slice_get (routines_of p.unit) j ≡ Some r → is_among r.heading.name (callables ms) ≡ true
unit_defines p names ms numbers used are j r is =
    let g = r.heading.segment in
    let ds = declarations p.unit.tree.items in
    let at = get_within p.unit.segments g (each_at (StandsIn p.unit) (routines_of p.unit) numbers.routines j r is) in
    let found = numbered_once 0 p.unit.segments g at.0 (λ i there. numbers.once i g at.0 there at.1) at.1 ∙ ap Some (zero-add g) in
    let e = in_segment_there g (entry_of r) (entries_among p.unit.tree.segment 0 ds) refl (procedure_entered p.unit.tree.segment 0 [] 0 ds j r is) in
    let m = unit_has p g at.0 found (uses_there p g (entry_of r) e) [] names ms are refl (used at.0 (among_use p.unit [] 0 ds j r at.0 is at.1)) in
    callables_there r.heading.name m.here ms m.among (defined_there p m.name g m.here m.is (entry_of r) refl e)
