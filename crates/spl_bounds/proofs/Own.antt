-- What a unit defines in a segment: the entries of a module by the number of its segment, and no more by the segment's name.
use Rattle.std.proofs.Common.{◌≡◌, ◌<◌, ◌≤◌, ◌⊎◌, inl, inr, ℕ, suc, ◌+◌, ◌&&◌, nat_eq, not, Bool, true, false, if◌then◌else◌, List, [], ◌∷◌, ◌++◌, map, length, Option, Some, None, is_some, refl, sym, ap, ◌∙◌, arith}
use Rattle.std.specs.Prelude.{option_map}
use Rattle.std.proofs.lemmas.Bool.{and_parts, and_from, eqb-true, cases_lt}
use Rattle.std.proofs.lemmas.List.{length-map}
use Rattle.spl_carries.specs.spl_tree.Views.{letters}
use Rattle.spl_carries.specs.spl_tree.DeclarationTrees as decl
use Rattle.spl_carries.specs.spl_tree.DeclarationTrees.{Declaration, Declarations, declarations}
use Rattle.spl_carries.specs.spl_meaning.Stops.{declaration_stops}
use Rattle.spl_carries.specs.spl_meaning.Names.{Sort, Table, same_name, nothing_declared}
use Rattle.spl_carries.specs.spl_meaning.Tables.{Source, Routine, with_declaration, routines_among, routines_of, routine_subroutines, subroutines_among, unit_subroutines}
use Rattle.spl_carries.specs.spl_meaning.Places.{sum}
use Rattle.spl_carries.specs.spl_meaning.Bound.{segment_name, among_segment, routines_in, has_main, own_entries}
use Rattle.spl_module_words.specs.spl_branch.declared.buffer.Entry as code
use Rattle.spl_module_words.specs.spl_branch.declared.modules.Module.{Module}
use Rattle.spl_module_words.specs.spl_branch.Modules.{define_of}
use Rattle.spl_called_names.specs.spl_scopes.Entries.{Owner, main, routine, Entry, procedure, subroutine, is_callable, inner_entries, entries_among, in_segment, module_entries}
use Rattle.spl_called_names.specs.spl_scopes.Scopes.{Placed}
use Rattle.spl_called_names.specs.spl_modules.Made.{Made, made_of, made_from}
use Rattle.spl_module_words.specs.spl_module_code.Modules.{IsModuleOf}
use Rattle.spl_sound_labels.specs.Labels.{NoSubroutines}
use Rattle.spl_called_names.specs.Called.{main_there}
use Rattle.spl_module_words.specs.mpe_segmenter.Entries.{own_count}
use Rattle.spl_module_words.specs.mpe_segmenter.Faults.{define_names}
use Rattle.spl_module_words.proofs.mpe_segmenter_proofs.NameLemmas.{same_self}

-- ---- by number

-- the entries of the procedures that stand there
abbrev pub own_numbered : ℕ → List Routine → ℕ
own_numbered g [] = 0
own_numbered g (r ∷ rs) = (if nat_eq r.heading.segment g then suc (length (routine_subroutines r)) else 0) + own_numbered g rs

-- and their names
abbrev pub numbered_names : ℕ → List Routine → List (List ℕ)
numbered_names g [] = []
numbered_names g (r ∷ rs) = if nat_eq r.heading.segment g then r.heading.name ∷ numbered_names g rs else numbered_names g rs

-- with the main body's
abbrev pub own_at : Source → ℕ → ℕ
own_at u g = own_numbered g (routines_of u) + (if main_there u g then suc (length (unit_subroutines u)) else 0)

-- ---- the entries of a segment

count_both : (g : ℕ) (xs ys : List Entry) → length (in_segment g (xs ++ ys)) ≡ length (in_segment g xs) + length (in_segment g ys)
count_both g [] ys = omega arith
count_both g (e ∷ xs) ys = by (nat_eq e.segment g) (count_both g xs ys)
  where
    by : (b : Bool) → length (in_segment g (xs ++ ys)) ≡ length (in_segment g xs) + length (in_segment g ys)
        → length (if b then e ∷ in_segment g (xs ++ ys) else in_segment g (xs ++ ys)) ≡ length (if b then e ∷ in_segment g xs else in_segment g xs) + length (in_segment g ys)
    by true x = omega (arith, x)
    by false x = x

-- an entry and others
counted_first : (g : ℕ) (e : Entry) (es : List Entry) (b : Bool) → nat_eq e.segment g ≡ b
    → length (in_segment g (e ∷ es)) ≡ (if b then suc (length (in_segment g es)) else length (in_segment g es))
counted_first g e es b is = ap (λ (c : Bool). length (if c then e ∷ in_segment g es else in_segment g es)) is ∙ by b
  where
    by : (b : Bool) → length (if b then e ∷ in_segment g es else in_segment g es) ≡ (if b then suc (length (in_segment g es)) else length (in_segment g es))
    by true = refl
    by false = refl

inner_step : (b : Bool) (n l : ℕ) → n ≡ (if b then l else 0) → (if b then suc n else n) ≡ (if b then suc l else 0)
inner_step true n l e = ap suc e
inner_step false n l e = e

nothing_inside : (b : Bool) → ◌≡◌ {A = ℕ} 0 (if b then 0 else 0)
nothing_inside true = refl
nothing_inside false = refl

inner_count : (g h m : ℕ) (o : Owner) (b : Bool) (ds : Declarations) → nat_eq h g ≡ b
    → length (in_segment g (inner_entries h o ds)) ≡ (if b then length (subroutines_among m ds) else 0)
inner_count g h m o b decl.none is = nothing_inside b
inner_count g h m o b (decl.and (decl.Declaration.subroutine k s) ds) is =
    let rest = inner_count g h (m + declaration_stops (decl.Declaration.subroutine k s)) o b ds is in
    counted_first g (record { name = k.name; segment = h; callee = subroutine o }) (inner_entries h o ds) b is
    ∙ inner_step b (length (in_segment g (inner_entries h o ds))) (length (subroutines_among (m + declaration_stops (decl.Declaration.subroutine k s)) ds)) rest
inner_count g h m o b (decl.and (decl.Declaration.procedure k items ss) ds) is = inner_count g h (m + declaration_stops (decl.Declaration.procedure k items ss)) o b ds is
inner_count g h m o b (decl.and (decl.Declaration.data_items own k items) ds) is = inner_count g h (m + declaration_stops (decl.Declaration.data_items own k items)) o b ds is
inner_count g h m o b (decl.and (decl.Declaration.equate xs) ds) is = inner_count g h (m + declaration_stops (decl.Declaration.equate xs)) o b ds is
inner_count g h m o b (decl.and (decl.Declaration.intrinsic xs) ds) is = inner_count g h (m + declaration_stops (decl.Declaration.intrinsic xs)) o b ds is
inner_count g h m o b (decl.and (decl.Declaration.label xs) ds) is = inner_count g h (m + declaration_stops (decl.Declaration.label xs)) o b ds is
inner_count g h m o b (decl.and (decl.Declaration.forward k) ds) is = inner_count g h (m + declaration_stops (decl.Declaration.forward k)) o b ds is
inner_count g h m o b (decl.and (decl.Declaration.external k) ds) is = inner_count g h (m + declaration_stops (decl.Declaration.external k)) o b ds is

-- of a procedure, whose subroutines stand with it
procedure_step : (b : Bool) (n l : ℕ) → n ≡ (if b then l else 0) → (if b then suc n else n) ≡ (if b then suc l else 0)
procedure_step true n l e = ap suc e
procedure_step false n l e = e

regrouped : (all one rest a b c : ℕ) → all ≡ one + rest → one ≡ a → rest ≡ b + c → all ≡ (a + b) + c
regrouped all one rest a b c h1 h2 h3 = omega (arith, h1, h2, h3)

main_step : (b : Bool) (all one rest l n : ℕ) → all ≡ one + rest → one ≡ (if b then 1 else 0) → rest ≡ n + (if b then l else 0) → all ≡ n + (if b then suc l else 0)
main_step true all one rest l n h1 h2 h3 = omega (arith, h1, h2, h3)
main_step false all one rest l n h1 h2 h3 = omega (arith, h1, h2, h3)

nothing_first : (b : Bool) → ◌≡◌ {A = ℕ} 0 (0 + (if b then 0 else 0))
nothing_first true = refl
nothing_first false = refl

pub entry_count : (seg g n m : ℕ) (t : Table Sort) (ds : Declarations)
    → length (in_segment g (entries_among seg n ds)) ≡ own_numbered g (routines_among t m ds) + (if nat_eq seg g then length (subroutines_among m ds) else 0)
entry_count seg g n m t decl.none = nothing_first (nat_eq seg g)
entry_count seg g n m t (decl.and (decl.Declaration.procedure h items ss) ds) =
    let d = decl.Declaration.procedure h items ss in
    let e : Entry = record { name = h.name; segment = h.segment; callee = procedure } in
    let inner : List Entry = inner_entries h.segment (routine n) items in
    let behind : List Entry = entries_among seg (suc n) ds in
    let inside = inner_count g h.segment m (routine n) (nat_eq h.segment g) items refl in
    let one = counted_first g e inner (nat_eq h.segment g) refl
    ∙ procedure_step (nat_eq h.segment g) (length (in_segment g inner)) (length (subroutines_among m items)) inside in
    regrouped (length (in_segment g ((e ∷ inner) ++ behind))) (length (in_segment g (e ∷ inner))) (length (in_segment g behind))
    (if nat_eq h.segment g then suc (length (subroutines_among m items)) else 0)
    (own_numbered g (routines_among (with_declaration nothing_declared t d) (m + declaration_stops d) ds))
    (if nat_eq seg g then length (subroutines_among (m + declaration_stops d) ds) else 0)
    (count_both g (e ∷ inner) behind) one (entry_count seg g (suc n) (m + declaration_stops d) (with_declaration nothing_declared t d) ds)
entry_count seg g n m t (decl.and (decl.Declaration.subroutine h s) ds) =
    let d = decl.Declaration.subroutine h s in
    let e : Entry = record { name = h.name; segment = seg; callee = subroutine main } in
    main_step (nat_eq seg g) (length (in_segment g ((e ∷ []) ++ entries_among seg n ds))) (length (in_segment g (e ∷ []))) (length (in_segment g (entries_among seg n ds)))
    (length (subroutines_among (m + declaration_stops d) ds)) (own_numbered g (routines_among (with_declaration nothing_declared t d) (m + declaration_stops d) ds))
    (count_both g (e ∷ []) (entries_among seg n ds)) (counted_first g e [] (nat_eq seg g) refl)
    (entry_count seg g n (m + declaration_stops d) (with_declaration nothing_declared t d) ds)
entry_count seg g n m t (decl.and (decl.Declaration.data_items own k items) ds) = entry_count seg g n (m + declaration_stops (decl.Declaration.data_items own k items)) (with_declaration nothing_declared t (decl.Declaration.data_items own k items)) ds
entry_count seg g n m t (decl.and (decl.Declaration.equate xs) ds) = entry_count seg g n (m + declaration_stops (decl.Declaration.equate xs)) (with_declaration nothing_declared t (decl.Declaration.equate xs)) ds
entry_count seg g n m t (decl.and (decl.Declaration.intrinsic xs) ds) = entry_count seg g n (m + declaration_stops (decl.Declaration.intrinsic xs)) (with_declaration nothing_declared t (decl.Declaration.intrinsic xs)) ds
entry_count seg g n m t (decl.and (decl.Declaration.label xs) ds) = entry_count seg g n (m + declaration_stops (decl.Declaration.label xs)) (with_declaration nothing_declared t (decl.Declaration.label xs)) ds
entry_count seg g n m t (decl.and (decl.Declaration.forward k) ds) = entry_count seg g n (m + declaration_stops (decl.Declaration.forward k)) (with_declaration nothing_declared t (decl.Declaration.forward k)) ds
entry_count seg g n m t (decl.and (decl.Declaration.external k) ds) = entry_count seg g n (m + declaration_stops (decl.Declaration.external k)) (with_declaration nothing_declared t (decl.Declaration.external k)) ds

-- ---- the names of a segment's procedures

abbrev pub callable_names : List Entry → List (List ℕ)
callable_names [] = []
callable_names (e ∷ es) = if is_callable e.callee then e.name ∷ callable_names es else callable_names es

abbrev names_there : ℕ → List Entry → List (List ℕ)
names_there g es = callable_names (in_segment g es)

names_first : (g : ℕ) (e : Entry) (es : List Entry)
    → names_there g (e ∷ es) ≡ (if nat_eq e.segment g then (if is_callable e.callee then e.name ∷ names_there g es else names_there g es) else names_there g es)
names_first g e es = by (nat_eq e.segment g)
  where
    by : (b : Bool) → callable_names (if b then e ∷ in_segment g es else in_segment g es)
        ≡ (if b then (if is_callable e.callee then e.name ∷ names_there g es else names_there g es) else names_there g es)
    by true = refl
    by false = refl

names_both : (g : ℕ) (xs ys : List Entry) → names_there g (xs ++ ys) ≡ names_there g xs ++ names_there g ys
names_both g [] ys = refl
names_both g (e ∷ xs) ys =
    names_first g e (xs ++ ys) ∙ by (nat_eq e.segment g) (is_callable e.callee) (names_both g xs ys) ∙ sym (ap (λ ns. ns ++ names_there g ys) (names_first g e xs))
  where
    by : (b c : Bool) → names_there g (xs ++ ys) ≡ names_there g xs ++ names_there g ys
        → (if b then (if c then e.name ∷ names_there g (xs ++ ys) else names_there g (xs ++ ys)) else names_there g (xs ++ ys))
        ≡ (if b then (if c then e.name ∷ names_there g xs else names_there g xs) else names_there g xs) ++ names_there g ys
    by true true h = ap (λ ns. e.name ∷ ns) h
    by true false h = h
    by false c h = h

inner_names : (g h : ℕ) (o : Owner) (ds : Declarations) → names_there g (inner_entries h o ds) ≡ []
inner_names g h o decl.none = refl
inner_names g h o (decl.and (decl.Declaration.subroutine k s) ds) =
    names_first g (record { name = k.name; segment = h; callee = subroutine o }) (inner_entries h o ds) ∙ by (nat_eq h g) (inner_names g h o ds)
  where
    by : (b : Bool) → names_there g (inner_entries h o ds) ≡ [] → (if b then names_there g (inner_entries h o ds) else names_there g (inner_entries h o ds)) ≡ []
    by true is = is
    by false is = is
inner_names g h o (decl.and (decl.Declaration.procedure k items ss) ds) = inner_names g h o ds
inner_names g h o (decl.and (decl.Declaration.data_items own k items) ds) = inner_names g h o ds
inner_names g h o (decl.and (decl.Declaration.equate xs) ds) = inner_names g h o ds
inner_names g h o (decl.and (decl.Declaration.intrinsic xs) ds) = inner_names g h o ds
inner_names g h o (decl.and (decl.Declaration.label xs) ds) = inner_names g h o ds
inner_names g h o (decl.and (decl.Declaration.forward k) ds) = inner_names g h o ds
inner_names g h o (decl.and (decl.Declaration.external k) ds) = inner_names g h o ds

pub entry_names : (seg g n m : ℕ) (t : Table Sort) (ds : Declarations) → names_there g (entries_among seg n ds) ≡ numbered_names g (routines_among t m ds)
entry_names seg g n m t decl.none = refl
entry_names seg g n m t (decl.and (decl.Declaration.procedure h items ss) ds) =
    let d = decl.Declaration.procedure h items ss in
    let e : Entry = record { name = h.name; segment = h.segment; callee = procedure } in
    let inner : List Entry = inner_entries h.segment (routine n) items in
    let behind : List Entry = entries_among seg (suc n) ds in
    names_both g (e ∷ inner) behind
    ∙ ap (λ ns. ns ++ names_there g behind) (names_first g e inner)
    ∙ by (nat_eq h.segment g) (names_there g inner) (inner_names g h.segment (routine n) items) (names_there g behind)
    (numbered_names g (routines_among (with_declaration nothing_declared t d) (m + declaration_stops d) ds))
    (entry_names seg g (suc n) (m + declaration_stops d) (with_declaration nothing_declared t d) ds)
  where
    by : (b : Bool) (ns : List (List ℕ)) → ns ≡ [] → (rest others : List (List ℕ)) → rest ≡ others
        → (if b then h.name ∷ ns else ns) ++ rest ≡ (if b then h.name ∷ others else others)
    by true ns none rest others same = ap (λ ns. (h.name ∷ ns) ++ rest) none ∙ ap (λ ns. h.name ∷ ns) same
    by false ns none rest others same = ap (λ ns. ns ++ rest) none ∙ same
entry_names seg g n m t (decl.and (decl.Declaration.subroutine h s) ds) =
    let d = decl.Declaration.subroutine h s in
    let e : Entry = record { name = h.name; segment = seg; callee = subroutine main } in
    names_both g (e ∷ []) (entries_among seg n ds) ∙ ap (λ ns. ns ++ names_there g (entries_among seg n ds)) (names_first g e [] ∙ by (nat_eq seg g))
    ∙ entry_names seg g n (m + declaration_stops d) (with_declaration nothing_declared t d) ds
  where
    none : List (List ℕ)
    none = []

    by : (b : Bool) → (if b then none else none) ≡ none
    by true = refl
    by false = refl
entry_names seg g n m t (decl.and (decl.Declaration.data_items own k items) ds) = entry_names seg g n (m + declaration_stops (decl.Declaration.data_items own k items)) (with_declaration nothing_declared t (decl.Declaration.data_items own k items)) ds
entry_names seg g n m t (decl.and (decl.Declaration.equate xs) ds) = entry_names seg g n (m + declaration_stops (decl.Declaration.equate xs)) (with_declaration nothing_declared t (decl.Declaration.equate xs)) ds
entry_names seg g n m t (decl.and (decl.Declaration.intrinsic xs) ds) = entry_names seg g n (m + declaration_stops (decl.Declaration.intrinsic xs)) (with_declaration nothing_declared t (decl.Declaration.intrinsic xs)) ds
entry_names seg g n m t (decl.and (decl.Declaration.label xs) ds) = entry_names seg g n (m + declaration_stops (decl.Declaration.label xs)) (with_declaration nothing_declared t (decl.Declaration.label xs)) ds
entry_names seg g n m t (decl.and (decl.Declaration.forward k) ds) = entry_names seg g n (m + declaration_stops (decl.Declaration.forward k)) (with_declaration nothing_declared t (decl.Declaration.forward k)) ds
entry_names seg g n m t (decl.and (decl.Declaration.external k) ds) = entry_names seg g n (m + declaration_stops (decl.Declaration.external k)) (with_declaration nothing_declared t (decl.Declaration.external k)) ds

-- ---- a module

-- the offsets of a module are some marks, which do not matter
record Marked (m : Module) (es : List code.Entry) (o : Option ℕ) : Type 0 where
  marks : ℕ → ℕ
  defines : m.defines.items ≡ map (define_of marks) es
  main_is : m.main ≡ option_map marks o

marked : (p : Placed) (name : List ℕ) (g : ℕ) (m : Module) (of : IsModuleOf p name g m) → Marked m of.code.entries.items of.code.main
marked p name g m of = by (cases_lt 16383 m.size)
  where
    by : (16383 < m.size) ⊎ (m.size ≤ 16383) → Marked m of.code.entries.items of.code.main
    by (inl long) = let o = of.oversized long in record { marks = λ l. 0; defines = o.defines; main_is = o.main }
    by (inr le) = let f = of.finished le in record { marks = f.marks; defines = f.defines; main_is = f.main }

made_length : (k : ℕ) (es : List Entry) → length (made_from k es) ≡ length es
made_length k [] = refl
made_length k (e ∷ es) = ap suc (made_length (suc k) es)

made_names : List Made → List (List ℕ)
made_names [] = []
made_names (e ∷ es) = if e.callable then e.name ∷ made_names es else made_names es

defined_names : (marks : ℕ → ℕ) (es : List code.Entry) → define_names (map (define_of marks) es) ≡ made_names (map made_of es)
unfolding made_names
defined_names marks [] = refl
defined_names marks (e ∷ es) = ap (λ ns. if e.callable then letters e.name ∷ ns else ns) (defined_names marks es)

made_callable : (k : ℕ) (es : List Entry) → made_names (made_from k es) ≡ callable_names es
unfolding made_names
made_callable k [] = refl
made_callable k (e ∷ es) = ap (λ ns. if is_callable e.callee then e.name ∷ ns else ns) (made_callable (suc k) es)

-- a module defines the procedures that stand in its segment
pub module_names : (p : Placed) (name : List ℕ) (g : ℕ) (m : Module) → IsModuleOf p name g m → define_names m.defines.items ≡ numbered_names g (routines_of p.unit)
module_names p name g m of =
    let at = marked p name g m of in
    ap define_names at.defines
    ∙ defined_names at.marks of.code.entries.items
    ∙ ap made_names of.is.entries
    ∙ made_callable 0 (module_entries p.unit g)
    ∙ entry_names p.unit.tree.segment g 0 0 [] (declarations p.unit.tree.items)

defined_count : (p : Placed) (name : List ℕ) (g : ℕ) (m : Module) → IsModuleOf p name g m → length m.defines.items ≡ length (module_entries p.unit g)
defined_count p name g m of =
    let at = marked p name g m of in
    ap length at.defines
    ∙ length-map of.code.entries.items (define_of at.marks)
    ∙ sym (length-map of.code.entries.items made_of)
    ∙ ap length of.is.entries
    ∙ made_length 0 (module_entries p.unit g)

main_given : (marks : ℕ → ℕ) (o : Option ℕ) → is_some (option_map marks o) ≡ is_some o
main_given marks None = refl
main_given marks (Some n) = refl

main_marked : (b : Bool) (n : ℕ) → is_some (if b then Some n else None) ≡ b
main_marked true n = refl
main_marked false n = refl

-- it has no more entries than are counted there
pub module_own : (p : Placed) (name : List ℕ) (g : ℕ) (m : Module) → NoSubroutines p.unit → IsModuleOf p name g m → own_count m ≤ own_at p.unit g
module_own p name g m none of =
    let at = marked p name g m of in
    let count = defined_count p name g m of ∙ entry_count p.unit.tree.segment g 0 0 [] (declarations p.unit.tree.items) in
    let has : is_some m.main ≡ main_there p.unit g = ap is_some at.main_is
    ∙ main_given at.marks of.code.main
    ∙ ap is_some of.is.main
    ∙ main_marked (main_there p.unit g) (length (module_entries p.unit g)) in
    by p.unit.subprogram (nat_eq p.unit.tree.segment g) (is_some m.main) (length m.defines.items) (own_numbered g (routines_of p.unit)) (length (unit_subroutines p.unit)) count has
    (λ sub. ap length (none sub))
  where
    by : (sub inside has : Bool) (d n l : ℕ) → d ≡ n + (if inside then l else 0) → has ≡ (not sub && inside) → (sub ≡ true → l ≡ 0)
        → d + (if has then 1 else 0) ≤ n + (if not sub && inside then suc l else 0)
    by true inside true d n l e is z = cc
    by true true false d n l e is z = let zero = z refl in omega (arith, e, zero)
    by true false false d n l e is z = omega (arith, e)
    by false true true d n l e is z = omega (arith, e)
    by false true false d n l e is z = cc
    by false false true d n l e is z = cc
    by false false false d n l e is z = omega (arith, e)

-- ---- by the segment's name

-- whether this is the number that is found
abbrev pub is_number : Option ℕ → ℕ → Bool
is_number None k = false
is_number (Some g) k = nat_eq k g

-- Procedures of the segment by its name whose number is not the one that the name is found by. A unit whose segments have names of their own has
-- none; they have no module, and so no entry but where they are called.
abbrev pub astray_among : Source → List ℕ → Option ℕ → List Routine → List (List ℕ)
astray_among u x o [] = []
astray_among u x o (r ∷ rs) =
    if same_name (segment_name u r.heading.segment) x && not (is_number o r.heading.segment) then r.heading.name ∷ astray_among u x o rs else astray_among u x o rs

named_there : (u : Source) (x : List ℕ) (g k : ℕ) → segment_name u g ≡ x → nat_eq k g ≡ true → same_name (segment_name u k) x ≡ true
named_there u x g k is same = ap (λ i. same_name (segment_name u i) x) (eqb-true k g same) ∙ ap (λ y. same_name y x) is ∙ same_self x

routines_more : (u : Source) (x : List ℕ) (g : ℕ) (rs : List Routine) → segment_name u g ≡ x
    → own_numbered g rs + length (astray_among u x (Some g) rs) ≤ sum (λ r. 1 + length (routine_subroutines r)) (among_segment u x rs)
routines_more u x g [] is = omega arith
routines_more u x g (r ∷ rs) is =
    by (nat_eq r.heading.segment g) (same_name (segment_name u r.heading.segment) x) (named_there u x g r.heading.segment is) (routines_more u x g rs is)
  where
    by : (b c : Bool) → (b ≡ true → c ≡ true)
        → own_numbered g rs + length (astray_among u x (Some g) rs) ≤ sum (λ r. 1 + length (routine_subroutines r)) (among_segment u x rs)
        → ((if b then suc (length (routine_subroutines r)) else 0) + own_numbered g rs)
        + length (if c && not b then r.heading.name ∷ astray_among u x (Some g) rs else astray_among u x (Some g) rs)
        ≤ sum (λ r. 1 + length (routine_subroutines r)) (if c then r ∷ among_segment u x rs else among_segment u x rs)
    by true true h le = omega (arith, le)
    by true false h le = let e = h refl in cc
    by false true h le = omega (arith, le)
    by false false h le = omega (arith, le)

routines_astray : (u : Source) (x : List ℕ) (rs : List Routine)
    → length (astray_among u x None rs) ≤ sum (λ r. 1 + length (routine_subroutines r)) (among_segment u x rs)
routines_astray u x [] = omega arith
routines_astray u x (r ∷ rs) = by (same_name (segment_name u r.heading.segment) x) (routines_astray u x rs)
  where
    by : (c : Bool) → length (astray_among u x None rs) ≤ sum (λ r. 1 + length (routine_subroutines r)) (among_segment u x rs)
        → length (if c && true then r.heading.name ∷ astray_among u x None rs else astray_among u x None rs)
        ≤ sum (λ r. 1 + length (routine_subroutines r)) (if c then r ∷ among_segment u x rs else among_segment u x rs)
    by true le = omega (arith, le)
    by false le = omega (arith, le)

main_more : (u : Source) (x : List ℕ) (g : ℕ) → segment_name u g ≡ x → main_there u g ≡ true → has_main u x ≡ true
main_more u x g is here =
    let both = and_parts (not u.subprogram) (nat_eq u.tree.segment g) here in
    and_from (not u.subprogram) (same_name (segment_name u u.tree.segment) x) both.0 (named_there u x g u.tree.segment is both.1)

-- what is counted by the segment's name has room for these and for those
pub own_more : (u : Source) (x : List ℕ) (g : ℕ) → segment_name u g ≡ x → own_at u g + length (astray_among u x (Some g) (routines_of u)) ≤ own_entries x u
own_more u x g is =
    by (main_there u g) (has_main u x) (own_numbered g (routines_of u)) (length (astray_among u x (Some g) (routines_of u)))
    (sum (λ r. 1 + length (routine_subroutines r)) (routines_in u x)) (length (unit_subroutines u)) (main_more u x g is) (routines_more u x g (routines_of u) is)
  where
    by : (b c : Bool) (n a s l : ℕ) → (b ≡ true → c ≡ true) → n + a ≤ s → (n + (if b then suc l else 0)) + a ≤ s + (if c then 1 + l else 0)
    by true true n a s l h le = omega (arith, le)
    by true false n a s l h le = let e = h refl in cc
    by false true n a s l h le = omega (arith, le)
    by false false n a s l h le = omega (arith, le)

pub own_none : (u : Source) (x : List ℕ) → length (astray_among u x None (routines_of u)) ≤ own_entries x u
own_none u x =
    by (length (astray_among u x None (routines_of u))) (sum (λ r. 1 + length (routine_subroutines r)) (routines_in u x)) (if has_main u x then 1 + length (unit_subroutines u) else 0)
    (routines_astray u x (routines_of u))
  where
    by : (a s m : ℕ) → a ≤ s → a ≤ s + m
    by a s m le = omega (arith, le)
