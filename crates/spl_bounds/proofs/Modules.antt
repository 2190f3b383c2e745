-- The modules of a segment by its name: of each unit one at most, and that one where a procedure of the unit has the number of the name.
-- 1. numbers of names
-- 2. what all modules of a segment have                    (all_in_units)
-- 3. how many entries they have of their own               (owned_in_units)
-- 4. where a procedure's module is                         (here_met)
use Rattle.std.proofs.Common.{◌≡◌, ◌<◌, ◌≤◌, ◌⊎◌, inl, inr, ℕ, ◌+◌, ◌&&◌, ◌||◌, nat_eq, not, Bool, true, false, if◌then◌else◌, List, [], ◌∷◌, ◌++◌, length, Option, Some, None, refl, sym, ap, subst, ◌∙◌, arith}
use Rattle.std.specs.List.{list_all, slice_get}
use Rattle.std.specs.Cmp.Lexicographic.{pointwise}
use Rattle.std.proofs.lemmas.Bool.{and_parts, and_from, eq-eqb, eqb-true, lt-ltb}
use Rattle.std.proofs.lemmas.List.{length-append}
use Rattle.std.proofs.lemmas.List.Folds.{list_all-append}
use Rattle.spl_carries.specs.spl_tree.Views.{letters}
use Rattle.spl_carries.specs.spl_tree.DeclarationTrees as decl
use Rattle.spl_carries.specs.spl_tree.DeclarationTrees.{Declarations, declarations}
use Rattle.spl_carries.specs.spl_meaning.Stops.{declaration_stops}
use Rattle.spl_carries.specs.spl_meaning.Names.{Sort, Table, find, same_name, nothing_declared}
use Rattle.spl_carries.specs.spl_meaning.Tables.{Source, Routine, with_declaration, routines_among, routines_of}
use Rattle.spl_carries.specs.spl_meaning.Places.{sum}
use Rattle.spl_carries.specs.spl_meaning.Bodies.{Reached, reached_behind}
use Rattle.spl_carries.specs.spl_meaning.Bound.{segment_name, stands_in, among_segment, routines_in, names_of_routines, names_in_segment, own_entries}
use Rattle.spl_module_words.specs.spl_branch.declared.modules.Module.{Module}
use Rattle.spl_called_names.specs.spl_scopes.Entries.{Entry, module_entries}
use Rattle.spl_called_names.specs.spl_scopes.Scopes.{Placed, placed_units}
use Rattle.spl_module_words.specs.spl_module_code.Modules.{holds_main, in_list, named_segment, uses_among, uses_of, numbered, is_taken, uses, next_number, marks_before, IsModuleOf, AreOfUnit, AreOf}
use Rattle.spl_module_words.specs.spl_module_code.Modules.{AreOfUnit as u}
use Rattle.spl_module_words.specs.spl_module_code.Modules.{AreOf as a}
use Rattle.spl_module_words.proofs.Segments.{some_inside, segment_named, segment_there, next_found, room_for, room_less, room_none, room_all, room_most}
use Rattle.spl_module_words.specs.spl_places.Programs.{Each}
use Rattle.spl_sound_labels.specs.Labels.{NoSubroutines}
use Rattle.spl_module_words.specs.mpe_segmenter.Names.{is_among, segment_of, modules_of}
use Rattle.spl_module_words.specs.mpe_segmenter.Entries.{own_count, owned}
use Rattle.spl_module_words.specs.mpe_segmenter.Faults.{define_names, callables}
use Rattle.spl_module_words.proofs.mpe_segmenter_proofs.PartLemmas.{equal_is}
use Rattle.spl_module_words.proofs.mpe_segmenter_proofs.NameLemmas.{same_self}
use Rattle.spl_bounds.proofs.Own.{numbered_names, own_at, callable_names, astray_among, entry_names, module_names, module_own, own_more, own_none}

-- ---- 1. numbers of names

pub next_free : (p : Placed) (taken : List ℕ) (o : Option ℕ) (g : ℕ) → next_number p taken o ≡ Some g → is_taken g taken ≡ false
next_free p taken None g is = cc
next_free p taken (Some h) g is = by (uses p h && not (is_taken h taken)) refl is
  where
    free : (b : Bool) → not b ≡ true → b ≡ false
    free true is = cc
    free false is = refl

    by : (b : Bool) → (uses p h && not (is_taken h taken)) ≡ b → (if b then Some h else None) ≡ Some g → is_taken g taken ≡ false
    by true both at =
        let same : h ≡ g = some_inside h h g at in
        ap (λ k. is_taken k taken) (sym same) ∙ free (is_taken h taken) (and_parts (uses p h) (not (is_taken h taken)) both).1
    by false both at = cc

pub module_segment : (p : Placed) (name : List ℕ) (g : ℕ) (m : Module) → IsModuleOf p name g m → segment_of m ≡ name
module_segment p name g m of = ap letters of.segment ∙ of.is.segment

modules_append : (x : List ℕ) (xs ys : List Module) → modules_of x (xs ++ ys) ≡ modules_of x xs ++ modules_of x ys
modules_append x [] ys = refl
modules_append x (m ∷ xs) ys = by (pointwise nat_eq x (segment_of m)) (modules_append x xs ys)
  where
    by : (b : Bool) → modules_of x (xs ++ ys) ≡ modules_of x xs ++ modules_of x ys
        → (if b then m ∷ modules_of x (xs ++ ys) else modules_of x (xs ++ ys)) ≡ (if b then m ∷ modules_of x xs else modules_of x xs) ++ modules_of x ys
    by true h = ap (λ ms. m ∷ ms) h
    by false h = h

-- ---- 2. what all modules of a segment have

all_in_unit : (f : Module → Bool) (p : Placed) (x : List ℕ) (taken : List ℕ) (names : List (List ℕ)) (ms : List Module)
    → ((g : ℕ) (m : Module) → find (numbered 0 p.unit.segments) x ≡ Some g → IsModuleOf p x g m → f m ≡ true)
    → AreOfUnit p taken names ms → list_all f (modules_of x ms) ≡ true
all_in_unit f p x taken [] _ h u.none = refl
all_in_unit f p x taken (name ∷ names) _ h (u.more {g = g} {m = m} {ms = ms} at of rest) =
    by (pointwise nat_eq x (segment_of m)) refl (all_in_unit f p x (g ∷ taken) names ms h rest)
  where
    by : (b : Bool) → pointwise nat_eq x (segment_of m) ≡ b → list_all f (modules_of x ms) ≡ true → list_all f (if b then m ∷ modules_of x ms else modules_of x ms) ≡ true
    by true same others =
        let is_x : name ≡ x = sym (module_segment p name g m of) ∙ sym (equal_is x (segment_of m) same) in
        let found = ap (find (numbered 0 p.unit.segments)) (sym is_x) ∙ next_found p taken (find (numbered 0 p.unit.segments) name) g at in
        and_from (f m) (list_all f (modules_of x ms)) (h g m found (subst (λ (y : List ℕ). IsModuleOf p y g m) is_x of)) others
    by false same others = others
all_in_unit f p x taken (name ∷ names) ms h (u.skip at rest) = all_in_unit f p x taken names ms h rest

pub all_in_units : (f : Module → Bool) (q : Source → Bool) (x : List ℕ) (names : List (List ℕ)) (at : Reached) (us : List Source) (ms : List Module)
    → ((p : Placed) (g : ℕ) (m : Module) → q p.unit ≡ true → find (numbered 0 p.unit.segments) x ≡ Some g → IsModuleOf p x g m → f m ≡ true)
    → list_all q us ≡ true → AreOf names (placed_units at us) ms → list_all f (modules_of x ms) ≡ true
all_in_units f q x names at [] _ h all a.none = refl
all_in_units f q x names at (s ∷ us) _ h all (a.more {ms = ms} {ns = ns} one others) =
    let both = and_parts (q s) (list_all q us) all in
    let p : Placed = record { at = at; unit = s } in
    let first = all_in_unit f p x [] names ms (λ g m found of. h p g m both.0 found of) one in
    let rest = all_in_units f q x names (reached_behind s at) us ns h both.1 others in
    ap (list_all f) (modules_append x ms ns)
    ∙ list_all-append f (modules_of x ms) (modules_of x ns)
    ∙ and_from (list_all f (modules_of x ms)) (list_all f (modules_of x ns)) first rest

-- ---- 3. their own entries

owned_in_unit : (p : Placed) (x : List ℕ) (n : ℕ) (taken : List ℕ) (names : List (List ℕ)) (ms : List Module)
    → ((g : ℕ) (m : Module) → find (numbered 0 p.unit.segments) x ≡ Some g → IsModuleOf p x g m → own_count m ≤ n)
    → AreOfUnit p taken names ms → owned (modules_of x ms) ≤ room_for taken (find (numbered 0 p.unit.segments) x) n
owned_in_unit p x n taken [] _ h u.none = least (room_for taken (find (numbered 0 p.unit.segments) x) n)
  where
    least : (k : ℕ) → 0 ≤ k
    least k = omega arith
owned_in_unit p x n taken (name ∷ names) _ h (u.more {g = g} {m = m} {ms = ms} at of rest) =
    by (pointwise nat_eq x (segment_of m)) refl (owned_in_unit p x n (g ∷ taken) names ms h rest)
  where
    o : List ℕ → Option ℕ
    o y = find (numbered 0 p.unit.segments) y

    by : (b : Bool) → pointwise nat_eq x (segment_of m) ≡ b → owned (modules_of x ms) ≤ room_for (g ∷ taken) (o x) n
        → owned (if b then m ∷ modules_of x ms else modules_of x ms) ≤ room_for taken (o x) n
    by false other le = let less = room_less g taken (o x) n in omega (arith, le, less)
    by true same le =
        let is_x : name ≡ x = sym (module_segment p name g m of) ∙ sym (equal_is x (segment_of m) same) in
        let found : o x ≡ Some g = ap o (sym is_x) ∙ next_found p taken (o name) g at in
        let free = next_free p taken (o name) g at in
        let none = room_none g taken (o x) n found in
        let all = room_all g taken (o x) n found free in
        let one = h g m found (subst (λ (y : List ℕ). IsModuleOf p y g m) is_x of) in
        omega (arith, le, none, all, one)
owned_in_unit p x n taken (name ∷ names) ms h (u.skip at rest) = owned_in_unit p x n taken names ms h rest

owned_append : (xs ys : List Module) → owned (xs ++ ys) ≡ owned xs + owned ys
owned_append [] ys = omega arith
owned_append (m ∷ xs) ys = omega (arith, owned_append xs ys)

-- the procedures of units that have no module in the segment of their name
abbrev pub astray : List ℕ → List Source → List (List ℕ)
astray x [] = []
astray x (u ∷ us) = astray_among u x (find (numbered 0 u.segments) x) (routines_of u) ++ astray x us

one_unit : (p : Placed) (x : List ℕ) (o : Option ℕ) (names : List (List ℕ)) (ms : List Module) → NoSubroutines p.unit → find (numbered 0 p.unit.segments) x ≡ o
    → AreOfUnit p [] names ms → owned (modules_of x ms) + length (astray_among p.unit x o (routines_of p.unit)) ≤ own_entries x p.unit
one_unit p x None names ms none is are =
    let own = owned_in_unit p x 0 [] names ms (λ g m found of. clash g (sym is ∙ found)) are in
    let least = room_most [] (find (numbered 0 p.unit.segments) x) 0 in
    let lost = own_none p.unit x in
    by (owned (modules_of x ms)) (room_for [] (find (numbered 0 p.unit.segments) x) 0) (length (astray_among p.unit x None (routines_of p.unit))) (own_entries x p.unit)
    own least lost
  where
    clash : (g : ℕ) {A : Type 0} → None ≡ Some g → A
    clash g e = cc

    by : (a r l e : ℕ) → a ≤ r → r ≤ 0 → l ≤ e → a + l ≤ e
    by a r l e h1 h2 h3 = omega (arith, h1, h2, h3)
one_unit p x (Some g) names ms none is are =
    let own = owned_in_unit p x (own_at p.unit g) [] names ms (λ h m found of. at_number h m found of) are in
    let all = room_all g [] (find (numbered 0 p.unit.segments) x) (own_at p.unit g) is refl in
    let more = own_more p.unit x g (segment_named p.unit x g is) in
    by (owned (modules_of x ms)) (room_for [] (find (numbered 0 p.unit.segments) x) (own_at p.unit g)) (own_at p.unit g)
    (length (astray_among p.unit x (Some g) (routines_of p.unit))) (own_entries x p.unit) own all more
  where
    at_number : (h : ℕ) (m : Module) → find (numbered 0 p.unit.segments) x ≡ Some h → IsModuleOf p x h m → own_count m ≤ own_at p.unit g
    at_number h m found of =
        subst (λ (k : ℕ). own_count m ≤ own_at p.unit k) (some_inside h h g (sym found ∙ is)) (module_own p x h m none of)

    by : (a r n l e : ℕ) → a ≤ r → r ≡ n → n + l ≤ e → a + l ≤ e
    by a r n l e h1 h2 h3 = omega (arith, h1, h2, h3)

pub owned_in_units : (x : List ℕ) (names : List (List ℕ)) (at : Reached) (us : List Source) (ms : List Module) → Each NoSubroutines us
    → AreOf names (placed_units at us) ms → owned (modules_of x ms) + length (astray x us) ≤ sum (own_entries x) us
owned_in_units x names at [] _ none a.none = omega arith
owned_in_units x names at (s ∷ us) _ none (a.more {ms = ms} {ns = ns} one others) =
    let first = one_unit (record { at = at; unit = s }) x (find (numbered 0 s.segments) x) names ms none.0 refl one in
    let rest = owned_in_units x names (reached_behind s at) us ns none.1 others in
    let split = ap owned (modules_append x ms ns) ∙ owned_append (modules_of x ms) (modules_of x ns) in
    let lost = length-append (astray_among s x (find (numbered 0 s.segments) x) (routines_of s)) (astray x us) in
    omega (arith, first, rest, split, lost)

-- ---- 4. where a procedure's module is

pub among_left : (q : List ℕ) (xs ys : List (List ℕ)) → is_among q xs ≡ true → is_among q (xs ++ ys) ≡ true
among_left q [] ys h = cc
among_left q (x ∷ xs) ys h = by (pointwise nat_eq q x) h (λ g. among_left q xs ys g)
  where
    by : (b : Bool) → (b || is_among q xs) ≡ true → (is_among q xs ≡ true → is_among q (xs ++ ys) ≡ true) → (b || is_among q (xs ++ ys)) ≡ true
    by true h rest = refl
    by false h rest = rest h

pub among_right : (q : List ℕ) (xs ys : List (List ℕ)) → is_among q ys ≡ true → is_among q (xs ++ ys) ≡ true
among_right q [] ys h = h
among_right q (x ∷ xs) ys h = by (pointwise nat_eq q x) (among_right q xs ys h)
  where
    by : (b : Bool) → is_among q (xs ++ ys) ≡ true → (b || is_among q (xs ++ ys)) ≡ true
    by true h = refl
    by false h = h

-- the module of a number, with the names that it defines
record There (p : Placed) (x : List ℕ) (g : ℕ) (ms : List Module) : Type 0 where
  m : Module
  of : IsModuleOf p x g m
  defines : (q : List ℕ) → is_among q (define_names m.defines.items) ≡ true → is_among q (callables (modules_of x ms)) ≡ true

there_behind : {p : Placed} {x : List ℕ} {g : ℕ} {ms : List Module} (m : Module) → There p x g ms → There p x g (m ∷ ms)
there_behind {p} {x} {g} {ms} m t = record { m = t.m; of = t.of; defines = λ q h. by (pointwise nat_eq x (segment_of m)) q (t.defines q h) }
  where
    by : (b : Bool) (q : List ℕ) → is_among q (callables (modules_of x ms)) ≡ true → is_among q (callables (if b then m ∷ modules_of x ms else modules_of x ms)) ≡ true
    by true q h = among_right q (define_names m.defines.items) (callables (modules_of x ms)) h
    by false q h = h

there_first : (p : Placed) (x : List ℕ) (g : ℕ) (m : Module) (ms : List Module) → IsModuleOf p x g m → There p x g (m ∷ ms)
there_first p x g m ms of = record { m = m; of = of; defines = λ q h. by (pointwise nat_eq x (segment_of m)) here q h }
  where
    here : pointwise nat_eq x (segment_of m) ≡ true
    here = ap (λ y. pointwise nat_eq x y) (module_segment p x g m of) ∙ same_self x

    by : (b : Bool) → b ≡ true → (q : List ℕ) → is_among q (define_names m.defines.items) ≡ true
        → is_among q (callables (if b then m ∷ modules_of x ms else modules_of x ms)) ≡ true
    by true is q h = among_left q (define_names m.defines.items) (callables (modules_of x ms)) h
    by false is q h = cc

there_in_unit : (p : Placed) (x : List ℕ) (g : ℕ) (taken : List ℕ) (names : List (List ℕ)) (ms : List Module) → find (numbered 0 p.unit.segments) x ≡ Some g
    → uses p g ≡ true → is_taken g taken ≡ false → is_among x names ≡ true → AreOfUnit p taken names ms → There p x g ms
there_in_unit p x g taken [] _ found used free among u.none = cc
there_in_unit p x g taken (name ∷ names) _ found used free among (u.more {g = h} {m = m} {ms = ms} at of rest) =
    by (nat_eq g h) refl (pointwise nat_eq x name) refl among
    (λ among_rest still. there_in_unit p x g (h ∷ taken) names ms found used still among_rest rest)
  where
    o : List ℕ → Option ℕ
    o y = find (numbered 0 p.unit.segments) y

    at_name : o name ≡ Some h
    at_name = next_found p taken (o name) h at

    by : (b : Bool) → nat_eq g h ≡ b → (c : Bool) → pointwise nat_eq x name ≡ c → (c || is_among x names) ≡ true
        → (is_among x names ≡ true → is_taken g (h ∷ taken) ≡ false → There p x g ms) → There p x g (m ∷ ms)
    by true same c is among go =
        let number : g ≡ h = eqb-true g h same in
        let is_x : name ≡ x = sym (segment_named p.unit name h at_name) ∙ ap (segment_name p.unit) (sym number) ∙ segment_named p.unit x g found in
        there_first p x g m ms (subst (λ (y : List ℕ). IsModuleOf p y g m) is_x (subst (λ (k : ℕ). IsModuleOf p name k m) (sym number) of))
    by false other true is among go =
        let number : g ≡ h = some_inside g g h (sym found ∙ ap o (equal_is x name is) ∙ at_name) in
        clash (sym (eq-eqb g h number) ∙ other)
      where
        clash : {A : Type 0} → true ≡ false → A
        clash e = cc
    by false other false is among go = there_behind m (go among (ap (λ (b : Bool). b || is_taken g taken) other ∙ free))
there_in_unit p x g taken (name ∷ names) ms found used free among (u.skip at rest) =
    by (pointwise nat_eq x name) refl among (λ h. there_in_unit p x g taken names ms found used free h rest)
  where
    o : List ℕ → Option ℕ
    o y = find (numbered 0 p.unit.segments) y

    by : (c : Bool) → pointwise nat_eq x name ≡ c → (c || is_among x names) ≡ true → (is_among x names ≡ true → There p x g ms) → There p x g ms
    by true is among go =
        let next : next_number p taken (Some g) ≡ Some g = ap (λ (b : Bool). if b then Some g else None) (and_from (uses p g) (not (is_taken g taken)) used (ap not free)) in
        clash (sym at ∙ ap (λ y. next_number p taken (o y)) (sym (equal_is x name is)) ∙ ap (next_number p taken) found ∙ next)
      where
        clash : {A : Type 0} → None ≡ Some g → A
        clash e = cc
    by false is among go = go among

-- a segment in which a procedure stands is used
some_entries : (q : List ℕ) (es : List Entry) → is_among q (callable_names es) ≡ true → 0 < length es
some_entries q [] h = cc
some_entries q (e ∷ es) h = omega arith

used_at : (p : Placed) (g : ℕ) (q : List ℕ) → is_among q (numbered_names g (routines_of p.unit)) ≡ true → uses p g ≡ true
used_at p g q h =
    let some = some_entries q (module_entries p.unit g)
    (ap (is_among q) (entry_names p.unit.tree.segment g 0 0 [] (declarations p.unit.tree.items)) ∙ h) in
    lt-ltb 0 (marks_before p g) (more (length (module_entries p.unit g)) (if holds_main p g then 1 else 0) some)
  where
    more : (a b : ℕ) → 0 < a → 0 < a + b
    more a b lt = omega (arith, lt)

-- and its name is among those that the unit uses
uses_here : (s : Source) (x q : List ℕ) (g : ℕ) (t : Table Sort) (m : ℕ) (ds : Declarations) → slice_get s.segments g ≡ Some x
    → is_among q (numbered_names g (routines_among t m ds)) ≡ true → is_among x (uses_among s ds) ≡ true
uses_here s x q g t m decl.none there h = cc
uses_here s x q g t m (decl.and (decl.Declaration.procedure k items ss) ds) there h =
    let d = decl.Declaration.procedure k items ss in
    by (nat_eq k.segment g) refl h (λ e. uses_here s x q g (with_declaration nothing_declared t d) (m + declaration_stops d) ds there e)
  where
    behind : List (List ℕ)
    behind = numbered_names g (routines_among (with_declaration nothing_declared t (decl.Declaration.procedure k items ss)) (m + declaration_stops (decl.Declaration.procedure k items ss)) ds)

    by : (b : Bool) → nat_eq k.segment g ≡ b → is_among q (if b then k.name ∷ behind else behind) ≡ true
        → (is_among q behind ≡ true → is_among x (uses_among s ds) ≡ true) → is_among x (named_segment s k.segment ++ uses_among s ds) ≡ true
    by true same h rest =
        among_left x (named_segment s k.segment) (uses_among s ds)
        (ap (λ o. is_among x (in_list o)) (ap (λ i. slice_get s.segments i) (eqb-true k.segment g same) ∙ there)
        ∙ ap (λ (b : Bool). b || false) (same_self x))
    by false other h rest = among_right x (named_segment s k.segment) (uses_among s ds) (rest h)
uses_here s x q g t m (decl.and (decl.Declaration.data_items own k items) ds) there h =
    uses_here s x q g (with_declaration nothing_declared t (decl.Declaration.data_items own k items)) (m + declaration_stops (decl.Declaration.data_items own k items)) ds there h
uses_here s x q g t m (decl.and (decl.Declaration.equate xs) ds) there h =
    uses_here s x q g (with_declaration nothing_declared t (decl.Declaration.equate xs)) (m + declaration_stops (decl.Declaration.equate xs)) ds there h
uses_here s x q g t m (decl.and (decl.Declaration.intrinsic xs) ds) there h =
    uses_here s x q g (with_declaration nothing_declared t (decl.Declaration.intrinsic xs)) (m + declaration_stops (decl.Declaration.intrinsic xs)) ds there h
uses_here s x q g t m (decl.and (decl.Declaration.label xs) ds) there h =
    uses_here s x q g (with_declaration nothing_declared t (decl.Declaration.label xs)) (m + declaration_stops (decl.Declaration.label xs)) ds there h
uses_here s x q g t m (decl.and (decl.Declaration.forward k) ds) there h =
    uses_here s x q g (with_declaration nothing_declared t (decl.Declaration.forward k)) (m + declaration_stops (decl.Declaration.forward k)) ds there h
uses_here s x q g t m (decl.and (decl.Declaration.external k) ds) there h =
    uses_here s x q g (with_declaration nothing_declared t (decl.Declaration.external k)) (m + declaration_stops (decl.Declaration.external k)) ds there h
uses_here s x q g t m (decl.and (decl.Declaration.subroutine k ss) ds) there h =
    uses_here s x q g (with_declaration nothing_declared t (decl.Declaration.subroutine k ss)) (m + declaration_stops (decl.Declaration.subroutine k ss)) ds there h

-- a name among procedures that stand in the segment by its name: it has the number that is found, or has none of its own
split_found : (s : Source) (x q : List ℕ) (g : ℕ) (rs : List Routine) → stands_in (names_of_routines (among_segment s x rs)) q ≡ true
    → (is_among q (numbered_names g rs) ≡ true) ⊎ (stands_in (astray_among s x (Some g) rs) q ≡ true)
split_found s x q g [] h = cc
split_found s x q g (r ∷ rs) h =
    by (same_name (segment_name s r.heading.segment) x) (nat_eq r.heading.segment g) (same_name q r.heading.name) refl h (λ e. split_found s x q g rs e)
  where
    numbers : List (List ℕ)
    numbers = numbered_names g rs

    lost : List (List ℕ)
    lost = astray_among s x (Some g) rs

    names : List (List ℕ)
    names = names_of_routines (among_segment s x rs)

    stays_lost : stands_in lost q ≡ true → (d : Bool) → same_name q r.heading.name ≡ d → stands_in (r.heading.name ∷ lost) q ≡ true
    stays_lost e true is = ap (λ (b : Bool). if b then true else stands_in lost q) is
    stays_lost e false is = ap (λ (b : Bool). if b then true else stands_in lost q) is ∙ e

    stays_number : is_among q numbers ≡ true → (d : Bool) → same_name q r.heading.name ≡ d → is_among q (r.heading.name ∷ numbers) ≡ true
    stays_number e true is = ap (λ (b : Bool). b || is_among q numbers) is
    stays_number e false is = ap (λ (b : Bool). b || is_among q numbers) is ∙ e

    more : (c b : Bool) (d : Bool) → same_name q r.heading.name ≡ d → (is_among q numbers ≡ true) ⊎ (stands_in lost q ≡ true)
        → (is_among q (if b then r.heading.name ∷ numbers else numbers) ≡ true) ⊎ (stands_in (if c && not b then r.heading.name ∷ lost else lost) q ≡ true)
    more c true d is (inl e) = inl (stays_number e d is)
    more c false d is (inl e) = inl e
    more true true d is (inr e) = inr e
    more true false d is (inr e) = inr (stays_lost e d is)
    more false b d is (inr e) = inr e

    by : (c b d : Bool) → same_name q r.heading.name ≡ d
        → stands_in (names_of_routines (if c then r ∷ among_segment s x rs else among_segment s x rs)) q ≡ true
        → (stands_in names q ≡ true → (is_among q numbers ≡ true) ⊎ (stands_in lost q ≡ true))
        → (is_among q (if b then r.heading.name ∷ numbers else numbers) ≡ true) ⊎ (stands_in (if c && not b then r.heading.name ∷ lost else lost) q ≡ true)
    by false b d is h rest = more false b d is (rest h)
    by true true true is h rest = inl (ap (λ (b : Bool). b || is_among q numbers) is)
    by true false true is h rest = inr (ap (λ (b : Bool). if b then true else stands_in lost q) is)
    by true b false is h rest = more true b false is (rest (sym (ap (λ (b : Bool). if b then true else stands_in names q) is) ∙ h))

split_none : (s : Source) (x q : List ℕ) (rs : List Routine) → stands_in (names_of_routines (among_segment s x rs)) q ≡ true → stands_in (astray_among s x None rs) q ≡ true
split_none s x q [] h = cc
split_none s x q (r ∷ rs) h = by (same_name (segment_name s r.heading.segment) x) (same_name q r.heading.name) refl h (λ e. split_none s x q rs e)
  where
    by : (c d : Bool) → same_name q r.heading.name ≡ d
        → stands_in (names_of_routines (if c then r ∷ among_segment s x rs else among_segment s x rs)) q ≡ true
        → (stands_in (names_of_routines (among_segment s x rs)) q ≡ true → stands_in (astray_among s x None rs) q ≡ true)
        → stands_in (if c && true then r.heading.name ∷ astray_among s x None rs else astray_among s x None rs) q ≡ true
    by false d is h rest = rest h
    by true true is h rest = ap (λ (b : Bool). if b then true else stands_in (astray_among s x None rs) q) is
    by true false is h rest =
        ap (λ (b : Bool). if b then true else stands_in (astray_among s x None rs) q) is
        ∙ rest (sym (ap (λ (b : Bool). if b then true else stands_in (names_of_routines (among_segment s x rs)) q) is) ∙ h)

-- the names that a unit uses are among those of the program
abbrev pub UsesAmong : List (List ℕ) → Source → Type 0
UsesAmong names s = (x : List ℕ) → is_among x (uses_of s) ≡ true → is_among x names ≡ true

unit_met : (p : Placed) (x q : List ℕ) (o : Option ℕ) (names : List (List ℕ)) (ms : List Module) → UsesAmong names p.unit → find (numbered 0 p.unit.segments) x ≡ o
    → AreOfUnit p [] names ms → stands_in (names_of_routines (routines_in p.unit x)) q ≡ true
    → (is_among q (callables (modules_of x ms)) ≡ true) ⊎ (stands_in (astray_among p.unit x o (routines_of p.unit)) q ≡ true)
unit_met p x q None names ms among is are h = inr (split_none p.unit x q (routines_of p.unit) h)
unit_met p x q (Some g) names ms among is are h = by (split_found p.unit x q g (routines_of p.unit) h)
  where
    by : (is_among q (numbered_names g (routines_of p.unit)) ≡ true) ⊎ (stands_in (astray_among p.unit x (Some g) (routines_of p.unit)) q ≡ true)
        → (is_among q (callables (modules_of x ms)) ≡ true) ⊎ (stands_in (astray_among p.unit x (Some g) (routines_of p.unit)) q ≡ true)
    by (inr lost) = inr lost
    by (inl here) =
        let here_used = uses_here p.unit x q g [] 0 (declarations p.unit.tree.items) (segment_there p.unit x g is) here in
        let in_names = among x (among_left x (uses_among p.unit (declarations p.unit.tree.items)) (if p.unit.subprogram then [] else named_segment p.unit p.unit.tree.segment) here_used) in
        let t = there_in_unit p x g [] names ms is (used_at p g q here) refl in_names are in
        inl (t.defines q (ap (is_among q) (module_names p x g t.m t.of) ∙ here))

stands_both : (xs ys : List (List ℕ)) (q : List ℕ) → stands_in (xs ++ ys) q ≡ true → (stands_in xs q ≡ true) ⊎ (stands_in ys q ≡ true)
stands_both [] ys q h = inr h
stands_both (x ∷ xs) ys q h = by (same_name q x) h (λ e. stands_both xs ys q e)
  where
    by : (b : Bool) → (if b then true else stands_in (xs ++ ys) q) ≡ true → (stands_in (xs ++ ys) q ≡ true → (stands_in xs q ≡ true) ⊎ (stands_in ys q ≡ true))
        → ((if b then true else stands_in xs q) ≡ true) ⊎ (stands_in ys q ≡ true)
    by true h rest = inl refl
    by false h rest = rest h

stands_left : (xs ys : List (List ℕ)) (q : List ℕ) → stands_in xs q ≡ true → stands_in (xs ++ ys) q ≡ true
stands_left [] ys q h = cc
stands_left (x ∷ xs) ys q h = by (same_name q x) h (λ e. stands_left xs ys q e)
  where
    by : (b : Bool) → (if b then true else stands_in xs q) ≡ true → (stands_in xs q ≡ true → stands_in (xs ++ ys) q ≡ true) → (if b then true else stands_in (xs ++ ys) q) ≡ true
    by true h rest = refl
    by false h rest = rest h

stands_right : (xs ys : List (List ℕ)) (q : List ℕ) → stands_in ys q ≡ true → stands_in (xs ++ ys) q ≡ true
stands_right [] ys q h = h
stands_right (x ∷ xs) ys q h = by (same_name q x) (stands_right xs ys q h)
  where
    by : (b : Bool) → stands_in (xs ++ ys) q ≡ true → (if b then true else stands_in (xs ++ ys) q) ≡ true
    by true h = refl
    by false h = h

callables_append : (xs ys : List Module) → callables (xs ++ ys) ≡ callables xs ++ callables ys
callables_append [] ys = refl
callables_append (m ∷ xs) ys = ap (λ ns. define_names m.defines.items ++ ns) (callables_append xs ys) ∙ regrouped (define_names m.defines.items) (callables xs) (callables ys)
  where
    regrouped : (as' bs cs : List (List ℕ)) → as' ++ (bs ++ cs) ≡ (as' ++ bs) ++ cs
    regrouped [] bs cs = refl
    regrouped (a ∷ as') bs cs = ap (λ ns. a ∷ ns) (regrouped as' bs cs)

-- the procedures that stand in a segment may be called there, but those that have no module
pub here_met : (x q : List ℕ) (names : List (List ℕ)) (at : Reached) (us : List Source) (ms : List Module) → Each (UsesAmong names) us
    → AreOf names (placed_units at us) ms → stands_in (names_in_segment us x) q ≡ true
    → (is_among q (callables (modules_of x ms)) ≡ true) ⊎ (stands_in (astray x us) q ≡ true)
here_met x q names at [] _ among a.none h = cc
here_met x q names at (s ∷ us) _ among (a.more {ms = ms} {ns = ns} one others) h =
    by (stands_both (names_of_routines (routines_in s x)) (names_in_segment us x) q h) (λ e. here_met x q names (reached_behind s at) us ns among.1 others e)
  where
    p : Placed
    p = record { at = at; unit = s }

    lost : List (List ℕ)
    lost = astray_among s x (find (numbered 0 s.segments) x) (routines_of s)

    joined : is_among q (callables (modules_of x ms) ++ callables (modules_of x ns)) ≡ true → is_among q (callables (modules_of x (ms ++ ns))) ≡ true
    joined e = ap (is_among q) (ap callables (modules_append x ms ns) ∙ callables_append (modules_of x ms) (modules_of x ns)) ∙ e

    first : (is_among q (callables (modules_of x ms)) ≡ true) ⊎ (stands_in lost q ≡ true)
        → (is_among q (callables (modules_of x (ms ++ ns))) ≡ true) ⊎ (stands_in (lost ++ astray x us) q ≡ true)
    first (inl e) = inl (joined (among_left q (callables (modules_of x ms)) (callables (modules_of x ns)) e))
    first (inr e) = inr (stands_left lost (astray x us) q e)

    rest : (is_among q (callables (modules_of x ns)) ≡ true) ⊎ (stands_in (astray x us) q ≡ true)
        → (is_among q (callables (modules_of x (ms ++ ns))) ≡ true) ⊎ (stands_in (lost ++ astray x us) q ≡ true)
    rest (inl e) = inl (joined (among_right q (callables (modules_of x ms)) (callables (modules_of x ns)) e))
    rest (inr e) = inr (stands_right lost (astray x us) q e)

    by : (stands_in (names_of_routines (routines_in s x)) q ≡ true) ⊎ (stands_in (names_in_segment us x) q ≡ true)
        → (stands_in (names_in_segment us x) q ≡ true → (is_among q (callables (modules_of x ns)) ≡ true) ⊎ (stands_in (astray x us) q ≡ true))
        → (is_among q (callables (modules_of x (ms ++ ns))) ≡ true) ⊎ (stands_in (lost ++ astray x us) q ≡ true)
    by (inl e) go = first (unit_met p x q (find (numbered 0 s.segments) x) names ms among.0 refl one e)
    by (inr e) go = rest (go e)
