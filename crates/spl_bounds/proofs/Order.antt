-- The names of segments in order: the modules of a unit come in the order in which the program first uses their segments, so that those that are new
-- with a unit come in the unit's own order.
-- 1. a unit's modules add the names of the segments that it uses, along all names        (unit_order)
-- 2. which are those that it uses                                                       (adds_used, used_adds)
-- 3. so each unit adds its own in their order                                           (units_order)
-- 4. and the order of units is the same                                                 (segments_are)
use Rattle.std.proofs.Common.{◌≡◌, ◌<◌, ◌⊎◌, inl, inr, ℕ, zero, suc, ◌+◌, ◌&&◌, ◌||◌, nat_eq, not, Bool, true, false, if◌then◌else◌, List, [], ◌∷◌, ◌++◌, length, get_or, Option, Some, None, refl, sym, ap, subst, ◌∙◌, arith, append_assoc}
use Rattle.std.specs.List.{slice_get}
use Rattle.std.specs.Cmp.Lexicographic.{pointwise}
use Rattle.std.proofs.lemmas.Bool.{and_from, eq-eqb, eqb-true, lt-ltb, ltb-true}
use Rattle.spl_carries.specs.spl_tree.DeclarationTrees as decl
use Rattle.spl_carries.specs.spl_tree.DeclarationTrees.{Declaration, Declarations, declarations}
use Rattle.spl_carries.specs.spl_meaning.Stops.{declaration_stops}
use Rattle.spl_carries.specs.spl_meaning.Names.{Sort, Table, find, same_name, nothing_declared}
use Rattle.spl_carries.specs.spl_meaning.Tables.{Source, Routine, with_declaration, routines_among, routines_of, subroutines_among, unit_subroutines}
use Rattle.spl_carries.specs.spl_meaning.Bodies.{Reached, reached_behind}
use Rattle.spl_carries.specs.spl_meaning.Limits.{joined}
use Rattle.spl_carries.specs.spl_meaning.Bound.{segment_name, stands_in}
use Rattle.spl_module_words.specs.spl_branch.declared.modules.Module.{Module}
use Rattle.spl_called_names.specs.spl_scopes.Entries.{module_entries}
use Rattle.spl_called_names.specs.spl_scopes.Scopes.{Placed, first_reached, placed_units}
use Rattle.spl_module_words.specs.spl_module_code.Modules.{holds_main, in_list, named_segment, uses_among, uses_of, program_uses, numbered, is_taken, uses, next_number, marks_before, AreOfUnit, AreOf}
use Rattle.spl_module_words.specs.spl_module_code.Modules.{AreOfUnit as u}
use Rattle.spl_module_words.specs.spl_module_code.Modules.{AreOf as a}
use Rattle.spl_module_words.specs.spl_places.Programs.{Each}
use Rattle.spl_sound_labels.specs.Labels.{NoSubroutines}
use Rattle.spl_sound_labels.proofs.InnerLaws.{sound_none}
use Rattle.spl_called_names.specs.Called.{main_there}
use Rattle.spl_carries.specs.Segments as carries
use Rattle.spl_module_words.specs.mpe_segmenter.Names.{is_among, with_name, segment_of, names_from}
use Rattle.spl_module_words.proofs.mpe_segmenter_proofs.PartLemmas.{equal_is}
use Rattle.spl_module_words.proofs.mpe_segmenter_proofs.NameLemmas.{same_self}
use Rattle.spl_bounds.specs.Segments.{StandsIn, NumbersSegments, ModulesMakeSegments}
use Rattle.spl_bounds.proofs.Own.{own_numbered, entry_count}
use Rattle.spl_module_words.proofs.Segments.{segment_named, segment_there, next_found}
use Rattle.spl_bounds.proofs.Modules.{module_segment, among_left, among_right}

-- ---- names one behind the other

fold_names : List (List ℕ) → List (List ℕ) → List (List ℕ)
fold_names xs [] = xs
fold_names xs (y ∷ ys) = fold_names (with_name xs y) ys

with_stays : (xs : List (List ℕ)) (y q : List ℕ) → is_among q xs ≡ true → is_among q (with_name xs y) ≡ true
with_stays xs y q h = by (is_among y xs)
  where
    by : (b : Bool) → is_among q (if b then xs else xs ++ y ∷ []) ≡ true
    by true = h
    by false = among_left q xs (y ∷ []) h

with_there : (xs : List (List ℕ)) (y : List ℕ) → is_among y (with_name xs y) ≡ true
with_there xs y = by (is_among y xs) refl
  where
    by : (b : Bool) → is_among y xs ≡ b → is_among y (if b then xs else xs ++ y ∷ []) ≡ true
    by true is = is
    by false is = among_right y xs (y ∷ []) (ap (λ (b : Bool). b || false) (same_self y))

with_same : (xs : List (List ℕ)) (y : List ℕ) → is_among y xs ≡ true → with_name xs y ≡ xs
with_same xs y h = ap (λ (b : Bool). if b then xs else xs ++ y ∷ []) h

fold_both : (xs ys zs : List (List ℕ)) → fold_names xs (ys ++ zs) ≡ fold_names (fold_names xs ys) zs
unfolding fold_names
fold_both xs [] zs = refl
fold_both xs (y ∷ ys) zs = fold_both (with_name xs y) ys zs

fold_stays : (xs ys : List (List ℕ)) (q : List ℕ) → is_among q xs ≡ true → is_among q (fold_names xs ys) ≡ true
unfolding fold_names
fold_stays xs [] q h = h
fold_stays xs (y ∷ ys) q h = fold_stays (with_name xs y) ys q (with_stays xs y q h)

fold_there : (xs ys : List (List ℕ)) (q : List ℕ) → is_among q ys ≡ true → is_among q (fold_names xs ys) ≡ true
unfolding fold_names
fold_there xs [] q h = cc
fold_there xs (y ∷ ys) q h = by (pointwise nat_eq q y) refl h (λ e. fold_there (with_name xs y) ys q e)
  where
    by : (b : Bool) → pointwise nat_eq q y ≡ b → (b || is_among q ys) ≡ true → (is_among q ys ≡ true → is_among q (fold_names (with_name xs y) ys) ≡ true)
        → is_among q (fold_names (with_name xs y) ys) ≡ true
    by true is h rest = fold_stays (with_name xs y) ys q (subst (λ (z : List ℕ). is_among z (with_name xs y) ≡ true) (sym (equal_is q y is)) (with_there xs y))
    by false is h rest = rest h

fold_same : (xs ys : List (List ℕ)) → ((q : List ℕ) → is_among q ys ≡ true → is_among q xs ≡ true) → fold_names xs ys ≡ xs
unfolding fold_names
fold_same xs [] h = refl
fold_same xs (y ∷ ys) h =
    ap (λ zs. fold_names zs ys) (with_same xs y (h y (ap (λ (b : Bool). b || is_among y ys) (same_self y))))
    ∙ fold_same xs ys (λ q e. h q (by q (pointwise nat_eq q y) e))
  where
    by : (q : List ℕ) (b : Bool) → is_among q ys ≡ true → (b || is_among q ys) ≡ true
    by q true e = refl
    by q false e = e

names_both : (xs : List (List ℕ)) (ms ns : List Module) → names_from xs (ms ++ ns) ≡ names_from (names_from xs ms) ns
names_both xs [] ns = refl
names_both xs (m ∷ ms) ns = names_both (with_name xs (segment_of m)) ms ns

-- ---- 1. a unit

-- it uses the segment that a name is found by
adds_at : Placed → Option ℕ → Bool
adds_at p None = false
adds_at p (Some g) = uses p g

adds : Placed → List ℕ → Bool
adds p y = adds_at p (find (numbered 0 p.unit.segments) y)

adding : Placed → List (List ℕ) → List (List ℕ)
adding p [] = []
adding p (y ∷ ys) = if adds p y then y ∷ adding p ys else adding p ys

next_uses : (p : Placed) (taken : List ℕ) (o : Option ℕ) (g : ℕ) → next_number p taken o ≡ Some g → adds_at p o ≡ true
unfolding adds_at
next_uses p taken None g is = cc
next_uses p taken (Some h) g is = by (uses p h) (is_taken h taken) is
  where
    by : (b t : Bool) → (if b && not t then Some h else None) ≡ Some g → b ≡ true
    by true t at = refl
    by false t at = cc

-- without a module it is not used, or had one
next_none : (p : Placed) (taken : List ℕ) (g : ℕ) → next_number p taken (Some g) ≡ None → uses p g ≡ true → is_taken g taken ≡ true
next_none p taken g is used = by (uses p g) (is_taken g taken) is used
  where
    by : (b t : Bool) → (if b && not t then Some g else None) ≡ None → b ≡ true → t ≡ true
    by true true at used = refl
    by true false at used = cc
    by false t at used = cc

-- the segments that had a module stand there
AllTaken : Placed → List ℕ → List (List ℕ) → Type 0
AllTaken p taken xs = (g : ℕ) → is_taken g taken ≡ true → is_among (segment_name p.unit g) xs ≡ true

unit_order : (p : Placed) (taken : List ℕ) (names xs : List (List ℕ)) (ms : List Module) → AllTaken p taken xs → AreOfUnit p taken names ms
    → names_from xs ms ≡ fold_names xs (adding p names)
unfolding fold_names adding adds adds_at AllTaken
unit_order p taken [] xs _ had u.none = refl
unit_order p taken (name ∷ names) xs _ had (u.more {g = g} {m = m} {ms = ms} at of rest) =
    ap (λ y. names_from (with_name xs y) ms) (module_segment p name g m of)
    ∙ unit_order p (g ∷ taken) names (with_name xs name) ms (λ h. by h (nat_eq h g) refl) rest
    ∙ sym (ap (λ (b : Bool). fold_names xs (if b then name ∷ adding p names else adding p names)) (next_uses p taken (find (numbered 0 p.unit.segments) name) g at))
  where
    named : segment_name p.unit g ≡ name
    named = segment_named p.unit name g (next_found p taken (find (numbered 0 p.unit.segments) name) g at)

    by : (h : ℕ) (b : Bool) → nat_eq h g ≡ b → (b || is_taken h taken) ≡ true → is_among (segment_name p.unit h) (with_name xs name) ≡ true
    by h true same e = subst (λ (z : List ℕ). is_among z (with_name xs name) ≡ true) (sym (ap (segment_name p.unit) (eqb-true h g same) ∙ named)) (with_there xs name)
    by h false other e = with_stays xs name (segment_name p.unit h) (had h e)
unit_order p taken (name ∷ names) xs ms had (u.skip at rest) =
    unit_order p taken names xs ms had rest ∙ by (find (numbered 0 p.unit.segments) name) refl at
  where
    used : (g : ℕ) (b : Bool) → uses p g ≡ b → find (numbered 0 p.unit.segments) name ≡ Some g → next_number p taken (Some g) ≡ None
        → fold_names xs (adding p names) ≡ fold_names xs (if b then name ∷ adding p names else adding p names)
    used g false is found none = refl
    used g true is found none =
        let there = subst (λ (z : List ℕ). is_among z xs ≡ true) (segment_named p.unit name g found) (had g (next_none p taken g none is)) in
        sym (ap (λ zs. fold_names zs (adding p names)) (with_same xs name there))

    by : (o : Option ℕ) → find (numbered 0 p.unit.segments) name ≡ o → next_number p taken o ≡ None
        → fold_names xs (adding p names) ≡ fold_names xs (if adds_at p o then name ∷ adding p names else adding p names)
    by None found none = refl
    by (Some g) found none = used g (uses p g) refl found none

-- ---- 2. which segments a unit uses

some_entries : (p : Placed) (g : ℕ) → uses p g ≡ true → 0 < length (module_entries p.unit g) + (if holds_main p g then 1 else 0)
some_entries p g used = ltb-true 0 (marks_before p g) used

-- those in which a procedure stands
own_uses : (s : Source) (x : List ℕ) (g : ℕ) (t : Table Sort) (m : ℕ) (ds : Declarations) → slice_get s.segments g ≡ Some x
    → 0 < own_numbered g (routines_among t m ds) → is_among x (uses_among s ds) ≡ true
own_uses s x g t m decl.none there h = absurd (no h)
  where
    no : 0 < 0 → ⊥
    no lt = omega (arith, lt)
own_uses s x g t m (decl.and (decl.Declaration.procedure k items ss) ds) there h =
    let d = decl.Declaration.procedure k items ss in
    by (nat_eq k.segment g) refl h (λ e. own_uses s x g (with_declaration nothing_declared t d) (m + declaration_stops d) ds there e)
  where
    subs : ℕ
    subs = suc (length (subroutines_among m items))

    behind : ℕ
    behind = own_numbered g (routines_among (with_declaration nothing_declared t (decl.Declaration.procedure k items ss)) (m + declaration_stops (decl.Declaration.procedure k items ss)) ds)

    by : (b : Bool) → nat_eq k.segment g ≡ b → 0 < (if b then subs else 0) + behind
        → (0 < behind → is_among x (uses_among s ds) ≡ true) → is_among x (named_segment s k.segment ++ uses_among s ds) ≡ true
    by true same h rest =
        among_left x (named_segment s k.segment) (uses_among s ds)
        (ap (λ o. is_among x (in_list o)) (ap (λ i. slice_get s.segments i) (eqb-true k.segment g same) ∙ there) ∙ ap (λ (b : Bool). b || false) (same_self x))
    by false other h rest = among_right x (named_segment s k.segment) (uses_among s ds) (rest (omega (arith, h)))
own_uses s x g t m (decl.and (decl.Declaration.data_items own k items) ds) there h =
    own_uses s x g (with_declaration nothing_declared t (decl.Declaration.data_items own k items)) (m + declaration_stops (decl.Declaration.data_items own k items)) ds there h
own_uses s x g t m (decl.and (decl.Declaration.equate xs) ds) there h =
    own_uses s x g (with_declaration nothing_declared t (decl.Declaration.equate xs)) (m + declaration_stops (decl.Declaration.equate xs)) ds there h
own_uses s x g t m (decl.and (decl.Declaration.intrinsic xs) ds) there h =
    own_uses s x g (with_declaration nothing_declared t (decl.Declaration.intrinsic xs)) (m + declaration_stops (decl.Declaration.intrinsic xs)) ds there h
own_uses s x g t m (decl.and (decl.Declaration.label xs) ds) there h =
    own_uses s x g (with_declaration nothing_declared t (decl.Declaration.label xs)) (m + declaration_stops (decl.Declaration.label xs)) ds there h
own_uses s x g t m (decl.and (decl.Declaration.forward k) ds) there h =
    own_uses s x g (with_declaration nothing_declared t (decl.Declaration.forward k)) (m + declaration_stops (decl.Declaration.forward k)) ds there h
own_uses s x g t m (decl.and (decl.Declaration.external k) ds) there h =
    own_uses s x g (with_declaration nothing_declared t (decl.Declaration.external k)) (m + declaration_stops (decl.Declaration.external k)) ds there h
own_uses s x g t m (decl.and (decl.Declaration.subroutine k ss) ds) there h =
    own_uses s x g (with_declaration nothing_declared t (decl.Declaration.subroutine k ss)) (m + declaration_stops (decl.Declaration.subroutine k ss)) ds there h

main_uses : (s : Source) (x : List ℕ) (g : ℕ) → slice_get s.segments g ≡ Some x → main_there s g ≡ true
    → is_among x (if s.subprogram then [] else named_segment s s.tree.segment) ≡ true
main_uses s x g there here = by s.subprogram (nat_eq s.tree.segment g) refl here
  where
    by : (sub b : Bool) → nat_eq s.tree.segment g ≡ b → (not sub && b) ≡ true → is_among x (if sub then [] else named_segment s s.tree.segment) ≡ true
    by true b is h = cc
    by false false is h = cc
    by false true is h =
        ap (λ o. is_among x (in_list o)) (ap (λ i. slice_get s.segments i) (eqb-true s.tree.segment g is) ∙ there) ∙ ap (λ (b : Bool). b || false) (same_self x)

used_there : (p : Placed) (x : List ℕ) (g : ℕ) → NoSubroutines p.unit → slice_get p.unit.segments g ≡ Some x → uses p g ≡ true → is_among x (uses_of p.unit) ≡ true
used_there p x g none there used =
    let s : Source = p.unit in
    let some = some_entries p g used in
    let count = entry_count s.tree.segment g 0 0 [] (declarations s.tree.items) in
    by (main_there s g) refl (own_or_main s.subprogram (nat_eq s.tree.segment g) (length (module_entries s g)) (own_numbered g (routines_of s)) (length (unit_subroutines s)) count
    (λ sub. ap length (none sub)) some)
  where
    own_or_main : (sub b : Bool) (l n k : ℕ) → l ≡ n + (if b then k else 0) → (sub ≡ true → k ≡ 0) → 0 < l + (if not sub && b then 1 else 0)
        → (0 < n) ⊎ ((not sub && b) ≡ true)
    own_or_main true true l n k e z h = let zero = z refl in inl (omega (arith, e, zero, h))
    own_or_main true false l n k e z h = inl (omega (arith, e, h))
    own_or_main false true l n k e z h = inr refl
    own_or_main false false l n k e z h = inl (omega (arith, e, h))

    by : (b : Bool) → main_there p.unit g ≡ b → (0 < own_numbered g (routines_of p.unit)) ⊎ (main_there p.unit g ≡ true) → is_among x (uses_of p.unit) ≡ true
    by b is (inl own) =
        among_left x (uses_among p.unit (declarations p.unit.tree.items)) (if p.unit.subprogram then [] else named_segment p.unit p.unit.tree.segment)
        (own_uses p.unit x g [] 0 (declarations p.unit.tree.items) there own)
    by b is (inr here) =
        among_right x (uses_among p.unit (declarations p.unit.tree.items)) (if p.unit.subprogram then [] else named_segment p.unit p.unit.tree.segment)
        (main_uses p.unit x g there here)

adds_used : (p : Placed) (x : List ℕ) → NoSubroutines p.unit → adds p x ≡ true → is_among x (uses_of p.unit) ≡ true
unfolding adds adds_at
adds_used p x none h = by (find (numbered 0 p.unit.segments) x) refl h
  where
    by : (o : Option ℕ) → find (numbered 0 p.unit.segments) x ≡ o → adds_at p o ≡ true → is_among x (uses_of p.unit) ≡ true
    by None found h = cc
    by (Some g) found h = used_there p x g none (segment_there p.unit x g found) h

-- where a name is, its number is found
record Found (from : ℕ) (names : List (List ℕ)) (x : List ℕ) : Type 0 where
  g : ℕ
  is : find (numbered from names) x ≡ Some g

found_name : (from : ℕ) (names : List (List ℕ)) (x : List ℕ) (k : ℕ) → slice_get names k ≡ Some x → Found from names x
found_name from [] x k there = cc
found_name from (y ∷ names) x zero there =
    let same : x ≡ y = cc in
    record { g = from; is = ap (λ (b : Bool). if b then Some from else find (numbered (suc from) names) x) (ap (same_name x) (sym same) ∙ same_self x) }
found_name from (y ∷ names) x (suc k) there = by (same_name x y) refl (found_name (suc from) names x k there)
  where
    by : (b : Bool) → same_name x y ≡ b → Found (suc from) names x → Found from (y ∷ names) x
    by true is rest = record { g = from; is = ap (λ (b : Bool). if b then Some from else find (numbered (suc from) names) x) is }
    by false is rest = record { g = rest.g; is = ap (λ (b : Bool). if b then Some from else find (numbered (suc from) names) x) is ∙ rest.is }

-- the number of a segment that a unit uses
record Used (s : Source) (x : List ℕ) (some : ℕ → Type 0) : Type 0 where
  k : ℕ
  there : slice_get s.segments k ≡ Some x
  is : some k

own_used : (s : Source) (x : List ℕ) (t : Table Sort) (m : ℕ) (ds : Declarations) → is_among x (uses_among s ds) ≡ true
    → Used s x (λ k. 0 < own_numbered k (routines_among t m ds))
own_used s x t m decl.none h = cc
own_used s x t m (decl.and (decl.Declaration.procedure k items ss) ds) h =
    let d = decl.Declaration.procedure k items ss in
    by (slice_get s.segments k.segment) refl h (λ e. own_used s x (with_declaration nothing_declared t d) (m + declaration_stops d) ds e)
  where
    rs : List Routine
    rs = routines_among (with_declaration nothing_declared t (decl.Declaration.procedure k items ss)) (m + declaration_stops (decl.Declaration.procedure k items ss)) ds

    all : List Routine
    all = routines_among t m (decl.and (decl.Declaration.procedure k items ss) ds)

    more : Used s x (λ n. 0 < own_numbered n rs) → Used s x (λ n. 0 < own_numbered n all)
    more r = record { k = r.k; there = r.there; is = behind (if nat_eq k.segment r.k then suc (length (subroutines_among m items)) else 0) (own_numbered r.k rs) r.is }
      where
        behind : (a b : ℕ) → 0 < b → 0 < a + b
        behind a b lt = omega (arith, lt)

    here : slice_get s.segments k.segment ≡ Some x → Used s x (λ n. 0 < own_numbered n all)
    here there = record { k = k.segment; there = there; is = first (nat_eq k.segment k.segment) (length (subroutines_among m items)) (own_numbered k.segment rs) (eq-eqb k.segment k.segment refl) }
      where
        first : (b : Bool) (a n : ℕ) → b ≡ true → 0 < (if b then suc a else 0) + n
        first true a n is = omega arith
        first false a n is = cc

    by : (o : Option (List ℕ)) → slice_get s.segments k.segment ≡ o → is_among x (in_list o ++ uses_among s ds) ≡ true
        → (is_among x (uses_among s ds) ≡ true → Used s x (λ n. 0 < own_numbered n rs)) → Used s x (λ n. 0 < own_numbered n all)
    by None there h rest = more (rest h)
    by (Some y) there h rest = named (pointwise nat_eq x y) refl h
      where
        named : (b : Bool) → pointwise nat_eq x y ≡ b → (b || is_among x (uses_among s ds)) ≡ true → Used s x (λ n. 0 < own_numbered n all)
        named true is h = here (there ∙ ap Some (sym (equal_is x y is)))
        named false is h = more (rest h)
own_used s x t m (decl.and (decl.Declaration.data_items own k items) ds) h = own_used s x (with_declaration nothing_declared t (decl.Declaration.data_items own k items)) (m + declaration_stops (decl.Declaration.data_items own k items)) ds h
own_used s x t m (decl.and (decl.Declaration.equate xs) ds) h = own_used s x (with_declaration nothing_declared t (decl.Declaration.equate xs)) (m + declaration_stops (decl.Declaration.equate xs)) ds h
own_used s x t m (decl.and (decl.Declaration.intrinsic xs) ds) h = own_used s x (with_declaration nothing_declared t (decl.Declaration.intrinsic xs)) (m + declaration_stops (decl.Declaration.intrinsic xs)) ds h
own_used s x t m (decl.and (decl.Declaration.label xs) ds) h = own_used s x (with_declaration nothing_declared t (decl.Declaration.label xs)) (m + declaration_stops (decl.Declaration.label xs)) ds h
own_used s x t m (decl.and (decl.Declaration.forward k) ds) h = own_used s x (with_declaration nothing_declared t (decl.Declaration.forward k)) (m + declaration_stops (decl.Declaration.forward k)) ds h
own_used s x t m (decl.and (decl.Declaration.external k) ds) h = own_used s x (with_declaration nothing_declared t (decl.Declaration.external k)) (m + declaration_stops (decl.Declaration.external k)) ds h
own_used s x t m (decl.and (decl.Declaration.subroutine k ss) ds) h = own_used s x (with_declaration nothing_declared t (decl.Declaration.subroutine k ss)) (m + declaration_stops (decl.Declaration.subroutine k ss)) ds h

used_number : (p : Placed) (x : List ℕ) (k : ℕ) → NumbersSegments p.unit → slice_get p.unit.segments k ≡ Some x
    → 0 < length (module_entries p.unit k) + (if holds_main p k then 1 else 0) → adds p x ≡ true
unfolding adds adds_at
used_number p x k n there some =
    let f = found_name 0 p.unit.segments x k there in
    let same : f.g ≡ k = n.once f.g k x (segment_there p.unit x f.g f.is) there in
    ap (adds_at p) (f.is ∙ ap Some same) ∙ lt-ltb 0 (marks_before p k) some

used_adds : (p : Placed) (x : List ℕ) → NumbersSegments p.unit → is_among x (uses_of p.unit) ≡ true → adds p x ≡ true
used_adds p x n h = by (either x (uses_among p.unit (declarations p.unit.tree.items)) (if p.unit.subprogram then [] else named_segment p.unit p.unit.tree.segment) h)
  where
    either : (x : List ℕ) (xs ys : List (List ℕ)) → is_among x (xs ++ ys) ≡ true → (is_among x xs ≡ true) ⊎ (is_among x ys ≡ true)
    either x [] ys h = inr h
    either x (y ∷ xs) ys h = by (pointwise nat_eq x y) h (λ e. either x xs ys e)
      where
        by : (b : Bool) → (b || is_among x (xs ++ ys)) ≡ true → (is_among x (xs ++ ys) ≡ true → (is_among x xs ≡ true) ⊎ (is_among x ys ≡ true))
            → ((b || is_among x xs) ≡ true) ⊎ (is_among x ys ≡ true)
        by true h rest = inl refl
        by false h rest = rest h

    more : (l n a b : ℕ) → l ≡ n + a → 0 < n → 0 < l + b
    more l n a b e lt = omega (arith, e, lt)

    last : (l : ℕ) (b : Bool) → b ≡ true → 0 < l + (if b then 1 else 0)
    last l true is = omega arith
    last l false is = cc

    main : (sub : Bool) → p.unit.subprogram ≡ sub → is_among x (if sub then [] else named_segment p.unit p.unit.tree.segment) ≡ true → adds p x ≡ true
    main true is h = cc
    main false is h = by (slice_get p.unit.segments p.unit.tree.segment) refl h
      where
        by : (o : Option (List ℕ)) → slice_get p.unit.segments p.unit.tree.segment ≡ o → is_among x (in_list o) ≡ true → adds p x ≡ true
        by None there h = cc
        by (Some y) there h = named (pointwise nat_eq x y) refl h
          where
            named : (b : Bool) → pointwise nat_eq x y ≡ b → (b || false) ≡ true → adds p x ≡ true
            named false same h = cc
            named true same h =
                used_number p x p.unit.tree.segment n (there ∙ ap Some (sym (equal_is x y same)))
                (last (length (module_entries p.unit p.unit.tree.segment)) (holds_main p p.unit.tree.segment)
                (and_from (not p.unit.subprogram) (nat_eq p.unit.tree.segment p.unit.tree.segment) (ap not is) (eq-eqb p.unit.tree.segment p.unit.tree.segment refl)))

    by : (is_among x (uses_among p.unit (declarations p.unit.tree.items)) ≡ true)
        ⊎ (is_among x (if p.unit.subprogram then [] else named_segment p.unit p.unit.tree.segment) ≡ true) → adds p x ≡ true
    by (inl own) =
        let r = own_used p.unit x [] 0 (declarations p.unit.tree.items) own in
        used_number p x r.k n r.there
        (more (length (module_entries p.unit r.k)) (own_numbered r.k (routines_of p.unit)) (if nat_eq p.unit.tree.segment r.k then length (unit_subroutines p.unit) else 0)
        (if holds_main p r.k then 1 else 0) (entry_count p.unit.tree.segment r.k 0 0 [] (declarations p.unit.tree.items)) r.is)
    by (inr here) = main p.unit.subprogram refl here

-- ---- 3. units

adding_both : (p : Placed) (xs ys : List (List ℕ)) → adding p (xs ++ ys) ≡ adding p xs ++ adding p ys
unfolding adding
adding_both p [] ys = refl
adding_both p (x ∷ xs) ys = by (adds p x) (adding_both p xs ys)
  where
    by : (b : Bool) → adding p (xs ++ ys) ≡ adding p xs ++ adding p ys → (if b then x ∷ adding p (xs ++ ys) else adding p (xs ++ ys)) ≡ (if b then x ∷ adding p xs else adding p xs) ++ adding p ys
    by true h = ap (λ zs. x ∷ zs) h
    by false h = h

adding_all : (p : Placed) (ys : List (List ℕ)) → ((y : List ℕ) → is_among y ys ≡ true → adds p y ≡ true) → adding p ys ≡ ys
unfolding adding
adding_all p [] h = refl
adding_all p (y ∷ ys) h =
    ap (λ (b : Bool). if b then y ∷ adding p ys else adding p ys) (h y (ap (λ (b : Bool). b || is_among y ys) (same_self y)))
    ∙ ap (λ zs. y ∷ zs) (adding_all p ys (λ z e. h z (by z (pointwise nat_eq z y) e)))
  where
    by : (z : List ℕ) (b : Bool) → is_among z ys ≡ true → (b || is_among z ys) ≡ true
    by z true e = refl
    by z false e = e

adding_in : (p : Placed) (ys : List (List ℕ)) (q : List ℕ) → is_among q (adding p ys) ≡ true → (adds p q ≡ true) × (is_among q ys ≡ true)
unfolding adding
adding_in p [] q h = cc
adding_in p (y ∷ ys) q h = by (adds p y) refl (pointwise nat_eq q y) refl h (λ e. adding_in p ys q e)
  where
    by : (b : Bool) → adds p y ≡ b → (c : Bool) → pointwise nat_eq q y ≡ c → is_among q (if b then y ∷ adding p ys else adding p ys) ≡ true
        → (is_among q (adding p ys) ≡ true → (adds p q ≡ true) × (is_among q ys ≡ true)) → (adds p q ≡ true) × ((c || is_among q ys) ≡ true)
    by true is true same h rest = (ap (adds p) (equal_is q y same) ∙ is, refl)
    by true is false same h rest = rest (sym (ap (λ (b : Bool). b || is_among q (adding p ys)) same) ∙ h)
    by false is c same h rest = let r = rest h in (r.0, more c r.1)
      where
        more : (c : Bool) → is_among q ys ≡ true → (c || is_among q ys) ≡ true
        more true e = refl
        more false e = e

unit_adds : (p : Placed) (names front rest xs : List (List ℕ)) (ms : List Module) → NoSubroutines p.unit → NumbersSegments p.unit → names ≡ front ++ (uses_of p.unit ++ rest)
    → ((q : List ℕ) → is_among q front ≡ true → is_among q xs ≡ true) → AreOfUnit p [] names ms → names_from xs ms ≡ fold_names xs (uses_of p.unit)
unfolding AllTaken
unit_adds p names front rest xs ms none n split old are =
    unit_order p [] names xs ms nothing are
    ∙ ap (λ zs. fold_names xs (adding p zs)) split
    ∙ ap (fold_names xs) (adding_both p front (uses_of p.unit ++ rest) ∙ ap (λ zs. adding p front ++ zs) (adding_both p (uses_of p.unit) rest))
    ∙ fold_both xs (adding p front) (adding p (uses_of p.unit) ++ adding p rest)
    ∙ ap (λ zs. fold_names zs (adding p (uses_of p.unit) ++ adding p rest)) (fold_same xs (adding p front) (λ q e. old q (adding_in p front q e).1))
    ∙ fold_both xs (adding p (uses_of p.unit)) (adding p rest)
    ∙ ap (λ zs. fold_names (fold_names xs zs) (adding p rest)) (adding_all p (uses_of p.unit) (λ y e. used_adds p y n e))
    ∙ fold_same (fold_names xs (uses_of p.unit)) (adding p rest) (λ q e. fold_there xs (uses_of p.unit) q (adds_used p q none (adding_in p rest q e).0))
  where
    nothing : AllTaken p [] xs
    nothing g is = cc

units_order : (names front xs : List (List ℕ)) (at : Reached) (us : List Source) (ms : List Module) → Each NoSubroutines us → Each NumbersSegments us
    → names ≡ front ++ joined uses_of us → ((q : List ℕ) → is_among q front ≡ true → is_among q xs ≡ true) → AreOf names (placed_units at us) ms
    → names_from xs ms ≡ fold_names xs (joined uses_of us)
unfolding fold_names
units_order names front xs at [] _ none n split old a.none = by
  where
    by : xs ≡ fold_names xs []
    by = refl
units_order names front xs at (s ∷ us) _ none n split old (a.more {ms = ms} {ns = ns} one others) =
    let first = unit_adds (record { at = at; unit = s }) names front (joined uses_of us) xs ms none.0 n.0 split old one in
    names_both xs ms ns
    ∙ ap (λ zs. names_from zs ns) first
    ∙ units_order names (front ++ uses_of s) (fold_names xs (uses_of s)) (reached_behind s at) us ns none.1 n.1
    (split ∙ sym (append_assoc front (uses_of s) (joined uses_of us))) (λ q e. by q (among_either q front (uses_of s) e)) others
    ∙ sym (fold_both xs (uses_of s) (joined uses_of us))
  where
    among_either : (x : List ℕ) (xs ys : List (List ℕ)) → is_among x (xs ++ ys) ≡ true → (is_among x xs ≡ true) ⊎ (is_among x ys ≡ true)
    among_either x [] ys h = inr h
    among_either x (y ∷ xs) ys h = by (pointwise nat_eq x y) h (λ e. among_either x xs ys e)
      where
        by : (b : Bool) → (b || is_among x (xs ++ ys)) ≡ true → (is_among x (xs ++ ys) ≡ true → (is_among x xs ≡ true) ⊎ (is_among x ys ≡ true))
            → ((b || is_among x xs) ≡ true) ⊎ (is_among x ys ≡ true)
        by true h rest = inl refl
        by false h rest = rest h

    by : (q : List ℕ) → (is_among q front ≡ true) ⊎ (is_among q (uses_of s) ≡ true) → is_among q (fold_names xs (uses_of s)) ≡ true
    by q (inl e) = fold_stays xs (uses_of s) q (old q e)
    by q (inr e) = fold_there xs (uses_of s) q e

-- ---- 4. the order of units

stands_is : (xs : List (List ℕ)) (x : List ℕ) → stands_in xs x ≡ is_among x xs
stands_is [] x = refl
stands_is (y ∷ xs) x = by (same_name x y) (stands_is xs x)
  where
    by : (b : Bool) → stands_in xs x ≡ is_among x xs → (if b then true else stands_in xs x) ≡ (b || is_among x xs)
    by true h = refl
    by false h = h

with_is : (xs : List (List ℕ)) (x : List ℕ) → carries.with_name xs x ≡ with_name xs x
with_is xs x = ap (λ (b : Bool). if b then xs else xs ++ x ∷ []) (stands_is xs x)

named_there : (xs : List (List ℕ)) (i : ℕ) → i < length xs → slice_get xs i ≡ Some (get_or xs i [])
named_there [] i lt = absurd (no i lt)
  where
    no : (i : ℕ) → i < 0 → ⊥
    no i lt = omega (arith, lt)
named_there (x ∷ xs) zero lt = refl
named_there (x ∷ xs) (suc i) lt = named_there xs i (omega (arith, lt))

fold_named : (s : Source) (xs ys : List (List ℕ)) (i : ℕ) → i < length s.segments → fold_names xs (named_segment s i ++ ys) ≡ fold_names (carries.with_name xs (segment_name s i)) ys
unfolding fold_names
fold_named s xs ys i lt =
    ap (λ o. fold_names xs (in_list o ++ ys)) (named_there s.segments i lt) ∙ ap (λ zs. fold_names zs ys) (sym (with_is xs (segment_name s i)))

routines_order : (s : Source) (xs : List (List ℕ)) (t : Table Sort) (m : ℕ) (ds : Declarations) → Each (StandsIn s) (routines_among t m ds)
    → carries.with_routines s xs (routines_among t m ds) ≡ fold_names xs (uses_among s ds)
unfolding fold_names
routines_order s xs t m decl.none all = by
  where
    by : xs ≡ fold_names xs []
    by = refl
routines_order s xs t m (decl.and (decl.Declaration.procedure k items ss) ds) all =
    let d = decl.Declaration.procedure k items ss in
    routines_order s (carries.with_name xs (segment_name s k.segment)) (with_declaration nothing_declared t d) (m + declaration_stops d) ds all.1
    ∙ sym (fold_named s xs (uses_among s ds) k.segment all.0)
routines_order s xs t m (decl.and (decl.Declaration.data_items own k items) ds) all = routines_order s xs (with_declaration nothing_declared t (decl.Declaration.data_items own k items)) (m + declaration_stops (decl.Declaration.data_items own k items)) ds all
routines_order s xs t m (decl.and (decl.Declaration.equate es) ds) all = routines_order s xs (with_declaration nothing_declared t (decl.Declaration.equate es)) (m + declaration_stops (decl.Declaration.equate es)) ds all
routines_order s xs t m (decl.and (decl.Declaration.intrinsic ys) ds) all = routines_order s xs (with_declaration nothing_declared t (decl.Declaration.intrinsic ys)) (m + declaration_stops (decl.Declaration.intrinsic ys)) ds all
routines_order s xs t m (decl.and (decl.Declaration.label ys) ds) all = routines_order s xs (with_declaration nothing_declared t (decl.Declaration.label ys)) (m + declaration_stops (decl.Declaration.label ys)) ds all
routines_order s xs t m (decl.and (decl.Declaration.forward k) ds) all = routines_order s xs (with_declaration nothing_declared t (decl.Declaration.forward k)) (m + declaration_stops (decl.Declaration.forward k)) ds all
routines_order s xs t m (decl.and (decl.Declaration.external k) ds) all = routines_order s xs (with_declaration nothing_declared t (decl.Declaration.external k)) (m + declaration_stops (decl.Declaration.external k)) ds all
routines_order s xs t m (decl.and (decl.Declaration.subroutine k ss) ds) all = routines_order s xs (with_declaration nothing_declared t (decl.Declaration.subroutine k ss)) (m + declaration_stops (decl.Declaration.subroutine k ss)) ds all

segments_order : (s : Source) (xs : List (List ℕ)) → NumbersSegments s → carries.with_segments s xs ≡ fold_names xs (uses_of s)
unfolding fold_names
segments_order s xs n =
    by s.subprogram n.main
    ∙ sym (fold_both xs (uses_among s (declarations s.tree.items)) (if s.subprogram then [] else named_segment s s.tree.segment))
  where
    own : carries.with_routines s xs (routines_of s) ≡ fold_names xs (uses_among s (declarations s.tree.items))
    own = routines_order s xs [] 0 (declarations s.tree.items) n.routines

    by : (sub : Bool) → (sub ≡ false → s.tree.segment < length s.segments)
        → (if sub then carries.with_routines s xs (routines_of s) else carries.with_name (carries.with_routines s xs (routines_of s)) (segment_name s s.tree.segment))
        ≡ fold_names (fold_names xs (uses_among s (declarations s.tree.items))) (if sub then [] else named_segment s s.tree.segment)
    by true lt = own
    by false lt =
        ap (λ zs. carries.with_name zs (segment_name s s.tree.segment)) own
        ∙ with_is (fold_names xs (uses_among s (declarations s.tree.items))) (segment_name s s.tree.segment)
        ∙ sym (ap (λ o. fold_names (fold_names xs (uses_among s (declarations s.tree.items))) (in_list o)) (named_there s.segments s.tree.segment (lt refl)))

units_are : (xs : List (List ℕ)) (us : List Source) → Each NumbersSegments us → carries.segments_from xs us ≡ fold_names xs (joined uses_of us)
unfolding fold_names
units_are xs [] n = by
  where
    by : xs ≡ fold_names xs []
    by = refl
units_are xs (s ∷ us) n =
    ap (λ zs. carries.segments_from zs us) (segments_order s xs n.0) ∙ units_are (fold_names xs (uses_of s)) us n.1 ∙ sym (fold_both xs (uses_of s) (joined uses_of us))

pub segments_are : ModulesMakeSegments
segments_are us ms sound n are =
    units_order (program_uses us) [] [] (first_reached us) us ms (sound_none us sound) n refl (λ q e. nothing q e) are ∙ sym (units_are [] us n)
  where
    nothing : (q : List ℕ) → is_among q [] ≡ true → is_among q [] ≡ true
    nothing q e = e
