-- Modules that are put into their segments one by one make the segments that their names have.
use Rattle.std.proofs.Common.{◌≡◌, ℕ, suc, ◌+◌, ◌<◌, ◌≤◌, Bool, true, false, nat_eq, List, [], ◌∷◌, ◌++◌, map, length, get_or, set, refl, sym, ap, subst, ◌∙◌, arith, append-nil}
use Rattle.std.specs.Prelude.{◌||◌, if◌then◌else◌}
use lib.Pointwise.{bytes_decides}
use Rattle.std.specs.Cmp.Lexicographic.{pointwise}
use Rattle.std.proofs.Math.ListN.{get_or-map}
use Rattle.std.proofs.lemmas.List.{map_push, map-set, length-map}
use Rattle.std.proofs.lemmas.Bool.{false≢true, or_parts, or_from}
use Rattle.spl_branch.specs.declared.modules.Module.{Module}
use Rattle.mpe_segmenter.specs.Names.{segment_of, is_among, with_name, names_from, segment_names, number_of, modules_of, Part, part_from, parts}
use Rattle.mpe_segmenter.specs.declared.parts.Part as declared
use Rattle.mpe_segmenter.specs.PartViews.{part_of, parts_in, names_of, names_in}
use Rattle.mpe_segmenter.specs.Walks.{with_module}
use Rattle.mpe_segmenter.proofs.NameLemmas.{names_push, same_self, new_number}

-- names that are equal by their letters are equal
abbrev pub equal : List ℕ → List ℕ → Bool
equal a b = pointwise nat_eq a b

pub equal_is : (a b : List ℕ) → equal a b ≡ true → a ≡ b
equal_is a b h = (bytes_decides a b).0 h

-- they are in either order
pub unequal_back : (a b : List ℕ) → equal a b ≡ false → equal b a ≡ false
unequal_back a b h = by (equal b a) refl where
  by : (c : Bool) → equal b a ≡ c → c ≡ false
  by false e = refl
  by true e = absurd (false≢true (sym h ∙ ap (λ x. equal x b) (sym (equal_is b a e)) ∙ same_self b))

-- no name stands twice
abbrev pub AreDistinct : List (List ℕ) → Type 0
AreDistinct [] = Unit {0}
AreDistinct (n ∷ ns) = (is_among n ns ≡ false) × AreDistinct ns

not_among_push : (ns : List (List ℕ)) (k n : List ℕ) → is_among k ns ≡ false → equal k n ≡ false → is_among k (ns ++ n ∷ []) ≡ false
not_among_push [] k n h e = or_from _ _ e refl
not_among_push (m ∷ ns) k n h e = let both = or_parts (equal k m) (is_among k ns) h in or_from _ _ both.0 (not_among_push ns k n both.1 e)

distinct_push : (ns : List (List ℕ)) (n : List ℕ) → AreDistinct ns → is_among n ns ≡ false → AreDistinct (ns ++ n ∷ [])
distinct_push [] n d h = (refl, tt)
distinct_push (m ∷ ns) n d h =
    let both = or_parts (equal n m) (is_among n ns) h in
    (not_among_push ns m n d.0 (unequal_back n m both.0), distinct_push ns n d.1 both.1)

distinct_with : (ns : List (List ℕ)) (n : List ℕ) → AreDistinct ns → AreDistinct (with_name ns n)
distinct_with ns n d = by (is_among n ns) refl where
  by : (b : Bool) → is_among n ns ≡ b → AreDistinct (if b then ns else ns ++ n ∷ [])
  by true h = d
  by false h = distinct_push ns n d h

distinct_from : (ms : List Module) (ns : List (List ℕ)) → AreDistinct ns → AreDistinct (names_from ns ms)
distinct_from [] ns d = d
distinct_from (m ∷ ms) ns d = distinct_from ms (with_name ns (segment_of m)) (distinct_with ns (segment_of m) d)

pub names_distinct : (ms : List Module) → AreDistinct (segment_names ms)
names_distinct ms = distinct_from ms [] tt

-- a name that is among names with one more is not that one, nor among the others
lacking : (ns : List (List ℕ)) (n k : List ℕ) → is_among k (with_name ns n) ≡ false → (equal k n ≡ false) × (is_among k ns ≡ false)
lacking ns n k = by (is_among n ns) refl where
  pushed : (ns : List (List ℕ)) → is_among k (ns ++ n ∷ []) ≡ false → (equal k n ≡ false) × (is_among k ns ≡ false)
  pushed [] h = ((or_parts (equal k n) false h).0, refl)
  pushed (m ∷ ns) h =
      let both = or_parts (equal k m) (is_among k (ns ++ n ∷ [])) h in
      let rest = pushed ns both.1 in
      (rest.0, or_from _ _ both.0 rest.1)

  differs : (b : Bool) → equal k n ≡ b → is_among n ns ≡ true → is_among k ns ≡ false → b ≡ false
  differs false e there h = refl
  differs true e there h = absurd (false≢true (sym h ∙ ap (λ x. is_among x ns) (equal_is k n e) ∙ there))

  by : (b : Bool) → is_among n ns ≡ b → is_among k (if b then ns else ns ++ n ∷ []) ≡ false → (equal k n ≡ false) × (is_among k ns ≡ false)
  by true there h = (differs (equal k n) refl there h, h)
  by false there h = pushed ns h

-- a name that no module's segment has, has no modules
none_of : (ms : List Module) (ns : List (List ℕ)) (k : List ℕ) → is_among k (names_from ns ms) ≡ false → (modules_of k ms ≡ []) × (is_among k ns ≡ false)
none_of [] ns k h = (refl, h)
none_of (m ∷ ms) ns k h =
    let rest = none_of ms (with_name ns (segment_of m)) k h in
    let here = lacking ns (segment_of m) k rest.1 in
    (rw here.0 rest.0, here.1)

-- the modules of a name, with one more
own_push : (ms : List Module) (m : Module) (k : List ℕ) → modules_of k (ms ++ m ∷ []) ≡ modules_of k ms ++ (if equal k (segment_of m) then m ∷ [] else [])
own_push [] m k = by (equal k (segment_of m)) where
  by : (b : Bool) → (if b then m ∷ [] else []) ≡ [] ++ (if b then m ∷ [] else [])
  by true = refl
  by false = refl
own_push (x ∷ ms) m k = by (equal k (segment_of x)) (own_push ms m k) where
  by : (b : Bool) → modules_of k (ms ++ m ∷ []) ≡ modules_of k ms ++ (if equal k (segment_of m) then m ∷ [] else [])
      → (if b then x ∷ modules_of k (ms ++ m ∷ []) else modules_of k (ms ++ m ∷ [])) ≡ (if b then x ∷ modules_of k ms else modules_of k ms) ++ (if equal k (segment_of m) then m ∷ [] else [])
  by true e = ap (λ xs. x ∷ xs) e
  by false e = e

own_other : (ms : List Module) (m : Module) (k : List ℕ) → equal k (segment_of m) ≡ false → part_from (ms ++ m ∷ []) k ≡ part_from ms k
own_other ms m k h = ap (λ xs. record { name = k; modules = xs }) (own_push ms m k ∙ rw h (append-nil (modules_of k ms)))

own_same : (ms : List Module) (m : Module) (k : List ℕ) → equal k (segment_of m) ≡ true → part_from (ms ++ m ∷ []) k ≡ record { name = k; modules = modules_of k ms ++ m ∷ [] }
own_same ms m k h = ap (λ xs. record { name = k; modules = xs }) (own_push ms m k ∙ rw h refl)

-- the segments whose names are not the module's stay
others_stay : (ks : List (List ℕ)) (ms : List Module) (m : Module) → is_among (segment_of m) ks ≡ false → map (part_from (ms ++ m ∷ [])) ks ≡ map (part_from ms) ks
others_stay [] ms m h = refl
others_stay (k ∷ ks) ms m h =
    let both = or_parts (equal (segment_of m) k) (is_among (segment_of m) ks) h in
    rw (own_other ms m k (unequal_back (segment_of m) k both.0), others_stay ks ms m both.1) refl

-- a module of a segment that is there
put_there : (ks : List (List ℕ)) (ms : List Module) (m : Module) → AreDistinct ks → is_among (segment_of m) ks ≡ true → map (part_from (ms ++ m ∷ [])) ks ≡ with_module (map (part_from ms) ks) m
put_there [] ms m d h = absurd (false≢true h)
put_there (k ∷ ks) ms m d h = by (equal (segment_of m) k) refl h (λ g. put_there ks ms m d.1 g) where
  by : (b : Bool) → equal (segment_of m) k ≡ b → (b || is_among (segment_of m) ks) ≡ true → (is_among (segment_of m) ks ≡ true → map (part_from (ms ++ m ∷ [])) ks ≡ with_module (map (part_from ms) ks) m)
      → map (part_from (ms ++ m ∷ [])) (k ∷ ks) ≡ (if b then record { name = k; modules = modules_of k ms ++ m ∷ [] } ∷ map (part_from ms) ks else part_from ms k ∷ with_module (map (part_from ms) ks) m)
  by true e h rest =
      let is : segment_of m ≡ k = equal_is (segment_of m) k e in
      let here : equal k (segment_of m) ≡ true = ap (equal k) is ∙ same_self k in
      let others : is_among (segment_of m) ks ≡ false = ap (λ n. is_among n ks) is ∙ d.0 in
      rw (own_same ms m k here, others_stay ks ms m others) refl
  by false e h rest = rw (own_other ms m k (unequal_back (segment_of m) k e), rest h) refl

-- a module of a segment that is new
put_new : (ks : List (List ℕ)) (ms : List Module) (m : Module) → is_among (segment_of m) ks ≡ false → with_module (map (part_from ms) ks) m ≡ map (part_from ms) ks ++ record { name = segment_of m; modules = m ∷ [] } ∷ []
put_new [] ms m h = refl
put_new (k ∷ ks) ms m h =
    let both = or_parts (equal (segment_of m) k) (is_among (segment_of m) ks) h in
    rw (both.0, put_new ks ms m both.1) refl

-- one module more
pub parts_push : (ms : List Module) (m : Module) → parts (ms ++ m ∷ []) ≡ with_module (parts ms) m
parts_push ms m = ap (map (part_from (ms ++ m ∷ []))) (names_push ms [] m) ∙ by (is_among (segment_of m) (segment_names ms)) refl where
  by : (b : Bool) → is_among (segment_of m) (segment_names ms) ≡ b → map (part_from (ms ++ m ∷ [])) (if b then segment_names ms else segment_names ms ++ segment_of m ∷ []) ≡ with_module (parts ms) m
  by true h = put_there (segment_names ms) ms m (names_distinct ms) h
  by false h =
      map_push (part_from (ms ++ m ∷ [])) (segment_names ms) (segment_of m)
      ∙ rw (others_stay (segment_names ms) ms m h, own_same ms m (segment_of m) (same_self (segment_of m)), (none_of ms [] (segment_of m) h).0) (sym (put_new (segment_names ms) ms m h))

-- the names of segments with one module more
pub names_with : (ps : List Part) (m : Module) → with_name (names_of ps) (segment_of m) ≡ names_of (with_module ps m)
names_with [] m = refl
names_with (p ∷ ps) m = by (equal (segment_of m) p.name) (is_among (segment_of m) (names_of ps)) refl (names_with ps m) where
  by : (b c : Bool) → is_among (segment_of m) (names_of ps) ≡ c → (if c then names_of ps else names_of ps ++ segment_of m ∷ []) ≡ names_of (with_module ps m)
      → (if b || c then p.name ∷ names_of ps else (p.name ∷ names_of ps) ++ segment_of m ∷ []) ≡ names_of (if b then record { name = p.name; modules = p.modules ++ m ∷ [] } ∷ ps else p ∷ with_module ps m)
  by true c e h = refl
  by false true e h = ap (λ ns. p.name ∷ ns) h
  by false false e h = ap (λ ns. p.name ∷ ns) h

-- the module goes into the segment with the number of its name
pub with_there : (ps : List Part) (m : Module) (k : ℕ) (d : Part) → k ≡ number_of (names_of ps) (segment_of m) → k < length ps → with_module ps m ≡ set ps k (record { name = (get_or ps k d).name; modules = (get_or ps k d).modules ++ m ∷ [] })
with_there [] m k d e h = absurd (omega (arith, h))
with_there (p ∷ ps) m k d e h = by (equal (segment_of m) p.name) e (λ g. with_there ps m (number_of (names_of ps) (segment_of m)) d refl g) where
  by : (b : Bool) → k ≡ (if b then 0 else number_of (names_of ps) (segment_of m) + 1)
      → (number_of (names_of ps) (segment_of m) < length ps → with_module ps m ≡ set ps (number_of (names_of ps) (segment_of m)) (record { name = (get_or ps (number_of (names_of ps) (segment_of m)) d).name; modules = (get_or ps (number_of (names_of ps) (segment_of m)) d).modules ++ m ∷ [] }))
      → (if b then record { name = p.name; modules = p.modules ++ m ∷ [] } ∷ ps else p ∷ with_module ps m) ≡ set (p ∷ ps) k (record { name = (get_or (p ∷ ps) k d).name; modules = (get_or (p ∷ ps) k d).modules ++ m ∷ [] })
  by true e rest = rw e refl
  by false e rest =
      let n : ℕ = number_of (names_of ps) (segment_of m) in
      let more : k ≡ suc n = omega (arith, e) in
      let P : ℕ → Type 0 = λ j. p ∷ with_module ps m ≡ set (p ∷ ps) j (record { name = (get_or (p ∷ ps) j d).name; modules = (get_or (p ∷ ps) j d).modules ++ m ∷ [] }) in
      subst P (sym more) (ap (λ xs. p ∷ xs) (rest (omega (arith, more, h))))

-- or into a new one
pub with_beyond : (ps : List Part) (m : Module) → length ps ≤ number_of (names_of ps) (segment_of m) → with_module ps m ≡ ps ++ record { name = segment_of m; modules = m ∷ [] } ∷ []
with_beyond [] m h = refl
with_beyond (p ∷ ps) m h = by (equal (segment_of m) p.name) h (λ g. with_beyond ps m g) where
  by : (b : Bool) → suc (length ps) ≤ (if b then 0 else number_of (names_of ps) (segment_of m) + 1) → (length ps ≤ number_of (names_of ps) (segment_of m) → with_module ps m ≡ ps ++ record { name = segment_of m; modules = m ∷ [] } ∷ [])
      → (if b then record { name = p.name; modules = p.modules ++ m ∷ [] } ∷ ps else p ∷ with_module ps m) ≡ (p ∷ ps) ++ record { name = segment_of m; modules = m ∷ [] } ∷ []
  by true h rest = absurd (omega (arith, h))
  by false h rest = ap (λ xs. p ∷ xs) (rest (omega (arith, h)))

-- the number of a name among names with it, where names with it were put
pub number_with : (ns : List (List ℕ)) (n : List ℕ) → number_of (with_name ns n) n ≡ number_of ns n
number_with ns n = by (is_among n ns) refl where
  by : (b : Bool) → is_among n ns ≡ b → number_of (if b then ns else ns ++ n ∷ []) n ≡ number_of ns n
  by true h = refl
  by false h = new_number ns n h

-- the segment at the number of the module's name is given the module
pub put_at : (ps : List declared.Part) (k : ℕ) (p new : declared.Part) (m : Module) → k < length ps → p ≡ get_or ps k p → k ≡ number_of (names_in ps) (segment_of m)
    → part_of new ≡ record { name = p.name.text.items; modules = p.modules.items ++ m ∷ [] } → parts_in (set ps k new) ≡ with_module (parts_in ps) m
put_at ps k p new m lt at e is =
    map-set part_of ps k new
    ∙ ap (set (parts_in ps) k) (is ∙ ap (λ (x : Part). record { name = x.name; modules = x.modules ++ m ∷ [] }) (ap part_of at ∙ sym (get_or-map part_of ps k p)))
    ∙ sym (with_there (parts_in ps) m k (part_of p) e (omega (arith, length-map ps part_of)))
