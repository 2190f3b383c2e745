-- Where names may be called from anywhere: the segment that is noted for a name is the one that its look-up through tables finds.
use Rattle.std.proofs.Common.{◌≡◌, ℕ, suc, ◌+◌, ◌<◌, Bool, true, false, List, [], ◌∷◌, ◌++◌, map, length, Option, Some, None, is_some, slice_get, refl, sym, ap, ◌∙◌, arith}
use Rattle.std.specs.Prelude.{◌&&◌, ◌||◌, if◌then◌else◌, option_map}
use Rattle.spl_branch.specs.declared.modules.Define.{Define}
use Rattle.spl_branch.specs.declared.modules.Module.{Module}
use Rattle.mpe_segmenter.specs.Names.{Part, is_among}
use Rattle.mpe_segmenter.specs.Places.{place_of, with_place}
use Rattle.mpe_segmenter.specs.Entries.{Own, own_of, main_of, owns, is_called, called_at, either, home_from}
use Rattle.mpe_segmenter.specs.Faults.{define_names, callables}
use Rattle.mpe_segmenter.specs.Homes.{home_at, IsHomes, with_names, with_parts}
use Rattle.mpe_segmenter.specs.Programs.{tables_of}
use Rattle.mpe_segmenter.proofs.PartLemmas.{equal}
use Rattle.mpe_segmenter.proofs.EntryLemmas.{place_with, called_append}

-- either of two, and a third
either_assoc : {A : Type 0} (a b c : Option A) → either (either a b) c ≡ either a (either b c)
either_assoc None b c = refl
either_assoc (Some x) b c = refl

either_none : {A : Type 0} (a : Option A) → either a None ≡ a
either_none None = refl
either_none (Some x) = refl

-- names that are noted have their number, unless they have one
names_found : (ns : List (List ℕ)) (es : List (List ℕ × ℕ)) (s : ℕ) (q : List ℕ) → place_of q (with_names es s ns) ≡ either (place_of q es) (if is_among q ns then Some s else None)
names_found [] es s q = sym (either_none (place_of q es))
names_found (n ∷ ns) es s q =
    names_found ns (with_place es n s) s q
    ∙ ap (λ o. either o (if is_among q ns then Some s else None)) (place_with es n q s)
    ∙ either_assoc (place_of q es) (if equal q n then Some s else None) (if is_among q ns then Some s else None)
    ∙ ap (either (place_of q es)) (by (equal q n)) where
      by : (b : Bool) → either (if b then Some s else None) (if is_among q ns then Some s else None) ≡ (if b || is_among q ns then Some s else None)
      by true = refl
      by false = refl

parts_found : (ps : List Part) (es : List (List ℕ × ℕ)) (s : ℕ) (q : List ℕ) → place_of q (with_parts es s ps) ≡ either (place_of q es) (home_at s ps q)
parts_found [] es s q = sym (either_none (place_of q es))
parts_found (p ∷ ps) es s q =
    parts_found ps (with_names es s (callables p.modules)) (s + 1) q
    ∙ ap (λ o. either o (home_at (s + 1) ps q)) (names_found (callables p.modules) es s q)
    ∙ either_assoc (place_of q es) (if is_among q (callables p.modules) then Some s else None) (home_at (s + 1) ps q)
    ∙ ap (either (place_of q es)) (by (is_among q (callables p.modules))) where
      by : (b : Bool) → either (if b then Some s else None) (home_at (s + 1) ps q) ≡ (if b then Some s else home_at (s + 1) ps q)
      by true = refl
      by false = refl

pub are_homes : (ps : List Part) (homes : List (List ℕ × ℕ)) → homes ≡ with_parts [] 0 ps → IsHomes homes ps
are_homes ps homes e = record { finds = λ q. ap (place_of q) e ∙ parts_found ps [] 0 q }

pub names_append : (ns ms : List (List ℕ)) (es : List (List ℕ × ℕ)) (s : ℕ) → with_names es s (ns ++ ms) ≡ with_names (with_names es s ns) s ms
names_append [] ms es s = refl
names_append (n ∷ ns) ms es s = names_append ns ms (with_place es n s) s

-- a procedure may be called by a name where the name is among those of the modules' procedures
some_either : {A : Type 0} (a b : Option A) → is_some (either a b) ≡ (is_some a || is_some b)
some_either None b = refl
some_either (Some x) b = refl

some_map : {A B : Type 0} (f : A → B) (o : Option A) → is_some (option_map f o) ≡ is_some o
some_map f None = refl
some_map f (Some a) = refl

among_append : (q : List ℕ) (ns ms : List (List ℕ)) → is_among q (ns ++ ms) ≡ (is_among q ns || is_among q ms)
among_append q [] ms = refl
among_append q (n ∷ ns) ms = ap (λ b. equal q n || b) (among_append q ns ms) ∙ by (equal q n) (is_among q ns) (is_among q ms) where
  by : (a b c : Bool) → (a || (b || c)) ≡ ((a || b) || c)
  by true b c = refl
  by false b c = refl

called_in : (ds : List Define) (base : ℕ) (q : List ℕ) → is_some (called_at q (map (own_of base) ds)) ≡ is_among q (define_names ds)
called_in [] base q = refl
called_in (d ∷ ds) base q = by d.callable (called_in ds base q) where
  here : (c : Bool) → is_some (called_at q (map (own_of base) ds)) ≡ is_among q (define_names ds)
      → is_some (if c then Some 0 else option_map (λ k. 1 + k) (called_at q (map (own_of base) ds))) ≡ (c || is_among q (define_names ds))
  here true h = refl
  here false h = some_map (λ k. 1 + k) (called_at q (map (own_of base) ds)) ∙ h

  by : (b : Bool) → is_some (called_at q (map (own_of base) ds)) ≡ is_among q (define_names ds)
      → is_some (if b && equal q d.name.text.items then Some 0 else option_map (λ k. 1 + k) (called_at q (map (own_of base) ds))) ≡ is_among q (if b then d.name.text.items ∷ define_names ds else define_names ds)
  by true h = here (equal q d.name.text.items) h
  by false h = some_map (λ k. 1 + k) (called_at q (map (own_of base) ds)) ∙ h

-- no one calls the main body
main_uncalled : (m : Option ℕ) (base : ℕ) (q : List ℕ) → called_at q (main_of base m) ≡ None
main_uncalled None base q = refl
main_uncalled (Some offset) base q = refl

pub called_among : (ms : List Module) (base : ℕ) (q : List ℕ) → is_some (called_at q (owns base ms)) ≡ is_among q (callables ms)
called_among [] base q = refl
called_among (m ∷ ms) base q =
    let here : List Own = map (own_of base) m.defines.items in
    let behind : List Own = main_of base m.main in
    let rest : List Own = owns (base + m.size) ms in
    let own : called_at q (here ++ behind) ≡ called_at q here = called_append here behind q ∙ ap (λ o. either (called_at q here) (option_map (λ k. length here + k) o)) (main_uncalled m.main base q) ∙ either_none (called_at q here) in
    ap is_some (called_append (here ++ behind) rest q)
    ∙ some_either (called_at q (here ++ behind)) (option_map (λ k. length (here ++ behind) + k) (called_at q rest))
    ∙ ap (λ b. is_some (called_at q (here ++ behind)) || b) (some_map (λ k. length (here ++ behind) + k) (called_at q rest) ∙ called_among ms (base + m.size) q)
    ∙ ap (λ o. is_some o || is_among q (callables ms)) own
    ∙ ap (λ b. b || is_among q (callables ms)) (called_in m.defines.items base q)
    ∙ sym (among_append q (define_names m.defines.items) (callables ms))

none_some : {A : Type 0} (o : Option A) → is_some o ≡ false → o ≡ None
none_some None h = refl
none_some (Some a) h = cc

-- a name that no segment has, has no home
pub home_lost : (ps : List Part) (s : ℕ) (q : List ℕ) → home_at s ps q ≡ None → home_from s (tables_of ps) q ≡ None
home_lost [] s q h = refl
home_lost (p ∷ ps) s q h = by (is_among q (callables p.modules)) refl h (λ g. home_lost ps (s + 1) q g) where
  by : (b : Bool) → is_among q (callables p.modules) ≡ b → (if b then Some s else home_at (s + 1) ps q) ≡ None → (home_at (s + 1) ps q ≡ None → home_from (s + 1) (tables_of ps) q ≡ None)
      → either (option_map (λ k. (s, 1 + k)) (called_at q (owns 0 p.modules))) (home_from (s + 1) (tables_of ps) q) ≡ None
  by true e h rest = cc
  by false e h rest = rw (none_some (called_at q (owns 0 p.modules)) (called_among p.modules 0 q ∙ e)) (rest h)

-- the home of a name is in the first segment that has it
pub record Home (ps : List Part) (s n : ℕ) (q : List ℕ) : Type 0 where
  pub place : ℕ
  pub number : n ≡ s + place
  pub within : place < length ps
  pub label : (p : Part) → slice_get ps place ≡ Some p → home_from s (tables_of ps) q ≡ option_map (λ k. (n, 1 + k)) (called_at q (owns 0 p.modules))
  pub there : (p : Part) → slice_get ps place ≡ Some p → is_some (called_at q (owns 0 p.modules)) ≡ true

pub home_found : (ps : List Part) (s n : ℕ) (q : List ℕ) → home_at s ps q ≡ Some n → Home ps s n q
home_found [] s n q h = cc
home_found (p ∷ ps) s n q h = by (is_among q (callables p.modules)) refl h (λ g. home_found ps (s + 1) n q g) where
  some_is : (a b : ℕ) → Some a ≡ Some b → a ≡ b
  some_is a b e = cc

  part_is : (a b : Part) → Some a ≡ Some b → a ≡ b
  part_is a b e = cc

  here : (o : Option ℕ) → is_some o ≡ true → either (option_map (λ k. (s, 1 + k)) o) (home_from (s + 1) (tables_of ps) q) ≡ option_map (λ k. (s, 1 + k)) o
  here None h = cc
  here (Some k) h = refl

  by : (b : Bool) → is_among q (callables p.modules) ≡ b → (if b then Some s else home_at (s + 1) ps q) ≡ Some n → (home_at (s + 1) ps q ≡ Some n → Home ps (s + 1) n q) → Home (p ∷ ps) s n q
  by true e h rest =
      let is : s ≡ n = some_is s n h in
      let called : is_some (called_at q (owns 0 p.modules)) ≡ true = called_among p.modules 0 q ∙ e in record {
        place = 0;
        number = omega (arith, is);
        within = omega arith;
        label = λ r g. ap (λ (x : Part). either (option_map (λ k. (s, 1 + k)) (called_at q (owns 0 p.modules))) (home_from (s + 1) (tables_of ps) q)) (part_is p r g) ∙ here (called_at q (owns 0 p.modules)) called
            ∙ ap (λ (x : Part). option_map (λ k. (s, 1 + k)) (called_at q (owns 0 x.modules))) (part_is p r g) ∙ ap (λ m. option_map (λ k. (m, 1 + k)) (called_at q (owns 0 r.modules))) is;
        there = λ r g. ap (λ (x : Part). is_some (called_at q (owns 0 x.modules))) (sym (part_is p r g)) ∙ called;
      }
  by false e h rest =
      let home = rest h in
      let lost : called_at q (owns 0 p.modules) ≡ None = none_some (called_at q (owns 0 p.modules)) (called_among p.modules 0 q ∙ e) in record {
        place = suc home.place;
        number = omega (arith, home.number);
        within = omega (arith, home.within);
        label = λ r g. ap (λ o. either (option_map (λ k. (s, 1 + k)) o) (home_from (s + 1) (tables_of ps) q)) lost ∙ home.label r g;
        there = λ r g. home.there r g;
      }

-- the place of a procedure is that of an entry
pub called_within : (os : List Own) (q : List ℕ) (k : ℕ) → called_at q os ≡ Some k → k < length os
called_within [] q k h = cc
called_within (o ∷ os) q k h = by (is_called q o) h (λ j g. called_within os q j g) where
  some_is : (a b : ℕ) → Some a ≡ Some b → a ≡ b
  some_is a b e = cc

  inner : (r : Option ℕ) → called_at q os ≡ r → option_map (λ j. 1 + j) r ≡ Some k → ((j : ℕ) → called_at q os ≡ Some j → j < length os) → k < suc (length os)
  inner None e g rest = cc
  inner (Some j) e g rest = omega (arith, some_is (1 + j) k g, rest j e)

  by : (b : Bool) → (if b then Some 0 else option_map (λ j. 1 + j) (called_at q os)) ≡ Some k → ((j : ℕ) → called_at q os ≡ Some j → j < length os) → k < suc (length os)
  by true g rest = omega (arith, some_is 0 k g)
  by false g rest = inner (called_at q os) refl g rest
