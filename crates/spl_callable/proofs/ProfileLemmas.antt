-- Headings that are alike, names among some, and procedures at their numbers.
use Rattle.std.proofs.Common.{◌≡◌, ℕ, zero, suc, ◌+◌, ◌≤◌, ◌<◌, ◌&&◌, Bool, true, false, List, [], ◌∷◌, Option, Some, None, refl, sym, ap, subst, ◌∙◌, arith}
use Rattle.std.specs.Prelude.{◌||◌, ◌==◌, not, max, slice_get, if◌then◌else◌}
use Rattle.std.specs.List.{list_all}
use Rattle.std.proofs.lemmas.Bool.{and_parts, false≢true, eqb-true}
use Rattle.spl_readings.specs.spl_tree.declared.expressions.Kind.{Kind}
use Rattle.spl_readings.specs.spl_tree.declared.expressions.Kind.TheVariants as kind
use Rattle.spl_mains.specs.spl_meaning.Bodies.{Body, Named, body_named, named_bodies, procedure_body}
use Rattle.spl_mains.specs.spl_meaning.DeclarationRules.{kind_number, same_formals, same_profile}
use Rattle.spl_mains.specs.spl_meaning.Names as n
use Rattle.spl_mains.specs.spl_meaning.Names.{Sort, Table, Formal, Profile, profile_of, same_name, same_flag}
use Rattle.spl_mains.specs.spl_meaning.Pending.{value_words, by_value, formal_words, formals_words, depth}
use Rattle.spl_mains.specs.spl_meaning.Places.{Place, list_words, list_array_words}
use Rattle.spl_mains.specs.spl_meaning.Tables.{Routine, routine_table, Subroutine, subroutine_named}
use Rattle.spl_inners.proofs.mpe_segmenter_proofs.PartLemmas.{equal_is}
use Rattle.spl_readings.specs.spl_scopes.Entries.{routine, module_entries}
use Rattle.spl_readings.specs.spl_scopes.Scopes.{Placed, body_segment}
use Rattle.spl_callees.specs.Callees.{CallsAlike}
use Rattle.spl_readings.specs.spl_places.Programs.{Each}
use Rattle.spl_callees.specs.spl_procedures.Laws.{RoutinesAreProcedures}
use Rattle.spl_callees.specs.spl_procedures.Procedures.{IsProcedure}
use Rattle.spl_inners.specs.spl_sound_jumps.Laws.{Lands, LandsInRoutine}
use Rattle.spl_callable.specs.Callable.{is_among, is_alike, is_inner_alike, is_covered_procedure, are_covered_procedures, most_words}

-- ---- headings

-- a kind by its number
kind_of_number : ℕ → Option Kind
kind_of_number n =
    if n == 1 then Some kind.Integer else
    if n == 2 then Some kind.Logical else
    if n == 3 then Some kind.Byte else
    if n == 4 then Some kind.Double else None

kind_is : (o : Option Kind) → kind_of_number (kind_number o) ≡ o
unfolding kind_of_number
kind_is None = refl
kind_is (Some kind.Integer) = refl
kind_is (Some kind.Logical) = refl
kind_is (Some kind.Byte) = refl
kind_is (Some kind.Double) = refl

kinds_same : (o p : Option Kind) → (kind_number o == kind_number p) ≡ true → o ≡ p
kinds_same o p e = sym (kind_is o) ∙ ap kind_of_number (eqb-true (kind_number o) (kind_number p) e) ∙ kind_is p

flags_same : (a b : Bool) → same_flag a b ≡ true → a ≡ b
flags_same true true e = refl
flags_same false false e = refl
flags_same true false e = absurd (false≢true e)
flags_same false true e = absurd (false≢true e)

formals_same : (fs gs : List Formal) → same_formals fs gs ≡ true → formals_words fs ≡ formals_words gs
formals_same [] [] e = refl
formals_same (f ∷ fs) (g ∷ gs) e =
    let three = and_parts (kind_number f.kind == kind_number g.kind && same_flag f.array g.array && same_flag f.value g.value) (same_formals fs gs) e in
    let two = and_parts (kind_number f.kind == kind_number g.kind && same_flag f.array g.array) (same_flag f.value g.value) three.0 in
    let one = and_parts (kind_number f.kind == kind_number g.kind) (same_flag f.array g.array) two.0 in
    let given : by_value f ≡ by_value g =
    ap (λ (b : Bool). if b then false else f.value) (flags_same f.array g.array one.1)
    ∙ ap (λ (b : Bool). if g.array then false else b) (flags_same f.value g.value two.1) in
    let word : formal_words f ≡ formal_words g =
    ap (λ (b : Bool). value_words b f.kind) given ∙ ap (λ (o : Option Kind). value_words (by_value g) o) (kinds_same f.kind g.kind one.0) in
    let rest = formals_same fs gs three.1 in
    omega (arith, word, rest)
formals_same [] (g ∷ gs) e = absurd (false≢true e)
formals_same (f ∷ fs) [] e = absurd (false≢true e)

-- profiles alike are those of calls alike
profiles_same : (p q : Profile) → same_profile p q ≡ true → CallsAlike p q
profiles_same p q e =
    let two = and_parts (kind_number p.result == kind_number q.result && same_flag p.split q.split) (same_formals p.formals q.formals) e in
    let one = and_parts (kind_number p.result == kind_number q.result) (same_flag p.split q.split) two.0 in
    record { result = kinds_same p.result q.result one.0; words = formals_same p.formals q.formals two.1 }

-- a name that stands for a subroutine, where it is alike
pub inner_alike : (o : Option Sort) (s : Subroutine) (p : Profile) → o ≡ Some (n.subroutine p) → is_inner_alike o (Some s) ≡ true → CallsAlike p (profile_of s.heading)
inner_alike o s p is alike = profiles_same p (profile_of s.heading) (sym (ap (λ (t : Option Sort). is_inner_alike t (Some s)) is) ∙ alike)

-- a name that stands for a procedure, where it is alike
pub sort_alike : (o : Option Sort) (b : Body) (p : Profile) → o ≡ Some (n.procedure p) → is_alike o (Some b) ≡ true → CallsAlike p b.profile
sort_alike o b p is alike = profiles_same p b.profile (sym (ap (λ (s : Option Sort). is_alike s (Some b)) is) ∙ alike)

-- ---- names

-- what holds of each of some names holds of one of them
pub among_all : (f : List ℕ → Bool) (xs : List (List ℕ)) (x : List ℕ) → is_among xs x ≡ true → list_all f xs ≡ true → f x ≡ true
among_all f [] x among all = absurd (false≢true among)
among_all f (y ∷ ys) x among all = by (same_name x y) refl among (λ rest. among_all f ys x rest two.1) where
  two : (f y ≡ true) × (list_all f ys ≡ true)
  two = and_parts (f y) (list_all f ys) all

  by : (b : Bool) → same_name x y ≡ b → (b || is_among ys x) ≡ true → (is_among ys x ≡ true → f x ≡ true) → f x ≡ true
  by true same e rest = subst (λ (z : List ℕ). f z ≡ true) (sym (equal_is x y same)) two.0
  by false same e rest = rest e

-- the subroutine of a name is covered, where the name is among these
pub inner_covered : (ys : List (List ℕ)) (f : Subroutine → Bool) (ss : List Subroutine) (x : List ℕ) (s : Subroutine)
    → list_all (λ y. not (is_among ys y.heading.name) || f y) ss ≡ true → subroutine_named ss x ≡ Some s → is_among ys x ≡ true → f s ≡ true
inner_covered ys f [] x s all is among = cc
inner_covered ys f (y ∷ ss) x s all is among = by (same_name x y.heading.name) refl is (λ e. inner_covered ys f ss x s two.1 e among) where
  two : ((not (is_among ys y.heading.name) || f y) ≡ true) × (list_all (λ z. not (is_among ys z.heading.name) || f z) ss ≡ true)
  two = and_parts (not (is_among ys y.heading.name) || f y) (list_all (λ z. not (is_among ys z.heading.name) || f z) ss) all

  tested : (a c : Bool) → (not a || c) ≡ true → a ≡ true → c ≡ true
  tested true c e t = e
  tested false c e t = absurd (false≢true t)

  by : (b : Bool) → same_name x y.heading.name ≡ b → (if b then Some y else subroutine_named ss x) ≡ Some s → (subroutine_named ss x ≡ Some s → f s ≡ true) → f s ≡ true
  by true same e rest =
      let its : y ≡ s = cc in
      subst (λ (z : Subroutine). f z ≡ true) its
      (tested (is_among ys y.heading.name) (f y) two.0 (ap (λ (z : List ℕ). is_among ys z) (sym (equal_is x y.heading.name same)) ∙ among))
  by false same e rest = rest e

-- ---- procedures of a unit

-- the one at a number is covered, where its name is among these
pub procedure_covered : (xs ys : List (List ℕ)) (procedures : List Named) (p : Placed) (k : ℕ) (bs : List Named) (i : ℕ) (b : Named)
    → are_covered_procedures xs ys procedures p k bs ≡ true → slice_get bs i ≡ Some b → is_among xs b.name ≡ true
    → is_covered_procedure xs ys procedures (module_entries p.unit (body_segment p.unit (routine (k + i)))) (k + i) b.body ≡ true
procedure_covered xs ys procedures p k [] i b e there among = cc
procedure_covered xs ys procedures p k (y ∷ bs) zero b e there among =
    let same : y ≡ b = cc in
    let two = and_parts (not (is_among xs y.name) || is_covered_procedure xs ys procedures (module_entries p.unit (body_segment p.unit (routine k))) k y.body)
    (are_covered_procedures xs ys procedures p (suc k) bs) e in
    let none : k ≡ k + 0 = omega arith in
    subst (λ (j : ℕ). is_covered_procedure xs ys procedures (module_entries p.unit (body_segment p.unit (routine j))) j b.body ≡ true) none
    (subst (λ (z : Named). is_covered_procedure xs ys procedures (module_entries p.unit (body_segment p.unit (routine k))) k z.body ≡ true) same
    (by (is_among xs y.name) (is_covered_procedure xs ys procedures (module_entries p.unit (body_segment p.unit (routine k))) k y.body) two.0
    (ap (λ (z : Named). is_among xs z.name) same ∙ among))) where
      by : (a c : Bool) → (not a || c) ≡ true → a ≡ true → c ≡ true
      by true c e f = e
      by false c e f = absurd (false≢true f)
procedure_covered xs ys procedures p k (y ∷ bs) (suc i) b e there among =
    let two = and_parts (not (is_among xs y.name) || is_covered_procedure xs ys procedures (module_entries p.unit (body_segment p.unit (routine k))) k y.body)
    (are_covered_procedures xs ys procedures p (suc k) bs) e in
    let next : suc k + i ≡ k + suc i = omega arith in
    subst (λ (j : ℕ). is_covered_procedure xs ys procedures (module_entries p.unit (body_segment p.unit (routine j))) j b.body ≡ true) next
    (procedure_covered xs ys procedures p (suc k) bs i b two.1 there among)

-- what is known of it, where its parameters have fewer than 256 words
pub procedure_known : RoutinesAreProcedures → (globals : Table Place) (own own_arrays : ℕ) (rs : List Routine) (i : ℕ) (b : Named)
    → slice_get (named_bodies globals own own_arrays rs) i ≡ Some b → formals_words b.body.profile.formals < 256 → IsProcedure b.body
procedure_known law globals own own_arrays [] i b there few = cc
procedure_known law globals own own_arrays (r ∷ rs) zero b there few =
    let same : record { name = r.heading.name; body = procedure_body globals own own_arrays r } ≡ b = cc in
    subst (λ (z : Named). IsProcedure z.body) same
    (law globals own own_arrays r (subst (λ (z : Named). formals_words z.body.profile.formals < 256) (sym same) few))
procedure_known law globals own own_arrays (r ∷ rs) (suc i) b there few =
    procedure_known law globals (own + list_words true (routine_table r)) (own_arrays + list_array_words true (routine_table r)) rs i b there few

-- its labels and jumps lead somewhere, where those of the unit's procedures do
pub procedure_lands : (globals : Table Place) (own own_arrays : ℕ) (rs : List Routine) (i : ℕ) (b : Named)
    → slice_get (named_bodies globals own own_arrays rs) i ≡ Some b → Each LandsInRoutine rs → Lands b.body.statements
procedure_lands globals own own_arrays [] i b there each = cc
procedure_lands globals own own_arrays (r ∷ rs) zero b there each =
    let same : record { name = r.heading.name; body = procedure_body globals own own_arrays r } ≡ b = cc in
    subst (λ (z : Named). Lands z.body.statements) same each.0
procedure_lands globals own own_arrays (r ∷ rs) (suc i) b there each =
    procedure_lands globals (own + list_words true (routine_table r)) (own_arrays + list_array_words true (routine_table r)) rs i b there each.1

-- its room is its depth
pub procedure_depth : (globals : Table Place) (own own_arrays : ℕ) (rs : List Routine) (i : ℕ) (b : Named)
    → slice_get (named_bodies globals own own_arrays rs) i ≡ Some b → b.body.depth' ≡ depth b.body.here.names b.body.statements
procedure_depth globals own own_arrays [] i b there = cc
procedure_depth globals own own_arrays (r ∷ rs) zero b there =
    let same : record { name = r.heading.name; body = procedure_body globals own own_arrays r } ≡ b = cc in
    subst (λ (z : Named). z.body.depth' ≡ depth z.body.here.names z.body.statements) same refl
procedure_depth globals own own_arrays (r ∷ rs) (suc i) b there =
    procedure_depth globals (own + list_words true (routine_table r)) (own_arrays + list_array_words true (routine_table r)) rs i b there

-- its local words are no more than those of the procedure that has most
pub words_most : (bs : List Named) (x : List ℕ) (b : Body) → body_named bs x ≡ Some b → b.words ≤ most_words bs
words_most [] x b e = cc
words_most (y ∷ bs) x b e = by (same_name x y.name) e (λ f. words_most bs x b f) where
  by : (c : Bool) → (if c then Some y.body else body_named bs x) ≡ Some b → (body_named bs x ≡ Some b → b.words ≤ most_words bs)
      → b.words ≤ max y.body.words (most_words bs)
  by true f rest = let same : y.body ≡ b = cc in let words : y.body.words ≡ b.words = ap (λ (z : Body). z.words) same in omega (arith, words)
  by false f rest = let few = rest f in omega (arith, few)
