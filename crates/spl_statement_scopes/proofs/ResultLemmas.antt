-- Places with results behind them.
-- 1. a result goes in where its name stands for what gives it           (taken_in)
-- 2. that of a subroutine, and then that of the procedure around it     (both_behind)
-- 3. through three levels these are seen before all places              (seen_before), since no parameter has such a name (inner_gives)
use Rattle.std.proofs.Common.{ℕ, ◌+◌, ◌≡◌, Bool, true, false, List, [], ◌∷◌, Option, Some, None, refl, sym, ap, ◌∙◌}
use Rattle.std.specs.Prelude.{option_map, if◌then◌else◌}
use Rattle.std.specs.Cmp.Lexicographic.{same_text}
use Rattle.spl_tree.specs.declared.expressions.Kind.{Kind}
use Rattle.spl_tree.specs.Views.{letters}
use Rattle.spl_sorts.specs.spl_meaning.Names.{Names, Sort, Formal, find, or_else, same_name, sort_by, parameters, formals_of}
use Rattle.spl_sorts.specs.spl_meaning.Pending.{formal_words, formals_words}
use Rattle.spl_sorts.specs.spl_meaning.Bodies.{parameter_places}
use Rattle.spl_tree.specs.DeclarationTrees.{Heading}
use Rattle.spl_module_code.specs.Bodies.{is_called, seen_results}
use Rattle.spl_sorts.specs.spl_meaning.Places.{Place, below_return}
use Rattle.spl_body_scopes.specs.spl_found.OwnNames.{with_name}
use Rattle.spl_places.specs.Spots.{spot_of}
use Rattle.spl_module_code.specs.spl_scopes.Scopes.{Results}
use Rattle.spl_body_scopes.specs.declared.results.BodyResult.{BodyResult}
use Rattle.spl_body_scopes.specs.Levels.{Spots, Level, through, inner_level}
use Rattle.spl_body_scopes.specs.Results.{result_of, results_through}
use Rattle.spl_statement_scopes.specs.Levels.{behind, no_names, with_results}

-- ---- 1. one result

same_as : (x y : List ℕ) → same_name x y ≡ true → x ≡ y
same_as x y is = same_text x y (sym is)

-- what is so at a name is so at each that has its letters
at_letters : {A : Type 0} (f : List ℕ → A) (x y : List ℕ) (a : A) → f y ≡ a → same_name x y ≡ true → f x ≡ a
at_letters f x y a there same = ap f (same_as x y same) ∙ there

pub taken_in : (new old : Spots) (names : Names) (r : BodyResult) → is_called (names (letters r.name)) ≡ true → new ≡ with_name old (letters r.name) (spot_of r.place)
    → new ≡ behind old (seen_results names (result_of (Some r)))
unfolding with_name
taken_in new old names r called is = is ∙ goes
  where
    by : (k : Kind) (p : Place) (o : Option Place) (c b : Bool) → (b ≡ true → c ≡ true)
        → or_else o (if b then Some p else None) ≡ or_else o (option_map (λ (s : Kind × Place). s.1) (if c then (if b then Some (k, p) else None) else None))
    by k p (Some v) c b so = refl
    by k p None true true so = refl
    by k p None true false so = refl
    by k p None false false so = refl
    by k p None false true so = let absurd : false ≡ true = so refl in cc

    goes : with_name old (letters r.name) (spot_of r.place) ≡ behind old (seen_results names (result_of (Some r)))
    goes i x =
        by r.kind (spot_of r.place) (old x) (is_called (names x)) (same_name x (letters r.name)) (at_letters (λ (y : List ℕ). is_called (names y)) x (letters r.name) true called) i

-- ---- 2. two results

pub both_behind : (old : Spots) (names : Names) (r s : Results)
    → behind (behind old (seen_results names r)) (seen_results names s) ≡ behind old (seen_results names (results_through r s))
both_behind old names r s i x = by (old x) (is_called (names x)) (r x) (s x) i
  where
    by : (o : Option Place) (c : Bool) (p q : Option (Kind × Place))
        → or_else (or_else o (option_map (λ (t : Kind × Place). t.1) (if c then p else None))) (option_map (λ (t : Kind × Place). t.1) (if c then q else None))
        ≡ or_else o (option_map (λ (t : Kind × Place). t.1) (if c then or_else p q else None))
    by (Some v) c p q = refl
    by None false p q = refl
    by None true (Some t) q = refl
    by None true None q = refl

-- ---- 3. three levels

-- a level none of whose names with places stands for what gives a result
abbrev pub Gives : Level → Names → Type 0
Gives a around = (x : List ℕ) (p : Option Place)
    → or_else (a.places x) (if is_called (or_else (a.names x) (around x)) then p else None) ≡ or_else (if is_called (or_else (a.names x) (around x)) then p else None) (a.places x)

pub none_gives : (around : Names) → Gives no_names around
none_gives around x p = by (is_called (around x)) p
  where
    by : (c : Bool) (q : Option Place) → or_else None (if c then q else None) ≡ or_else (if c then q else None) None
    by true None = refl
    by true (Some v) = refl
    by false q = refl

parameter_not_called : (k : Option Kind) (a v : Bool) → is_called (Some (sort_by k a v)) ≡ false
parameter_not_called None a v = refl
parameter_not_called (Some k) true v = refl
parameter_not_called (Some k) false true = refl
parameter_not_called (Some k) false false = refl

formals_give : (below : ℕ → Place) (gap : ℕ) (fs : List Formal) (around : Names) → Gives (record { names = find (parameters fs); places = find (parameter_places below gap fs) }) around
formals_give below gap [] around x p = none_gives around x p
formals_give below gap (f ∷ fs) around x p =
    by (same_name x f.name) (find (parameters fs) x) (find (parameter_places below gap fs) x) (formals_give below gap fs around x p)
  where
    here : Option Place
    here = Some (below (gap + formal_words f + formals_words fs))

    by : (b : Bool) (s : Option Sort) (o : Option Place)
        → or_else o (if is_called (or_else s (around x)) then p else None) ≡ or_else (if is_called (or_else s (around x)) then p else None) o
        → or_else (if b then here else o) (if is_called (or_else (if b then Some (sort_by f.kind f.array f.value) else s) (around x)) then p else None)
        ≡ or_else (if is_called (or_else (if b then Some (sort_by f.kind f.array f.value) else s) (around x)) then p else None) (if b then here else o)
    by true s o rest = ap (λ (c : Bool). or_else (if c then p else None) here) (sym (parameter_not_called f.kind f.array f.value))
    by false s o rest = rest

pub inner_gives : (sub : Heading) (around : Names) → Gives (inner_level sub) around
inner_gives sub around = formals_give below_return 0 (formals_of sub) around

-- what names on the left of := mean, in these names and places
abbrev pub before : Names → Spots → Results → Spots
before names places r x = or_else (option_map (λ s. s.1) (seen_results names r x)) (places x)

pub seen_before : (a b c : Level) (r : Results) → Gives a (λ x. or_else (b.names x) (c.names x))
    → through (with_results a b c r).places b.places c.places ≡ before (through a.names b.names c.names) (through a.places b.places c.places) r
seen_before a b c r gives i x =
    by (a.places x) (or_else (b.places x) (c.places x)) (is_called (through a.names b.names c.names x)) (r x)
    (gives x (option_map (λ (t : Kind × Place). t.1) (r x))) i
  where
    by : (o q : Option Place) (d : Bool) (s : Option (Kind × Place))
        → or_else o (if d then option_map (λ (t : Kind × Place). t.1) s else None) ≡ or_else (if d then option_map (λ (t : Kind × Place). t.1) s else None) o
        → or_else (or_else o (option_map (λ (t : Kind × Place). t.1) (if d then s else None))) q
        ≡ or_else (option_map (λ (t : Kind × Place). t.1) (if d then s else None)) (or_else o q)
    by None q true None swap = refl
    by None q true (Some t) swap = refl
    by None q false s swap = refl
    by (Some v) q false s swap = refl
    by (Some v) q true None swap = refl
    by (Some v) q true (Some t) swap = swap
