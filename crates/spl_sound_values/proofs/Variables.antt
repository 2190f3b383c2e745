-- Names of variables that break no rule: what they stand for, that they are seen, and what is covered of them.
-- 1. what a name stands for           (variable_cases)
-- 2. its place is seen                (variable_seen)
use Rattle.std.proofs.Common.{◌≡◌, ℕ, ◌==◌, ◌||◌, not, nat_le, Bool, true, false, List, [], ◌++◌, Option, Some, None, is_some, refl, sym, ap, ◌∙◌, arith, ℤ}
use Rattle.std.proofs.lemmas.Bool.{or_right, le-leb, eqb-true}
use Rattle.spl_shapes.specs.spl_tree.declared.names_and_places.At.{At}
use Rattle.spl_shapes.specs.spl_tree.declared.expressions.Kind.{Kind}
use Rattle.spl_near_places.specs.spl_meaning.Names as n
use Rattle.spl_near_places.specs.spl_meaning.Names.{Sort}
use Rattle.spl_near_places.specs.spl_meaning.Kinds.{variable_kind}
use Rattle.spl_near_places.specs.spl_meaning.Limits.{use_of}
use Rattle.spl_near_places.specs.spl_meaning.Places.{Place}
use Rattle.spl_near_places.specs.spl_meaning.References.{Setting}
use Rattle.spl_near_places.specs.spl_meaning.Values.{Who}
use Rattle.spl_near_places.specs.spl_meaning.Faults.{fault, unless}
use Rattle.spl_near_places.specs.spl_meaning.ExpressionRules as rule
use Rattle.spl_near_places.specs.spl_meaning.ExpressionRules.{index_fits, split_use, variable_by, variable_faults}
use Rattle.spl_near_places.specs.spl_code.Calls.{Scope}
use Rattle.spl_covered.specs.spl_names.Names.{has_seen}
use Rattle.spl_near_places.specs.spl_sound_names.Known.{is_item, is_passed}
use Rattle.spl_near_places.proofs.spl_sound_names_proofs.Tables.{left_none, right_none, clash, unless_none, never}
use Rattle.spl_sound_values.specs.Seen.{Seen, UseAllowed, is_plain_sort}
use Rattle.spl_sound_values.proofs.Parts.{implies, ruled, near_seen}

module _ (may : Who → Bool) (c : Scope) (st : Setting) (rules : rule.Scope) (seen : Seen may c st (ruled c st rules)) where
  abbrev sc : rule.Scope
  sc = ruled c st rules

  -- ---- 1. what a name stands for

  -- what no split procedure declares stands in none
  pub whole : (x : List ℕ) (s : Sort) → c.names x ≡ Some s → is_plain_sort s ≡ false → (st.split ≡ true → sc.is_local x ≡ true) → st.split ≡ false
  whole x s is many local = by st.split refl
    where
      by : (b : Bool) → st.split ≡ b → st.split ≡ false
      by false same = same
      by true same = never (sym many ∙ seen.plain same x s is (local same))

  -- A name where a variable has to be stands for one of seven sorts. It has no index, or one at most where it has elements; in a split procedure
  -- these are a pointer's, and nothing is passed by reference.
  pub variable_cases : (x : List ℕ) (given : ℕ) (at : At) → variable_faults sc x given at ≡ [] → (P : Option Sort → Type 0)
      → ((t : Kind) (own : Bool) → (given == 0) ≡ true → P (Some (n.simple t own)))
      → ((t : Kind) → (given == 0) ≡ true → P (Some (n.value t)))
      → ((t : Kind) → (given == 0) ≡ true → st.split ≡ false → P (Some (n.by_reference t)))
      → ((t : Kind) (own : Bool) → nat_le given 1 ≡ true → P (Some (n.pointer t own)))
      → ((t : Kind) (own : Bool) (low high : ℤ) → nat_le given 1 ≡ true → st.split ≡ false → P (Some (n.array t own low high)))
      → ((t : Kind) (own : Bool) (base : List ℕ) → nat_le given 1 ≡ true → st.split ≡ false → P (Some (n.view t own base)))
      → ((t : Kind) → nat_le given 1 ≡ true → st.split ≡ false → P (Some (n.array_parameter t)))
      → P (c.names x)
  variable_cases x given at none P simple value reference pointer array view passed = by (c.names x) refl none
    where
      fits : (s : Sort) → unless (index_fits (Some s) given) 3 at ++ split_use sc x at ≡ [] → index_fits (Some s) given ≡ true
      fits s none = unless_none (index_fits (Some s) given) 3 at (left_none (unless (index_fits (Some s) given) 3 at) (split_use sc x at) none)

      local : (s : Sort) → unless (index_fits (Some s) given) 3 at ++ split_use sc x at ≡ [] → st.split ≡ true → sc.is_local x ≡ true
      local s none split =
          implies st.split (sc.is_local x)
          (unless_none (not st.split || sc.is_local x) 27 at (right_none (unless (index_fits (Some s) given) 3 at) (split_use sc x at) none)) split

      by : (o : Option Sort) → c.names x ≡ o → variable_by sc x (variable_kind o) o given at ≡ [] → P o
      by None is none = clash (fault 1 at) [] none
      by (Some (n.simple t own)) is none = simple t own (fits (n.simple t own) none)
      by (Some (n.array t own low high)) is none =
          array t own low high (fits (n.array t own low high) none) (whole x (n.array t own low high) is refl (local (n.array t own low high) none))
      by (Some (n.view t own base)) is none =
          view t own base (fits (n.view t own base) none) (whole x (n.view t own base) is refl (local (n.view t own base) none))
      by (Some (n.pointer t own)) is none = pointer t own (fits (n.pointer t own) none)
      by (Some (n.value t)) is none = value t (fits (n.value t) none)
      by (Some (n.by_reference t)) is none =
          reference t (fits (n.by_reference t) none) (whole x (n.by_reference t) is refl (local (n.by_reference t) none))
      by (Some (n.array_parameter t)) is none =
          passed t (fits (n.array_parameter t) none) (whole x (n.array_parameter t) is refl (local (n.array_parameter t) none))
      by (Some (n.equate v)) is none = clash (fault 3 at) [] none
      by (Some n.label) is none = clash (fault 3 at) [] none
      by (Some (n.intrinsic i)) is none = clash (fault 3 at) [] none
      by (Some (n.procedure p)) is none = clash (fault 3 at) [] none
      by (Some (n.subroutine p)) is none = clash (fault 3 at) [] none
      by (Some n.unknown) is none = never (seen.known x n.unknown is)

  -- ---- 2. its place is seen

  -- it is a variable
  pub variable_is : (x : List ℕ) (given : ℕ) (at : At) → variable_faults sc x given at ≡ [] → is_some (variable_kind (c.names x)) ≡ true
  variable_is x given at none =
      variable_cases x given at none (λ o. is_some (variable_kind o) ≡ true) (λ t own fits. refl) (λ t fits. refl) (λ t fits unsplit. refl) (λ t own fits. refl)
      (λ t own low high fits unsplit. refl) (λ t own base fits unsplit. refl) (λ t fits unsplit. refl)

  -- in a split procedure it is declared there
  pub variable_local : (x : List ℕ) (given : ℕ) (at : At) → variable_faults sc x given at ≡ [] → st.split ≡ true → sc.is_local x ≡ true
  variable_local x given at none split = by (variable_kind (c.names x)) (variable_is x given at none) none
    where
      by : (o : Option Kind) → is_some o ≡ true → variable_by sc x o (c.names x) given at ≡ [] → sc.is_local x ≡ true
      by None is none = never is
      by (Some t) is none =
          implies st.split (sc.is_local x)
          (unless_none (not st.split || sc.is_local x) 27 at (right_none (unless (index_fits (c.names x) given) 3 at) (split_use sc x at) none)) split

  -- an item or a parameter that is used is seen
  pub item_seen : (x : List ℕ) (s : Sort) → c.names x ≡ Some s → (is_item s || is_passed s) ≡ true → is_some (variable_kind (Some s)) ≡ true
      → (st.split ≡ true → sc.is_local x ≡ true) → (a : At) (k : ℕ) (target : Bool) → UseAllowed may c (use_of x a k target)
      → has_seen st k (c.places x) ≡ true
  item_seen x s is item kind local a k target u = by (c.places x) refl (seen.placed x s is item)
    where
      by : (o : Option Place) → c.places x ≡ o → is_some o ≡ true → has_seen st k o ≡ true
      by None there some = never some
      by (Some p) there some =
          near_seen st k p (seen.near x p there) (λ split. seen.framed split x s p is item (local split) there)
          (λ j beneath. u.reach (or_right target (is_some (variable_kind (c.names x))) (ap (λ (q : Option Sort). is_some (variable_kind q)) is ∙ kind)) j
          (there ∙ ap Some beneath))

  pub variable_seen : (x : List ℕ) (given : ℕ) (at : At) → variable_faults sc x given at ≡ [] → (a : At) (k : ℕ) (target : Bool)
      → UseAllowed may c (use_of x a k target) → has_seen st k (c.places x) ≡ true
  variable_seen x given at none a k target u =
      variable_cases x given at none (λ o. c.names x ≡ o → has_seen st k (c.places x) ≡ true) (λ t own fits is. one (n.simple t own) is refl refl)
      (λ t fits is. one (n.value t) is refl refl) (λ t fits unsplit is. one (n.by_reference t) is refl refl) (λ t own fits is. one (n.pointer t own) is refl refl)
      (λ t own low high fits unsplit is. one (n.array t own low high) is refl refl) (λ t own base fits unsplit is. one (n.view t own base) is refl refl)
      (λ t fits unsplit is. one (n.array_parameter t) is refl refl) refl
    where
      one : (s : Sort) → c.names x ≡ Some s → (is_item s || is_passed s) ≡ true → is_some (variable_kind (Some s)) ≡ true → has_seen st k (c.places x) ≡ true
      one s is item kind = item_seen x s is item kind (variable_local x given at none) a k target u

  -- it has one index at most
  pub variable_few : (x : List ℕ) (given : ℕ) (at : At) → variable_faults sc x given at ≡ [] → nat_le given 1 ≡ true
  variable_few x given at none =
      variable_cases x given at none (λ o. nat_le given 1 ≡ true) (λ t own fits. no_more fits) (λ t fits. no_more fits) (λ t fits unsplit. no_more fits)
      (λ t own fits. fits) (λ t own low high fits unsplit. fits) (λ t own base fits unsplit. fits) (λ t fits unsplit. fits)
    where
      no_more : (given == 0) ≡ true → nat_le given 1 ≡ true
      no_more is = le-leb given 1 (omega (arith, eqb-true given 0 is))
