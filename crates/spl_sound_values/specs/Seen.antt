-- What is known of the names of a body in units that break no rule and pass no limit: what its parts may count on.
use Rattle.std.specs.Prelude.{◌≡◌, ℕ, ◌+◌, ◌≤◌, ◌||◌, Bool, true, false, List, Some, is_some}
use Rattle.std.specs.List.{list_all}
use Rattle.spl_near_places.specs.hp_word.declared.intrinsics.Intrinsic.{Intrinsic}
use Rattle.spl_near_places.specs.spl_meaning.Names as n
use Rattle.spl_near_places.specs.spl_meaning.Names.{Sort, Profile, intrinsic_named}
use Rattle.spl_near_places.specs.spl_meaning.Kinds.{variable_kind, callable}
use Rattle.spl_near_places.specs.spl_meaning.Limits.{Use, most_reach}
use Rattle.spl_near_places.specs.spl_meaning.Places.{Place, below_return}
use Rattle.spl_near_places.specs.spl_meaning.References.{Setting}
use Rattle.spl_near_places.specs.spl_meaning.Values.{Who, procedure, subroutine}
use Rattle.spl_near_places.specs.spl_meaning.ExpressionRules as rule
use Rattle.spl_near_places.specs.spl_code.Calls.{Scope}
use Rattle.spl_covered.specs.spl_tops.Seen.{is_fixed}
use Rattle.spl_near_places.specs.spl_sound_names.Known.{is_known, is_item, is_passed}
use Rattle.spl_near_places.specs.Near.{IsNear, is_framed}

-- what may be declared in a split procedure: no array, and no parameter by reference
abbrev pub is_plain_sort : Sort → Bool
is_plain_sort (n.array k own low high) = false
is_plain_sort (n.view k own base) = false
is_plain_sort (n.by_reference k) = false
is_plain_sort (n.array_parameter k) = false
is_plain_sort s = true

-- What is known of the names that a body's statements see, where its code is made with the names and places of `c`, its statements stand in the
-- setting `st`, its rules are those of the scope `sc`, and its calls may be those that `may` tells.
pub record Seen (may : Who → Bool) (c : Scope) (st : Setting) (sc : rule.Scope) : Type 0 where
  pub names : sc.names ≡ c.names
  pub split : sc.split ≡ st.split
  -- what names stand for is known
  pub known : (x : List ℕ) (s : Sort) → c.names x ≡ Some s → is_known s ≡ true
  -- each item and each parameter has a place
  pub placed : (x : List ℕ) (s : Sort) → c.names x ≡ Some s → (is_item s || is_passed s) ≡ true → is_some (c.places x) ≡ true
  -- which the modes of the machine reach
  pub near : (x : List ℕ) (p : Place) → c.places x ≡ Some p → IsNear st p
  -- no item is counted from the top, as parameters and results of subroutines are
  pub fixed : (x : List ℕ) (s : Sort) (p : Place) → c.names x ≡ Some s → is_item s ≡ true → c.places x ≡ Some p → is_fixed p ≡ true
  -- parameters are declared in the procedure around
  pub local : (x : List ℕ) (s : Sort) → c.names x ≡ Some s → is_passed s ≡ true → sc.is_local x ≡ true
  -- in a split procedure what is declared there stands in its frame, and has no elements but those of a pointer
  pub framed : st.split ≡ true → (x : List ℕ) (s : Sort) (p : Place) → c.names x ≡ Some s → (is_item s || is_passed s) ≡ true → sc.is_local x ≡ true
      → c.places x ≡ Some p → is_framed p ≡ true
  pub plain : st.split ≡ true → (x : List ℕ) (s : Sort) → c.names x ≡ Some s → sc.is_local x ≡ true → is_plain_sort s ≡ true
  -- each parameter of what can be called has a kind
  pub kinds : (x : List ℕ) (p : Profile) → callable (c.names x) ≡ Some p → list_all (λ f. is_some f.kind) p.formals ≡ true
  -- an intrinsic has its own name
  pub intrinsics : (x : List ℕ) (i : Intrinsic) → c.names x ≡ Some (n.intrinsic i) → intrinsic_named x ≡ Some i
  -- a subroutine has an entry and may be called
  pub entries : (x : List ℕ) (p : Profile) → c.names x ≡ Some (n.subroutine p) → is_some (c.subroutines x) ≡ true
  pub subroutines : (x : List ℕ) (p : Profile) → c.names x ≡ Some (n.subroutine p) → may (subroutine x) ≡ true

-- What is known of one use of a name: a word below the return word is within reach of the top, and a procedure that is called may be called.
pub record UseAllowed (may : Who → Bool) (c : Scope) (u : Use) : Type 0 where
  pub reach : (u.is_target || is_some (variable_kind (c.names u.name))) ≡ true → (k : ℕ) → c.places u.name ≡ Some (below_return k)
      → u.waiting + k ≤ most_reach
  pub called : (p : Profile) → c.names u.name ≡ Some (n.procedure p) → u.is_target ≡ false → may (procedure u.name) ≡ true
