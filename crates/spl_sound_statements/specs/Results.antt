-- What is known of the results that a body may assign, in units that break no rule and pass no limit.
use Rattle.std.specs.Prelude.{◌≡◌, ℕ, Bool, true, false, List, Option, Some, None, is_some}
use Rattle.spl_sound_values.specs.spl_tree.declared.expressions.Kind.{Kind}
use Rattle.spl_sound_values.specs.spl_meaning.Places.{Place}
use Rattle.spl_sound_values.specs.spl_meaning.References.{Setting}
use Rattle.spl_sound_values.specs.spl_meaning.ExpressionRules as rule
use Rattle.spl_sound_values.specs.spl_meaning.StatementRules.{has_name}
use Rattle.spl_sound_values.specs.spl_code.Calls.{Scope}
use Rattle.spl_stores.specs.spl_targets.Results.{result_kind, same_kind}
use Rattle.spl_sound_values.specs.spl_near_places.Near.{is_framed}

-- a result that there is, of this kind
abbrev pub is_of_kind : Kind → Option (Kind × Place) → Bool
is_of_kind t (Some r) = same_kind t r.0
is_of_kind t None = false

-- A name of a procedure or a subroutine with a result, where the rules let it be assigned, means a result of that kind in the body, and has a place,
-- which is in the frame of a split procedure.
pub record ResultsSeen (c : Scope) (st : Setting) (sc : rule.Scope) (results : List ℕ → Option (Kind × Place)) : Type 0 where
  pub means : (x : List ℕ) (t : Kind) → has_name sc.results x ≡ true → result_kind (c.names x) ≡ Some t → is_of_kind t (results x) ≡ true
  pub placed : (x : List ℕ) (t : Kind) → has_name sc.results x ≡ true → result_kind (c.names x) ≡ Some t → is_some (c.places x) ≡ true
  pub framed : st.split ≡ true → (x : List ℕ) (t : Kind) (p : Place) → has_name sc.results x ≡ true → result_kind (c.names x) ≡ Some t
      → c.places x ≡ Some p → is_framed p ≡ true
