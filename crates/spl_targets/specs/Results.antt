-- Results that are assigned: on the left of := the name of a procedure or a subroutine means the result of the body, or of one around it.
use Rattle.std.specs.Prelude.{◌≡◌, ℕ, ◌&&◌, Bool, true, false, List, Option, Some, None}
use Rattle.spl_covered.specs.spl_tree.declared.expressions.Kind.{Kind}
use Rattle.spl_covered.specs.spl_tree.declared.expressions.Kind.TheVariants as kind
use Rattle.spl_covered.specs.spl_meaning.Names as n
use Rattle.spl_covered.specs.spl_meaning.Names.{Sort}
use Rattle.spl_covered.specs.spl_meaning.Places.{Place}
use Rattle.spl_covered.specs.spl_meaning.References.{Setting}
use Rattle.spl_covered.specs.spl_code.Calls.{Scope}
use Rattle.spl_covered.specs.spl_names.Names.{has_seen}

-- the kind of the result of what a name stands for
abbrev pub result_kind : Option Sort → Option Kind
result_kind (Some (n.procedure p)) = p.result
result_kind (Some (n.subroutine p)) = p.result
result_kind sort = None

-- kinds that are one
abbrev pub same_kind : Kind → Kind → Bool
same_kind kind.Integer kind.Integer = true
same_kind kind.Logical kind.Logical = true
same_kind kind.Byte kind.Byte = true
same_kind kind.Double kind.Double = true
same_kind t u = false

-- such a name, by the kind of its result: that of the result which it means in the body, at a place that is seen
abbrev pub is_result : Setting → ℕ → Option Kind → Option (Kind × Place) → Option Place → Bool
is_result st k (Some t) (Some r) place = same_kind t r.0 && has_seen st k place
is_result st k o r place = false

-- Where a body's statements are made with the places of this scope, a name that means a result has that result's place.
pub record ResultsAgree (c : Scope) (results : List ℕ → Option (Kind × Place)) : Type 0 where
  pub agree : (x : List ℕ) (t r : Kind) (place : Place) → result_kind (c.names x) ≡ Some t → results x ≡ Some (r, place) → c.places x ≡ Some place
