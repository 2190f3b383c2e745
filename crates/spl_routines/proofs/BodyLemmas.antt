-- Units of a program, and the bodies of their procedures by their numbers.
use Rattle.std.proofs.Common.{◌≡◌, ℕ, zero, suc, ◌+◌, true, List, [], ◌∷◌, Option, Some, None, refl, sym, ap, subst}
use Rattle.std.specs.Prelude.{slice_get}
use Rattle.spl_carries.specs.spl_meaning.Names.{Table}
use Rattle.spl_carries.specs.spl_meaning.Tables.{Source, Routine, routine_table}
use Rattle.spl_carries.specs.spl_meaning.Places.{Place, list_words, list_array_words}
use Rattle.spl_carries.specs.spl_meaning.Bodies.{Named, Reached, reached_behind, named_bodies}
use Rattle.spl_label_marks.specs.spl_places.Programs.{Each}
use Rattle.spl_label_marks.specs.spl_scopes.Scopes.{Placed, placed_units}
use Rattle.spl_routines.specs.Among.{IsIn, at_front, behind}
use Rattle.spl_routines.proofs.ListLemmas.{one_there}

-- what holds of each unit holds of each that is placed
pub each_placed : (P : Source → Type 0) (at : Reached) (us : List Source) (q : Placed) → Each P us → IsIn q (placed_units at us) → P q.unit
each_placed P at [] q each k = elim k [ ]
each_placed P at (u ∷ us) q each (at_front e) = subst (λ (r : Placed). P r.unit) (sym e) each.0
each_placed P at (u ∷ us) q each (behind k) = each_placed P (reached_behind u at) us q each.1 k

-- the body of a unit's procedure
pub named_there : (globals : Table Place) (own arrays : ℕ) (rs : List Routine) (i : ℕ) (r : Routine) → slice_get rs i ≡ Some r
    → (b : Named) × (slice_get (named_bodies globals own arrays rs) i ≡ Some b) × (b.name ≡ r.heading.name)
named_there globals own arrays [] i r is = cc
named_there globals own arrays (x ∷ rs) zero r is = (_, refl, ap (λ (y : Routine). y.heading.name) (one_there x r is))
named_there globals own arrays (x ∷ rs) (suc i) r is =
    named_there globals (own + list_words true (routine_table x)) (arrays + list_array_words true (routine_table x)) rs i r is

-- and whose it is
pub named_of : (globals : Table Place) (own arrays : ℕ) (rs : List Routine) (i : ℕ) (b : Named) → slice_get (named_bodies globals own arrays rs) i ≡ Some b
    → (r : Routine) × (slice_get rs i ≡ Some r) × (b.name ≡ r.heading.name)
named_of globals own arrays [] i b is = cc
named_of globals own arrays (x ∷ rs) zero b is = (x, refl, sym (ap (λ (o : Option Named). name_in o) is)) where
  name_in : Option Named → List ℕ
  name_in None = []
  name_in (Some y) = y.name
named_of globals own arrays (x ∷ rs) (suc i) b is =
    named_of globals (own + list_words true (routine_table x)) (arrays + list_array_words true (routine_table x)) rs i b is
