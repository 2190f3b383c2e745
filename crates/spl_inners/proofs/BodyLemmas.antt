-- The subroutines of the bodies of a unit.
use Rattle.std.proofs.Common.{◌≡◌, ℕ, zero, suc, ◌+◌, Bool, true, false, List, [], ◌∷◌, Option, Some, None, refl, ap}
use Rattle.std.specs.Prelude.{slice_get, option_map, if◌then◌else◌}
use Rattle.spl_routes.specs.spl_meaning.Names.{Table}
use Rattle.spl_routes.specs.spl_meaning.Tables.{Routine, routines_of, routine_table, routine_subroutines, Subroutine, unit_subroutines}
use Rattle.spl_routes.specs.spl_meaning.Places.{Place, list_words, list_array_words}
use Rattle.spl_routes.specs.spl_meaning.Bodies.{Body, Named, named_bodies, main_body}
use Rattle.spl_routes.specs.spl_scopes.Entries.{main, routine}
use Rattle.spl_routes.specs.spl_scopes.Scopes.{Placed, global_places, routine_bodies, outer_body}
use Rattle.spl_routes.proofs.spl_routines_proofs.ListLemmas.{one_there}

-- of a main body: those of its unit
pub main_has : (q : Placed) (b : Body) → outer_body q main ≡ Some b → unit_subroutines q.unit ≡ b.subroutines
main_has q b is = by q.unit.subprogram is where
  by : (c : Bool) → (if c then None else Some (main_body (global_places q) q.unit)) ≡ Some b → unit_subroutines q.unit ≡ b.subroutines
  by true e = cc
  by false e = ap (λ (y : Body). y.subroutines) (one_there (main_body (global_places q) q.unit) b e)

-- of a procedure: those of its list
named_has : (globals : Table Place) (own arrays : ℕ) (rs : List Routine) (i : ℕ) (b : Named) → slice_get (named_bodies globals own arrays rs) i ≡ Some b
    → (r : Routine) × (slice_get rs i ≡ Some r) × (routine_subroutines r ≡ b.body.subroutines)
named_has globals own arrays [] i b is = cc
named_has globals own arrays (x ∷ rs) zero b is = (x, refl, ap (λ (o : Option Named). in_body o) is) where
  in_body : Option Named → List Subroutine
  in_body None = []
  in_body (Some y) = y.body.subroutines
named_has globals own arrays (x ∷ rs) (suc i) b is =
    named_has globals (own + list_words true (routine_table x)) (arrays + list_array_words true (routine_table x)) rs i b is

-- the procedure whose body it is, and its list
pub record OfRoutine (q : Placed) (i : ℕ) (b : Body) : Type 0 where
  pub named : Named
  pub there : slice_get (routine_bodies q) i ≡ Some named
  pub body : named.body ≡ b
  pub routine' : Routine
  pub listed : slice_get (routines_of q.unit) i ≡ Some routine'
  pub has : routine_subroutines routine' ≡ named.body.subroutines

pub of_routine : (q : Placed) (i : ℕ) (b : Body) → outer_body q (routine i) ≡ Some b → OfRoutine q i b
of_routine q i b is = by (slice_get (routine_bodies q) i) refl is where
  by : (o : Option Named) → slice_get (routine_bodies q) i ≡ o → option_map (λ (y : Named). y.body) o ≡ Some b → OfRoutine q i b
  by None there e = cc
  by (Some n) there e =
      let r = named_has (global_places q) q.at.own q.at.own_arrays (routines_of q.unit) i n there in
      record { named = n; there = there; body = one_there n.body b e; routine' = r.0; listed = r.1; has = r.2 }
