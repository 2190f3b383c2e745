-- The procedures of units that break no rule, as bodies.
use Rattle.std.proofs.Common.{◌≡◌, ℕ, zero, suc, ◌+◌, true, List, [], ◌∷◌, Option, Some, None, refl, ap, subst}
use Rattle.std.specs.Prelude.{slice_get}
use Rattle.spl_routines.specs.spl_tree.StatementTrees.{Statements, statements}
use Rattle.spl_routines.specs.spl_meaning.Names.{Table}
use Rattle.spl_routines.specs.spl_meaning.Tables.{Routine, routines_of, routine_table}
use Rattle.spl_routines.specs.spl_meaning.Places.{Place, list_words, list_array_words}
use Rattle.spl_routines.specs.spl_meaning.Bodies.{Named, named_bodies}
use Rattle.spl_sound_jumps.specs.spl_places.Programs.{Each}
use Rattle.spl_routines.specs.spl_scopes.Scopes.{first_reached, global_places}
use Rattle.spl_sound_jumps.specs.Laws.{Lands, LandsInRoutine, LandsInRoutines, SoundRoutinesLand}
use Rattle.spl_routines.proofs.ListLemmas.{one_there}
use Rattle.spl_routines.proofs.BodyLemmas.{each_placed}
use Rattle.spl_routes.specs.Laws.{RoutinesLand}

-- what holds of each holds of the one at a place
each_at : {A : Type 0} (P : A → Type 0) (xs : List A) (i : ℕ) (x : A) → Each P xs → slice_get xs i ≡ Some x → P x
each_at P [] i x each is = cc
each_at P (y ∷ xs) zero x each is = subst P (one_there y x is) each.0
each_at P (y ∷ xs) (suc i) x each is = each_at P xs i x each.1 is

-- the statements of a procedure's body
statements_of : (globals : Table Place) (own arrays : ℕ) (rs : List Routine) (i : ℕ) (b : Named) → slice_get (named_bodies globals own arrays rs) i ≡ Some b
    → (r : Routine) × (slice_get rs i ≡ Some r) × (statements r.statements ≡ b.body.statements)
statements_of globals own arrays [] i b is = cc
statements_of globals own arrays (x ∷ rs) zero b is = (x, refl, same) where
  in_body : Option Named → Statements
  in_body None = statements x.statements
  in_body (Some y) = y.body.statements

  same : statements x.statements ≡ b.body.statements
  same = ap (λ (o : Option Named). in_body o) is
statements_of globals own arrays (x ∷ rs) (suc i) b is =
    statements_of globals (own + list_words true (routine_table x)) (arrays + list_array_words true (routine_table x)) rs i b is

pub bodies_land : SoundRoutinesLand → RoutinesLand
bodies_land law us sound q among i b there =
    let unit = each_placed LandsInRoutines (first_reached us) us q (law us sound) among in
    let r = statements_of (global_places q) q.at.own q.at.own_arrays (routines_of q.unit) i b there in
    subst Lands r.2 (each_at LandsInRoutine (routines_of q.unit) i r.0 unit r.1)
