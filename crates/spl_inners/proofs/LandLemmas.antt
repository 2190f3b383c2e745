-- Jumps of the subroutine that a body means by a name.
use Rattle.std.proofs.Common.{◌≡◌, ℕ, zero, suc, Bool, true, false, List, [], ◌∷◌, Some, ap, subst, ◌∙◌}
use Rattle.std.specs.Prelude.{slice_get, if◌then◌else◌}
use Rattle.spl_routes.specs.spl_meaning.Names.{same_name}
use Rattle.spl_routes.specs.spl_meaning.Tables.{routines_of, Subroutine, subroutine_named}
use Rattle.spl_routes.specs.spl_places.Programs.{Each}
use Rattle.spl_routes.specs.spl_scopes.Entries.{main, routine}
use Rattle.spl_routes.specs.spl_sound_jumps.Laws.{LandsInInner, LandsInInnersOf}
use Rattle.spl_routes.proofs.spl_routines_proofs.ListLemmas.{one_there}
use Rattle.spl_inners.specs.Laws.{InnersLand}
use Rattle.spl_inners.proofs.BodyLemmas.{main_has, of_routine}

-- what holds of each holds of the one at a place, and of the one of a name
each_at : {A : Type 0} (P : A → Type 0) (xs : List A) (i : ℕ) (x : A) → Each P xs → slice_get xs i ≡ Some x → P x
each_at P [] i x each is = cc
each_at P (y ∷ xs) zero x each is = subst P (one_there y x is) each.0
each_at P (y ∷ xs) (suc i) x each is = each_at P xs i x each.1 is

each_named : (P : Subroutine → Type 0) (ss : List Subroutine) (x : List ℕ) (s : Subroutine) → Each P ss → subroutine_named ss x ≡ Some s → P s
each_named P [] x s each is = cc
each_named P (y ∷ ss) x s each is = by (same_name x y.heading.name) is (λ f. each_named P ss x s each.1 f) where
  by : (b : Bool) → (if b then Some y else subroutine_named ss x) ≡ Some s → (subroutine_named ss x ≡ Some s → P s) → P s
  by true e rest = subst P (one_there y s e) each.0
  by false e rest = rest e

pub inners_land : InnersLand
inners_land q land main b its x s is =
    each_named LandsInInner b.subroutines x s (subst (λ (ss : List Subroutine). Each LandsInInner ss) (main_has q b its) land.0) is
inners_land q land (routine i) b its x s is =
    let r = of_routine q i b its in
    let all = each_at LandsInInnersOf (routines_of q.unit) i r.routine' land.1 r.listed in
    each_named LandsInInner b.subroutines x s
    (subst (λ (ss : List Subroutine). Each LandsInInner ss) (r.has ∙ ap (λ y. y.subroutines) r.body) all) is
