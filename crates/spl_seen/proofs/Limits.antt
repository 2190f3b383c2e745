-- Units that pass no limit have no subroutine that passes one.
use Rattle.std.proofs.Common.{◌≡◌, ℕ, zero, suc, Bool, true, false, if◌then◌else◌, None, List, [], ◌∷◌, ◌++◌, Some, refl, subst}
use Rattle.std.specs.List.{slice_get}
use Rattle.spl_ruled_bodies.specs.spl_meaning.Names.{find}
use Rattle.spl_ruled_bodies.specs.spl_meaning.Tables.{routines_of, routine_names, routine_subroutines, unit_table, unit_subroutines}
use Rattle.spl_ruled_bodies.specs.spl_meaning.Faults.{fault, is_before}
use Rattle.spl_ruled_bodies.specs.spl_meaning.Limits.{Full, first_among, joined, heading_limits, local_limits, subroutine_limits, routine_limits, unit_limits, global_limits, all_limits}
use Rattle.spl_ruled_bodies.specs.spl_places.Programs.{Each}
use Rattle.spl_ruled_bodies.proofs.spl_sound_names_proofs.Tables.{left_none, right_none}
use Rattle.spl_seen.specs.Laws.{SubroutinesPassNone}

-- a limit that is passed is told
still_some : (g : Full) (fs : List Full) → first_among (Some g) fs ≡ None → ⊥
still_some g [] is = cc
still_some g (f ∷ fs) is = by (λ h. still_some h fs) (is_before (fault f.limit f.at) (fault g.limit g.at)) is
  where
    by : ((h : Full) → first_among (Some h) fs ≡ None → ⊥) → (b : Bool) → first_among (if b then Some f else Some g) fs ≡ None → ⊥
    by others true e = others f e
    by others false e = others g e

-- where none is told, none is passed
none_first : (fs : List Full) → first_among None fs ≡ None → fs ≡ []
none_first [] is = refl
none_first (f ∷ fs) is = absurd (still_some f fs is)

same : {A : Type 0} (a b : A) → Some a ≡ Some b → a ≡ b
same a b e = cc

-- each of some gives nothing where all of them give nothing
pub each_none : {A B : Type 0} (f : A → List B) (xs : List A) → joined f xs ≡ [] → Each (λ x. f x ≡ []) xs
each_none f [] none = tt
each_none f (x ∷ xs) none = (left_none (f x) (joined f xs) none, each_none f xs (right_none (f x) (joined f xs) none))

-- one of some, by its place
pub each_at : {A : Type 0} (P : A → Type 0) (xs : List A) → Each P xs → (i : ℕ) (x : A) → slice_get xs i ≡ Some x → P x
each_at P [] all i x is = cc
each_at P (y ∷ ys) all zero x is = subst P (same y x is) all.0
each_at P (y ∷ ys) all (suc i) x is = each_at P ys all.1 i x is

-- the limits of all units are those of their procedures and subroutines, among others
pub none_passed : SubroutinesPassNone
none_passed us limits i u is =
    let all = right_none (global_limits us) (joined unit_limits us) (none_first (all_limits us) limits) in
    let one = each_at (λ v. unit_limits v ≡ []) us (each_none unit_limits us all) i u is in
    let procedures = joined routine_limits (routines_of u) in
    let inners = joined (subroutine_limits (find (unit_table u))) (unit_subroutines u) in (
      each_none (subroutine_limits (find (unit_table u))) (unit_subroutines u) (right_none procedures inners one),
      λ j r there.
          let here = each_at (λ q. routine_limits q ≡ []) (routines_of u) (each_none routine_limits (routines_of u) (left_none procedures inners one)) j r there in
          each_none (subroutine_limits (routine_names r)) (routine_subroutines r)
          (right_none (heading_limits r.heading ++ local_limits r) (joined (subroutine_limits (routine_names r)) (routine_subroutines r)) here),
    )
