-- A procedure whose name no other has is the one of that name.
use Rattle.std.proofs.Common.{◌≡◌, ℕ, Bool, true, false, List, [], ◌∷◌, Some, refl, sym, ap, subst, ◌∙◌}
use Rattle.std.specs.Prelude.{◌||◌, not, slice_get, if◌then◌else◌}
use Rattle.std.proofs.lemmas.Bool.{and_parts, false≢true, not-true}
use Rattle.spl_routines.specs.spl_meaning.Names.{same_name}
use Rattle.spl_routines.specs.spl_meaning.Tables.{Source}
use Rattle.spl_routines.specs.spl_meaning.Limits.{joined}
use Rattle.spl_routines.specs.spl_meaning.Bodies.{Named, body_named, program_of}
use Rattle.spl_routines.specs.spl_scopes.Scopes.{Placed, first_reached, placed_units, routine_bodies}
use Rattle.spl_routines.proofs.spl_scopes_proofs.ProgramLaws.{procedures_of_units}
use Rattle.spl_routines.proofs.mpe_segmenter_proofs.PartLemmas.{equal_is}
use Rattle.spl_routines.proofs.mpe_segmenter_proofs.NameLemmas.{same_self}
use Rattle.spl_routines.specs.Among.{IsIn, at_front, behind}
use Rattle.spl_routes.specs.Unique.{has_named, are_apart, are_unique}
use Rattle.spl_routines.proofs.ListLemmas.{in_left, in_right, in_place}

-- what is in one of some lists is in all of them
in_joined : {A B : Type 0} (f : A → List B) (x : A) (y : B) (xs : List A) → IsIn x xs → IsIn y (f x) → IsIn y (joined f xs)
in_joined f x y [] k has = elim k [ ]
in_joined f x y (z ∷ xs) (at_front same) has = in_left y (f z) (joined f xs) (subst (λ w. IsIn y (f w)) same has)
in_joined f x y (z ∷ xs) (behind k) has = in_right y (f z) (joined f xs) (in_joined f x y xs k has)

or_first : (a b : Bool) → a ≡ true → (a || b) ≡ true
or_first true b e = refl
or_first false b e = absurd (false≢true e)

or_second : (a b : Bool) → b ≡ true → (a || b) ≡ true
or_second true b e = refl
or_second false b e = e

-- one of some procedures has its name
has_its : (b : Named) (bs : List Named) → IsIn b bs → has_named b.name bs ≡ true
has_its b [] k = elim k [ ]
has_its b (y ∷ bs) (at_front same) =
    or_first (same_name b.name y.name) (has_named b.name bs) (ap (λ (z : Named). same_name b.name z.name) (sym same) ∙ same_self b.name)
has_its b (y ∷ bs) (behind k) = or_second (same_name b.name y.name) (has_named b.name bs) (has_its b bs k)

-- where no two have the same, it is the first of its name
first_named : (b : Named) (bs : List Named) → are_apart bs ≡ true → IsIn b bs → body_named bs b.name ≡ Some b.body
first_named b [] apart k = elim k [ ]
first_named b (y ∷ bs) apart (at_front same) =
    ap (λ (c : Bool). if c then Some y.body else body_named bs b.name) (ap (λ (z : Named). same_name b.name z.name) (sym same) ∙ same_self b.name)
    ∙ ap (λ (z : Named). Some z.body) (sym same)
first_named b (y ∷ bs) apart (behind k) = by (same_name b.name y.name) refl (first_named b bs two.1 k) where
  two : (not (has_named y.name bs) ≡ true) × (are_apart bs ≡ true)
  two = and_parts (not (has_named y.name bs)) (are_apart bs) apart

  by : (c : Bool) → same_name b.name y.name ≡ c → body_named bs b.name ≡ Some b.body → (if c then Some y.body else body_named bs b.name) ≡ Some b.body
  by true same rest =
      let its : has_named y.name bs ≡ true = ap (λ (x : List ℕ). has_named x bs) (sym (equal_is b.name y.name same)) ∙ has_its b bs k in
      absurd (false≢true (sym (not-true (has_named y.name bs) two.0) ∙ its))
  by false same rest = rest

pub name_means : (us : List Source) → are_unique us ≡ true → (q : Placed) → IsIn q (placed_units (first_reached us) us) → (i : ℕ) (b : Named)
    → slice_get (routine_bodies q) i ≡ Some b → body_named (program_of us).procedures b.name ≡ Some b.body
name_means us unique q among i b there =
    first_named b (program_of us).procedures unique
    (subst (λ (bs : List Named). IsIn b bs) (sym (procedures_of_units us))
    (in_joined routine_bodies q b (placed_units (first_reached us) us) among (in_place b (routine_bodies q) i there)))
