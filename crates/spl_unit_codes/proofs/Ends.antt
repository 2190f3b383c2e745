-- What codes become, code by code.
use Rattle.std.proofs.Common.{◌≡◌, ◌⊎◌, inl, inr, ℕ, suc, List, [], ◌∷◌, ◌++◌, length, Option, Some, refl, sym, ap, subst, ◌∙◌}
use Rattle.std.specs.List.{slice_get}
use Rattle.spl_branch.specs.declared.modules.Module.{Module}
use Rattle.spl_unit_codes.specs.declared.growing.Growing.{Growing}
use Rattle.spl_branch.specs.Codes.{IsComplete}
use Rattle.spl_unit_codes.specs.Slots.{AreComplete, IsSlot, AreSlots}
use Rattle.spl_unit_codes.proofs.ListWalks.{pushed_cases, old_stays, last_there, one_longer}

-- what one code more becomes
pub slots_more : (parts : List Growing) (slots new : List (Option Module)) (x : Growing) (o : Option Module) → AreSlots parts slots → IsSlot x.code o
    → new ≡ slots ++ o ∷ [] → AreSlots (parts ++ x ∷ []) new
slots_more parts slots new x o k one push = subst (λ ss. AreSlots (parts ++ x ∷ []) ss) (sym push) (record {
  number = one_longer slots o ∙ ap suc k.number ∙ sym (one_longer parts x);
  each = λ g y e. by g y (pushed_cases parts x g y e);
})
  where
    by : (g : ℕ) (y : Growing) → (slice_get parts g ≡ Some y) ⊎ ((g ≡ length parts) × (x ≡ y))
        → (p : Option Module) × (slice_get (slots ++ o ∷ []) g ≡ Some p) × IsSlot y.code p
    by g y (inl h) = let old = k.each g y h in (old.0, old_stays slots o g old.0 old.1, old.2)
    by g y (inr h) = (
      o,
      ap (λ i. slice_get (slots ++ o ∷ []) i) (h.0 ∙ sym k.number) ∙ last_there slots o,
      subst (λ (z : Growing). IsSlot z.code o) h.1 one,
    )

-- the code that is next
next_there : (before rest : List Growing) (x : Growing) → slice_get (before ++ x ∷ rest) (length before) ≡ Some x
next_there [] rest x = refl
next_there (y ∷ before) rest x = next_there before rest x

pub complete_here : (parts before left rest : List Growing) (x : Growing) → AreComplete parts → before ++ left ≡ parts → left ≡ x ∷ rest → IsComplete x.code
complete_here parts before left rest x all is next =
    all (length before) x
    (ap (λ xs. slice_get xs (length before)) (sym is ∙ ap (λ xs. before ++ xs) next) ∙ next_there before rest x)
