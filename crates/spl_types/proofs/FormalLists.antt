-- Parameters alike, one by one.
use Rattle.std.proofs.Common.{ℕ, ◌≡◌, ◌<◌, ◌≤◌, ◌+◌, suc, Bool, true, false, List, [], ◌∷◌, map, length, get_or, drop, drop-cons, add-one, refl, sym, ap, ◌∙◌}
use Rattle.std.specs.Prelude.{◌&&◌}
use Rattle.std.proofs.lemmas.List.{drop_all, length-map}
use Rattle.spl_sound.specs.spl_meaning.Names.{Formal}
use Rattle.spl_sound.specs.spl_meaning.DeclarationRules.{same_formals}
use Rattle.spl_sorts.specs.declared.profiles.Formal as own
use Rattle.spl_sorts.specs.Profiles.{formal_of}
use Rattle.spl_types.specs.SameFormal.{same_formal}

-- lists of different lengths are not alike
differ : (fs gs : List Formal) → (length fs ≡ length gs → ⊥) → false ≡ same_formals fs gs
differ [] [] apart = absurd (apart refl)
differ [] (g ∷ gs) apart = refl
differ (f ∷ fs) [] apart = refl
differ (f ∷ fs) (g ∷ gs) apart = by (same_formal f g) (differ fs gs (λ e. apart (ap suc e)))
  where
    by : (b : Bool) → false ≡ same_formals fs gs → false ≡ (b && same_formals fs gs)
    by true h = h
    by false h = refl

pub lengths_differ : (fs gs : List own.Formal) → (length fs ≡ length gs → ⊥) → false ≡ same_formals (map formal_of fs) (map formal_of gs)
lengths_differ fs gs apart = differ (map formal_of fs) (map formal_of gs) (λ e. apart (sym (length-map fs formal_of) ∙ e ∙ length-map gs formal_of))

-- what is left behind so many of both
pub left : List own.Formal → List own.Formal → ℕ → Bool
left fs gs i = same_formals (map formal_of (drop i fs)) (map formal_of (drop i gs))

pub at_first : (fs gs : List own.Formal) → left fs gs 0 ≡ same_formals (map formal_of fs) (map formal_of gs)
unfolding left
at_first fs gs = refl

front : {X : Type 0} (xs : List X) (i : ℕ) (x : X) → i < length xs → x ≡ get_or xs i x → drop i xs ≡ x ∷ drop (i + 1) xs
front xs i x lt is = drop-cons xs i x lt ∙ ap (λ y. y ∷ drop (suc i) xs) (sym is) ∙ rw add-one refl

-- where both have one more, it is looked at
pub step : (fs gs : List own.Formal) (i : ℕ) (f g : own.Formal) → i < length fs → i < length gs → f ≡ get_or fs i f → g ≡ get_or gs i g
    → left fs gs i ≡ (same_formal (formal_of f) (formal_of g) && left fs gs (i + 1))
unfolding left
step fs gs i f g lt lu is it = rw (front fs i f lt is, front gs i g lu it) refl

-- at the end of both they are alike
pub both_end : (fs gs : List own.Formal) (i : ℕ) → length fs ≤ i → length gs ≤ i → left fs gs i ≡ true
unfolding left
both_end fs gs i l m = rw (drop_all i fs l, drop_all i gs m) refl

pub ruleset formal_lists = (lengths_differ, step, at_first, both_end)
