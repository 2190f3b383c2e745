-- Modules that are taken out of slots along names: what is picked before some names, and then along them, is picked along all.
use Rattle.std.proofs.Common.{◌≡◌, ◌<◌, ◌≤◌, ℕ, ◌+◌, List, [], ◌∷◌, ◌++◌, map, drop, length, get_or, Option, Some, None, append_assoc, append-nil, sym, ap, subst, ◌∙◌}
use Rattle.std.specs.Prelude.{slice_set}
use Rattle.std.specs.List.{slice_get}
use Rattle.std.proofs.lemmas.List.{set-get_or}
use Rattle.std.proofs.lemmas.Option.{slice_get-get_or, slice_get_past}
use Rattle.spl_tree.specs.declared.names_and_places.Name.{Name}
use Rattle.spl_tree.specs.Views.{letters}
use Rattle.spl_branch.specs.declared.modules.Module.{Module}
use Rattle.spl_unit_codes.specs.Slots.{TakenAt, Taken, TakenFrom, Picked, PickedFrom}
use Rattle.spl_unit_codes.specs.Slots.{TakenAt as at}
use Rattle.spl_unit_codes.specs.Slots.{Picked as p}
use Rattle.spl_unit_codes.proofs.ListWalks.{onward, onward_end}

-- ---- one slot

-- the slot of a number has a module
pub taken_some : (number : Option ℕ) (g : ℕ) (slots : List (Option Module)) (slot left : Option Module) (m : Module) → number ≡ Some g → g < length slots
    → slot ≡ get_or slots g slot → slot ≡ Some m → left ≡ None → Taken number slots (slice_set slots g left) (m ∷ [])
taken_some number g slots slot left m is lt here full out =
    subst (λ (o : Option ℕ). Taken o slots (slice_set slots g left) (m ∷ [])) (sym is)
    (subst (λ (l : Option Module). TakenAt g (slice_get slots g) slots (slice_set slots g l) (m ∷ [])) (sym out)
    (subst (λ (o : Option (Option Module)). TakenAt g o slots (slice_set slots g None) (m ∷ []))
    (sym (slice_get-get_or slots g slot lt ∙ ap (λ s. Some s) (sym here ∙ full))) at.some))

-- it has none
pub taken_none : (number : Option ℕ) (g : ℕ) (slots : List (Option Module)) (slot left : Option Module) → number ≡ Some g → g < length slots
    → slot ≡ get_or slots g slot → slot ≡ None → left ≡ None → Taken number slots (slice_set slots g left) []
taken_none number g slots slot left is lt here empty out =
    let same : slice_set slots g left ≡ slots = ap (λ l. slice_set slots g l) (out ∙ sym empty ∙ here) ∙ set-get_or slots g slot in
    subst (λ (o : Option ℕ). Taken o slots (slice_set slots g left) []) (sym is)
    (subst (λ (ss : List (Option Module)). TakenAt g (slice_get slots g) slots ss []) (sym same)
    (subst (λ (o : Option (Option Module)). TakenAt g o slots slots []) (sym (slice_get-get_or slots g slot lt ∙ ap (λ s. Some s) (sym here ∙ empty))) at.empty))

-- there is no such slot
pub taken_past : (number : Option ℕ) (g : ℕ) (slots : List (Option Module)) → number ≡ Some g → length slots ≤ g → Taken number slots slots []
taken_past number g slots is le =
    subst (λ (o : Option ℕ). Taken o slots slots []) (sym is)
    (subst (λ (o : Option (Option Module)). TakenAt g o slots slots []) (sym (slice_get_past slots g le)) at.none)

-- ---- along names

-- modules were picked along the first names: with those that can be picked along the names left they are picked along all
pub record PickedSoFar (numbers : List ℕ → Option ℕ) (first now : List (Option Module)) (all left : List (List ℕ)) (before modules : List Module) : Type 0 where
  pub picked : List Module
  pub follow : modules ≡ before ++ picked
  pub onwards : (ns : List Module) → Picked numbers now left ns → Picked numbers first all (picked ++ ns)

pub picked_first : (numbers : List ℕ → Option ℕ) (slots : List (Option Module)) (names : List Name) (before : List Module)
    → PickedSoFar numbers slots slots (map letters names) (map letters (drop 0 names)) before before
picked_first numbers slots names before = record { picked = []; follow = sym (append-nil before); onwards = λ ns h. h }

-- one name more
pub picked_more : (numbers : List ℕ → Option ℕ) (first now new : List (Option Module)) (all : List (List ℕ)) (before modules more : List Module)
    → (names : List Name) (i : ℕ) (x : Name) (number : Option ℕ) → i < length names → x ≡ get_or names i x → number ≡ numbers (letters x)
    → TakenFrom number now new modules more
    → PickedSoFar numbers first now all (map letters (drop i names)) before modules
    → PickedSoFar numbers first new all (map letters (drop (i + 1) names)) before more
picked_more numbers first now new all before modules more names i x number lt is found one k = record {
  picked = k.picked ++ one.0;
  follow = one.1 ∙ ap (λ ms. ms ++ one.0) k.follow ∙ append_assoc before k.picked one.0;
  onwards = λ ns h.
      subst (λ ms. Picked numbers first all ms) (sym (append_assoc k.picked one.0 ns))
      (k.onwards (one.0 ++ ns) (subst (λ (xs : List (List ℕ)). Picked numbers now xs (one.0 ++ ns)) (sym (onward letters (λ xs. xs) names i x lt is))
      (p.more one.0 (subst (λ (o : Option ℕ). Taken o now new one.0) found one.2) h)));
}

-- all names
pub picked_all : (numbers : List ℕ → Option ℕ) (first now : List (Option Module)) (all : List (List ℕ)) (before modules : List Module) (names : List Name) (i : ℕ)
    → length names ≤ i → PickedSoFar numbers first now all (map letters (drop i names)) before modules → PickedFrom numbers first all before modules
picked_all numbers first now all before modules names i le k = (
  k.picked,
  k.follow,
  subst (λ ms. Picked numbers first all ms) (append-nil k.picked)
      (k.onwards [] (subst (λ (xs : List (List ℕ)). Picked numbers now xs []) (sym (onward_end letters (λ xs. xs) names i le)) p.none)),
)
