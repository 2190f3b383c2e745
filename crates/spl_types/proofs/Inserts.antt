-- A look-up behind an insertion.
use Rattle.std.proofs.Common.{ℕ, ◌≡◌, rules, Bool, true, false, cond, nat_eq, List, [], ◌∷◌, map, Option, Some, None, refl, sym, ap, ◌∙◌}
use Rattle.std.specs.Prelude.{option_map, if◌then◌else◌}
use Rattle.std.specs.Map.{lookup}
use Rattle.std.specs.Cmp.Lexicographic.{same_text}
use lib.Pointwise.{pointwise}
use Rattle.arrayvec.specs.ArrayVec.{ArrayVec}
use Rattle.indexmap.specs.IndexMap.{insert_entry}
use Rattle.spl_sound.specs.spl_meaning.Names.{find, same_name}
use Rattle.spl_sorts.specs.declared.profiles.Profile.{Profile}
use Rattle.spl_types.specs.WaitingNames.{kept, entry_of, joined}

-- names that are one
is_itself : (x : List ℕ) → same_name x x ≡ true
is_itself x = search rules

same_as : (x y : List ℕ) → same_name x y ≡ true → x ≡ y
same_as x y e = same_text x y (sym e)

pub lookup_is : (es : List (ArrayVec ℕ × Option Profile)) (x : ArrayVec ℕ)
    → option_map kept (lookup (λ k. pointwise nat_eq x.items k.items) es) ≡ find (map entry_of es) x.items
lookup_is [] x = refl
lookup_is (e ∷ es) x = by (pointwise nat_eq x.items e.0.items) (lookup_is es x)
  where
    by : (b : Bool) → option_map kept (lookup (λ k. pointwise nat_eq x.items k.items) es) ≡ find (map entry_of es) x.items
        → option_map kept (cond b (Some e.1) (lookup (λ k. pointwise nat_eq x.items k.items) es)) ≡ cond b (Some (kept e.1)) (find (map entry_of es) x.items)
    by true h = refl
    by false h = h

-- what is kept for a name behind an insertion
pub inserted : (es : List (ArrayVec ℕ × Option Profile)) (x : ArrayVec ℕ) (v : Option Profile) (y : List ℕ)
    → joined (find (map entry_of (insert_entry (λ (j k : ArrayVec ℕ). pointwise nat_eq j.items k.items) es x v)) y)
    ≡ (if same_name y x.items then kept v else joined (find (map entry_of es) y))
inserted [] x v y = by (same_name y x.items)
  where
    by : (b : Bool) → joined (if b then Some (kept v) else None) ≡ (if b then kept v else None)
    by true = refl
    by false = refl
inserted (e ∷ es) x v y = by (same_name x.items e.0.items) (same_name y x.items) (same_name y e.0.items) refl refl refl (inserted es x v y)
  where
    more : List (ArrayVec ℕ × Option Profile)
    more = insert_entry (λ (j k : ArrayVec ℕ). pointwise nat_eq j.items k.items) es x v

    by : (b c d : Bool) → same_name x.items e.0.items ≡ b → same_name y x.items ≡ c → same_name y e.0.items ≡ d
        → joined (find (map entry_of more) y) ≡ (if c then kept v else joined (find (map entry_of es) y))
        → joined (find (map entry_of (if b then (e.0, v) ∷ es else e ∷ more)) y)
        ≡ (if c then kept v else joined (if d then Some (kept e.1) else find (map entry_of es) y))
    by true true true p q r h = rw r refl
    by true false false p q r h = rw r refl
    by true true false p q r h = cc (sym r ∙ ap (λ (t : List ℕ). same_name y t) (sym (same_as x.items e.0.items p)) ∙ q)
    by true false true p q r h = cc (sym q ∙ ap (λ (t : List ℕ). same_name y t) (same_as x.items e.0.items p) ∙ r)
    by false true true p q r h = cc (sym p ∙ ap (λ (t : List ℕ). same_name t e.0.items) (sym (same_as y x.items q)) ∙ r)
    by false false true p q r h = rw r refl
    by false true false p q r h = rw r h
    by false false false p q r h = rw r h

-- what is found behind references
pub found_kept : (o : Option (Option Profile)) → joined (option_map kept o) ≡ joined (option_map kept o)
found_kept o = refl
