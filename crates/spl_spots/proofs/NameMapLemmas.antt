-- Look-ups in maps by names, and in lists behind them.
use Rattle.std.proofs.Common.{◌≡◌, ℕ, Bool, true, false, cond, nat_eq, List, [], ◌∷◌, ◌++◌, map, Option, Some, None, refl, ap, ◌∙◌}
use Rattle.std.specs.Prelude.{option_map, if◌then◌else◌}
use Rattle.std.specs.Map.{lookup}
use Rattle.std.proofs.lemmas.List.{map_push}
use lib.Pointwise.{pointwise}
use Rattle.arrayvec.specs.ArrayVec.{ArrayVec}
use Rattle.spl_sorts.specs.spl_meaning.Names.{Table, find, or_else, same_name}
use Rattle.spl_found.specs.OwnNames.{with_name}
use Rattle.spl_found.proofs.OwnNames.{find_pushed}
use Rattle.spl_spots.specs.NameMaps.{entry_of, shown, behind_table}

-- names are equal as their letters are
abbrev pub equal_names : ArrayVec ℕ → ArrayVec ℕ → Bool
equal_names j k = same_name j.items k.items

-- a look-up in the map is one in its list
pub entry_found : {V : Type 0} (es : List (ArrayVec ℕ × V)) (x : List ℕ) → lookup (λ k. pointwise nat_eq x k.items) es ≡ find (map entry_of es) x
entry_found [] x = refl
entry_found (e ∷ es) x = ap (cond (same_name x e.0.items) (Some e.1)) (entry_found es x)

-- a name that goes last
pub found_last : {V : Type 0} (es new : List (ArrayVec ℕ × V)) (key : ArrayVec ℕ) (x : List ℕ) (v : V) → key.items ≡ x → new ≡ es ++ (key, v) ∷ []
    → find (map entry_of new) ≡ with_name (find (map entry_of es)) x v
found_last {V} es new key x v letters is =
    ap (λ (fs : List (ArrayVec ℕ × V)). find (map entry_of fs)) is
    ∙ ap (λ (t : Table V). find t) (map_push entry_of es (key, v) ∙ ap (λ (y : List ℕ). map entry_of es ++ (y, v) ∷ []) letters)
    ∙ find_pushed (map entry_of es) x v

-- a name more, seen through f
pub shown_more : {V A : Type 0} (f : V → A) (has : List ℕ → Option V) (x : List ℕ) (v : V) → shown f (with_name has x v) ≡ with_name (shown f has) x (f v)
unfolding shown with_name
shown_more {V} {A} f has x v i y = by (has y) (same_name y x) i
  where
    by : (o : Option V) (b : Bool) → option_map f (or_else o (if b then Some v else None)) ≡ or_else (option_map f o) (if b then Some (f v) else None)
    by (Some w) b = refl
    by None true = refl
    by None false = refl

pub shown_added : {V A : Type 0} (f : V → A) (new old : List ℕ → Option V) (x : List ℕ) (v : V) → new ≡ with_name old x v
    → shown f new ≡ with_name (shown f old) x (f v)
shown_added f new old x v is = ap (shown f) is ∙ shown_more f old x v

-- no name has anything
pub shown_none : {V A : Type 0} (f : V → A) → shown f (find []) ≡ find []
unfolding shown
shown_none f i x = None

-- a list's first name goes to those before it
pub behind_more : {A : Type 0} (has : List ℕ → Option A) (x : List ℕ) (a : A) (t : Table A) → behind_table has ((x, a) ∷ t) ≡ behind_table (with_name has x a) t
unfolding behind_table with_name
behind_more {A} has x a t i y = by (has y) (same_name y x) i
  where
    by : (o : Option A) (b : Bool) → or_else o (if b then Some a else find t y) ≡ or_else (or_else o (if b then Some a else None)) (find t y)
    by (Some w) b = refl
    by None true = refl
    by None false = refl

-- behind all names
pub behind_none : {A : Type 0} (has : List ℕ → Option A) → behind_table has [] ≡ has
unfolding behind_table
behind_none {A} has i y = by (has y) i
  where
    by : (o : Option A) → or_else o None ≡ o
    by (Some w) = refl
    by None = refl

-- before all
pub behind_nothing : {A : Type 0} (t : Table A) → behind_table (find []) t ≡ find t
unfolding behind_table
behind_nothing t = refl

-- before all, where a map has no name
pub behind_empty : {V A : Type 0} (f : V → A) (es : Table V) (t : Table A) → es ≡ [] → behind_table (shown f (find es)) t ≡ find t
behind_empty {V} f es t is =
    ap (λ (fs : Table V). behind_table (shown f (find fs)) t) is ∙ ap (λ h. behind_table h t) (shown_none f) ∙ behind_nothing t
