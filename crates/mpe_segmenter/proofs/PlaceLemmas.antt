-- A look-up in a table of names is one in its list, and a name that is new goes last; so with the names that are wanted.
use Rattle.std.proofs.Common.{◌≡◌, ℕ, suc, ◌+◌, ◌≤◌, Bool, true, false, cond, nat_eq, nat_lt, List, [], ◌∷◌, ◌++◌, map, length, Option, Some, None, is_some, unwrap_or, refl, ap, arith}
use Rattle.std.specs.Prelude.{◌||◌, ◌&&◌, not, if◌then◌else◌}
use Rattle.std.specs.Bool.{beq}
use Rattle.std.specs.List.{list_any, position, position_or_len}
use Rattle.std.specs.Map.{lookup}
use Rattle.std.specs.Cmp.Lexicographic.{pointwise}
use Rattle.std.proofs.lemmas.List.{map_push}
use Rattle.std.proofs.lemmas.Bool.{ltb-false}
use Rattle.arrayvec.specs.ArrayVec.{ArrayVec}
use Rattle.indexmap.specs.IndexSet.{insert_key}
use Rattle.mpe_segmenter.specs.declared.wants.Key.{Key}
use Rattle.mpe_segmenter.specs.Entries.{Wanted, is_same, is_wanted, with_want, want_at}
use Rattle.mpe_segmenter.specs.Places.{place_of, with_place}
use Rattle.mpe_segmenter.specs.PlaceViews.{placed, seen}

pub lookup_place : (es : List (ArrayVec ℕ × ℕ)) (x : ArrayVec ℕ) → lookup (λ k. pointwise nat_eq x.items k.items) es ≡ place_of x.items (placed es)
lookup_place [] x = refl
lookup_place (e ∷ es) x = ap (λ o. if pointwise nat_eq x.items e.0.items then Some e.1 else o) (lookup_place es x)

-- there is none where a test says so
pub none_since : {A : Type 0} (o : Option A) (b : Bool) → is_some o ≡ not b → b ≡ true → o ≡ None
none_since None b e h = refl
none_since (Some a) b e h = cc

-- a name that has no number yet
pub with_new : (es : List (List ℕ × ℕ)) (name : List ℕ) (k : ℕ) → place_of name es ≡ None → with_place es name k ≡ es ++ (name, k) ∷ []
with_new es name k h = rw h refl

-- keys are equal by their letters and their kind
abbrev pub same : Key → Key → Bool
same j k = pointwise nat_eq j.name.items k.name.items && beq j.gate k.gate

any_wanted : (ks : List Key) (k : Key) → list_any (same k) ks ≡ is_wanted (seen k) (map seen ks)
any_wanted [] k = refl
any_wanted (j ∷ ks) k = ap (λ (b : Bool). same k j || b) (any_wanted ks k)

pub insert_want : (ks : List Key) (k : Key) → map seen (insert_key same ks k) ≡ with_want (map seen ks) (seen k)
insert_want ks k = by (list_any (same k) ks) (is_wanted (seen k) (map seen ks)) (any_wanted ks k) where
  by : (a b : Bool) → a ≡ b → map seen (if a then ks else ks ++ k ∷ []) ≡ (if b then map seen ks else map seen ks ++ seen k ∷ [])
  by true true e = refl
  by false false e = map_push seen ks k
  by true false e = cc
  by false true e = cc

-- the first place that passes, or the length
at_or_len : (ks : List Key) (k : Key) → position_or_len (same k) ks ≡ want_at (seen k) (map seen ks)
at_or_len [] k = refl
at_or_len (j ∷ ks) k = by (same k j) (at_or_len ks k) where
  by : (b : Bool) → position_or_len (same k) ks ≡ want_at (seen k) (map seen ks) → cond (not b) (1 + position_or_len (same k) ks) 0 ≡ (if b then 0 else want_at (seen k) (map seen ks) + 1)
  by true e = refl
  by false e = omega (arith, e)

pub want_within : (w : Wanted) (ws : List Wanted) → want_at w ws ≤ length ws
want_within w [] = omega arith
want_within w (v ∷ ws) = by (is_same w v) (want_within w ws) where
  by : (b : Bool) → want_at w ws ≤ length ws → (if b then 0 else want_at w ws + 1) ≤ suc (length ws)
  by true h = omega arith
  by false h = omega (arith, h)

length_seen : (ks : List Key) → length (map seen ks) ≡ length ks
length_seen [] = refl
length_seen (k ∷ ks) = ap suc (length_seen ks)

pub want_position : (ks : List Key) (k : Key) → unwrap_or (position (same k) ks) (length ks) ≡ want_at (seen k) (map seen ks)
want_position ks k = by (position_or_len (same k) ks) (at_or_len ks k) (nat_lt (position_or_len (same k) ks) (length ks)) refl where
  by : (n : ℕ) → n ≡ want_at (seen k) (map seen ks) → (b : Bool) → nat_lt n (length ks) ≡ b → unwrap_or (cond b (Some n) None) (length ks) ≡ want_at (seen k) (map seen ks)
  by n e true h = e
  by n e false h = omega (arith, e, ltb-false n (length ks) h, want_within (seen k) (map seen ks), length_seen ks)
