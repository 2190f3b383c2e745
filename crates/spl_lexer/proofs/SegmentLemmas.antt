-- A name in the set of names, and its number, are those of the list of names.
use Rattle.std.proofs.Common.{◌≡◌, ℕ, suc, ◌+◌, ◌<◌, ◌≤◌, Bool, true, false, cond, nat_eq, List, [], ◌∷◌, ◌++◌, map, length, get_or, refl, sym, ap, ◌∙◌, arith}
use Rattle.std.specs.Prelude.{◌||◌, not, if◌then◌else◌}
use Rattle.std.specs.List.{list_any, position_or_len}
use Rattle.std.specs.Cmp.Lexicographic.{same_text}
use Rattle.std.proofs.lemmas.List.{map_push, get_or_append_left}
use lib.Pointwise.{pointwise}
use Rattle.arrayvec.specs.ArrayVec.{ArrayVec}
use Rattle.indexmap.specs.IndexSet.{insert_key}
use Rattle.spl_tree.specs.declared.tokens.Token.{Token}
use Rattle.spl_cuts.specs.Signs.{Found, Placed}
use Rattle.spl_cuts.specs.Cutting.{has_name, with_name, with_names, number_of, placed}
use Rattle.spl_cuts.proofs.FewSegments.{same_self, longer_with, with_behind}
use Rattle.spl_pieces.specs.SignViews.{sign_of}
use Rattle.spl_lexer.specs.TokenViews.{placed_of, found_of, list_of, AllNumbered, IsNumbered}

-- names are equal by their letters
abbrev pub same : ArrayVec ℕ → ArrayVec ℕ → Bool
same j k = pointwise nat_eq j.items k.items

-- the letters of names
abbrev pub texts : List (ArrayVec ℕ) → List (List ℕ)
texts ks = map (λ n. n.items) ks

pub any_has : (ks : List (ArrayVec ℕ)) (k : ArrayVec ℕ) → list_any (same k) ks ≡ has_name (texts ks) k.items
any_has [] k = refl
any_has (j ∷ ks) k = ap (λ (b : Bool). same k j || b) (any_has ks k)

pub insert_with : (ks : List (ArrayVec ℕ)) (k : ArrayVec ℕ)
    → texts (insert_key same ks k) ≡ with_name (texts ks) k.items
insert_with ks k = by (list_any (same k) ks) (has_name (texts ks) k.items) (any_has ks k)
  where
    by : (a b : Bool) → a ≡ b
        → texts (if a then ks else ks ++ k ∷ []) ≡ (if b then texts ks else texts ks ++ k.items ∷ [])
    by true true e = refl
    by false false e = map_push (λ (n : ArrayVec ℕ). n.items) ks k
    by true false e = cc
    by false true e = cc

-- ---- numbers

place_is : (ks : List (ArrayVec ℕ)) (k : ArrayVec ℕ) → position_or_len (same k) ks ≡ number_of (texts ks) k.items
place_is [] k = refl
place_is (j ∷ ks) k = by (same k j) (place_is ks k)
  where
    by : (b : Bool) → position_or_len (same k) ks ≡ number_of (texts ks) k.items
        → cond (not b) (1 + position_or_len (same k) ks) 0 ≡ (if b then 0 else number_of (texts ks) k.items + 1)
    by true e = refl
    by false e = omega (arith, e)

-- a name that is there keeps its number when names are added behind
pub number_append : (ns ms : List (List ℕ)) (n : List ℕ) → number_of ns n < length ns
    → number_of (ns ++ ms) n ≡ number_of ns n
number_append [] ms n l = absurd (omega (arith, l))
number_append (m ∷ ns) ms n l = by (pointwise nat_eq n m) l (λ k. number_append ns ms n k)
  where
    by : (b : Bool) → (if b then 0 else number_of ns n + 1) < suc (length ns)
        → (number_of ns n < length ns → number_of (ns ++ ms) n ≡ number_of ns n)
        → (if b then 0 else number_of (ns ++ ms) n + 1) ≡ (if b then 0 else number_of ns n + 1)
    by true l k = refl
    by false l k = ap (λ (i : ℕ). i + 1) (k (omega (arith, l)))

-- a name that is not there has the next number
new_number : (ns : List (List ℕ)) (n : List ℕ) → has_name ns n ≡ false → number_of (ns ++ n ∷ []) n ≡ number_of ns n
new_number [] n h = rw (same_self n) refl
new_number (m ∷ ns) n h = by (pointwise nat_eq n m) h (λ k. new_number ns n k)
  where
    by : (b : Bool) → (b || has_name ns n) ≡ false
        → (has_name ns n ≡ false → number_of (ns ++ n ∷ []) n ≡ number_of ns n)
        → (if b then 0 else number_of (ns ++ n ∷ []) n + 1) ≡ (if b then 0 else number_of ns n + 1)
    by true h k = refl
    by false h k = ap (λ (i : ℕ). i + 1) (k h)

-- the number under which a name was put there
pub insert_number : (ks : List (ArrayVec ℕ)) (k : ArrayVec ℕ)
    → position_or_len (same k) ks ≡ number_of (with_name (texts ks) k.items) k.items
insert_number ks k = place_is ks k ∙ by (has_name (texts ks) k.items) refl
  where
    by : (b : Bool) → has_name (texts ks) k.items ≡ b
        → number_of (texts ks) k.items ≡ number_of (if b then texts ks else texts ks ++ k.items ∷ []) k.items
    by true h = refl
    by false h = sym (new_number (texts ks) k.items h)

-- a name stands at its number
pub at_number : (ns : List (List ℕ)) (n : List ℕ) → number_of ns n < length ns → get_or ns (number_of ns n) [] ≡ n
at_number [] n l = absurd (omega (arith, l))
at_number (m ∷ ns) n l = by (pointwise nat_eq n m) refl l (λ k. at_number ns n k)
  where
    by : (b : Bool) → pointwise nat_eq n m ≡ b → (if b then 0 else number_of ns n + 1) < suc (length ns)
        → (number_of ns n < length ns → get_or ns (number_of ns n) [] ≡ n)
        → get_or (m ∷ ns) (if b then 0 else number_of ns n + 1) [] ≡ n
    by true e l k = sym (same_text n m (sym e))
    by false e l k =
        let j : number_of ns n + 1 ≡ suc (number_of ns n) = omega arith in
        ap (λ (i : ℕ). get_or (m ∷ ns) i []) j ∙ k (omega (arith, l))

-- ---- tokens with the numbers of their segments

-- a name may be put behind names that lack it
with_cases : (P : List (List ℕ) → Type 0) (ns : List (List ℕ)) (n : List ℕ) → P ns → P (ns ++ n ∷ [])
    → P (with_name ns n)
with_cases P ns n a b = by (has_name ns n)
  where
    by : (c : Bool) → P (if c then ns else ns ++ n ∷ [])
    by true = a
    by false = b

-- names that are there keep their numbers, and stay at them
number_stays : (ns : List (List ℕ)) (n m : List ℕ) → number_of ns m < length ns
    → number_of (with_name ns n) m ≡ number_of ns m
number_stays ns n m l = with_cases (λ (xs : List (List ℕ)). number_of xs m ≡ number_of ns m) ns n refl (number_append ns (n ∷ []) m l)

name_stays : (ns : List (List ℕ)) (n : List ℕ) (i : ℕ) → i < length ns → get_or (with_name ns n) i [] ≡ get_or ns i []
name_stays ns n i l = with_cases (λ (xs : List (List ℕ)). get_or xs i [] ≡ get_or ns i []) ns n refl (get_or_append_left ns (n ∷ []) [] i l)

no_shorter : (ns : List (List ℕ)) (n : List ℕ) → length ns ≤ length (with_name ns n)
no_shorter ns n = (longer_with ns n).0

found_stays : (ns : List (List ℕ)) (n : List ℕ) (t : Token) → t.segment < length ns
    → found_of (with_name ns n) t ≡ found_of ns t
found_stays ns n t l = ap (λ (s : List ℕ). record { what = sign_of t.what; at = t.at; segment = s }) (name_stays ns n t.segment l)

placed_stays : (ns : List (List ℕ)) (n : List ℕ) (t : Token) → t.segment < length ns
    → placed ns (found_of ns t) ≡ placed_of t
    → placed (with_name ns n) (found_of ns t) ≡ placed_of t
placed_stays ns n t l e =
    let m = get_or ns t.segment [] in
    let f : number_of ns m ≡ t.segment = ap (λ (p : Placed). p.segment) e in
    let g : number_of (with_name ns n) m ≡ number_of ns m = number_stays ns n m (omega (arith, l, f)) in
    ap (λ (i : ℕ). record { what = sign_of t.what; at = t.at; segment = i }) (g ∙ f)

all_stay : (ns : List (List ℕ)) (n : List ℕ) (ts : List Token) → AllNumbered ts ns → AllNumbered ts (with_name ns n)
all_stay ns n [] a = tt
all_stay ns n (t ∷ ts) a =
    let l = no_shorter ns n in
    (omega (arith, l, a.0), ap (placed (with_name ns n)) (found_stays ns n t a.0) ∙ placed_stays ns n t a.0 a.1, all_stay ns n ts a.2)

founds_stay : (ns : List (List ℕ)) (n : List ℕ) (ts : List Token) → AllNumbered ts ns
    → map (found_of (with_name ns n)) ts ≡ map (found_of ns) ts
founds_stay ns n [] a = refl
founds_stay ns n (t ∷ ts) a = rw (found_stays ns n t a.0, founds_stay ns n ts a.2) refl

-- the token of a name that was put there
newly : (ns : List (List ℕ)) (n : List ℕ) (t : Token) → t.segment ≡ number_of (with_name ns n) n
    → t.segment < length (with_name ns n)
    → (found_of (with_name ns n) t ≡ record { what = sign_of t.what; at = t.at; segment = n }) × (placed (with_name ns n) (found_of (with_name ns n) t) ≡ placed_of t)
newly ns n t e l =
    let ms = with_name ns n in
    let f : get_or ms t.segment [] ≡ n = ap (λ (i : ℕ). get_or ms i []) e ∙ at_number ms n (omega (arith, l, e)) in (
      ap (λ (s : List ℕ). record { what = sign_of t.what; at = t.at; segment = s }) f,
      ap (λ (s : List ℕ). record { what = sign_of t.what; at = t.at; segment = number_of ms s }) f
          ∙ ap (λ (i : ℕ). record { what = sign_of t.what; at = t.at; segment = i }) (sym e),
    )

numbered_push : (ms : List (List ℕ)) (ts : List Token) (t : Token) → AllNumbered ts ms → t.segment < length ms
    → placed ms (found_of ms t) ≡ placed_of t
    → AllNumbered (ts ++ t ∷ []) ms
numbered_push ms [] t a l e = (l, e, tt)
numbered_push ms (u ∷ ts) t a l e = (a.0, a.1, numbered_push ms ts t a.2 l e)

-- what the tokens are with one more
pub push_view : (ns : List (List ℕ)) (n : List ℕ) (ts : List Token) (t : Token) → IsNumbered ts ns
    → t.segment ≡ number_of (with_name ns n) n
    → t.segment < length (with_name ns n)
    → map (found_of (with_name ns n)) (ts ++ t ∷ []) ≡ map (found_of ns) ts ++ record { what = sign_of t.what; at = t.at; segment = n } ∷ []
push_view ns n ts t v e l =
    map_push (found_of (with_name ns n)) ts t
    ∙ ap (λ (fs : List Found). fs ++ found_of (with_name ns n) t ∷ []) (founds_stay ns n ts v.all)
    ∙ ap (λ (f : Found). map (found_of ns) ts ++ f ∷ []) (newly ns n t e l).0

-- and they are numbered
pub push_numbered : (ns : List (List ℕ)) (n : List ℕ) (ts : List Token) (t : Token) → IsNumbered ts ns
    → t.segment ≡ number_of (with_name ns n) n
    → t.segment < length (with_name ns n) → IsNumbered (ts ++ t ∷ []) (with_name ns n)
push_numbered ns n ts t v e l = record {
  order =
      ap (with_names []) (push_view ns n ts t v e l)
      ∙ with_behind [] (map (found_of ns) ts) (record { what = sign_of t.what; at = t.at; segment = n } ∷ [])
      ∙ ap (λ (ms : List (List ℕ)). with_name ms n) v.order;
  all = numbered_push (with_name ns n) ts t (all_stay ns n ts v.all) l (newly ns n t e l).1;
}

-- tokens that are numbered are placed by their numbers
pub placed_all : (ns : List (List ℕ)) (ts : List Token) → AllNumbered ts ns
    → map (placed ns) (map (found_of ns) ts) ≡ map placed_of ts
placed_all ns [] a = refl
placed_all ns (t ∷ ts) a = rw (a.1, placed_all ns ts a.2) refl

-- the list of a unit with these tokens
pub list_numbered : (ns : List (List ℕ)) (ts : List Token) (subprogram : Bool) → IsNumbered ts ns
    → list_of (map (found_of ns) ts) subprogram ≡ record { tokens = map placed_of ts; segments = ns; subprogram = subprogram }
list_numbered ns ts subprogram v =
    ap (λ (ms : List (List ℕ)). record { tokens = map (placed ms) (map (found_of ns) ts); segments = ms; subprogram = subprogram }) v.order
    ∙ ap (λ (ps : List Placed). record { tokens = ps; segments = ns; subprogram = subprogram }) (placed_all ns ts v.all)

-- one token more, of a segment that was looked up
pub pushed : (names ms : List (List ℕ)) (n : List ℕ) (ts us : List Token) (t : Token) → IsNumbered ts names
    → us ≡ ts ++ t ∷ [] → ms ≡ with_name names n → t.segment ≡ number_of ms n → t.segment < length ms
    → IsNumbered us ms
    × (map (found_of ms) us ≡ map (found_of names) ts ++ record { what = sign_of t.what; at = t.at; segment = n } ∷ [])
pushed names ms n ts us t v items e f l =
    let number : t.segment ≡ number_of (with_name names n) n = f ∙ ap (λ (xs : List (List ℕ)). number_of xs n) e in
    let k : length ms ≡ length (with_name names n) = ap (λ (xs : List (List ℕ)). length xs) e in
    let within : t.segment < length (with_name names n) = omega (arith, l, k) in
    rw (items, e) (push_numbered names n ts t v number within, push_view names n ts t v number within)
