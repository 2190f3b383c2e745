-- A name that is wanted stands at its place among all that are wanted.
use Rattle.std.proofs.Common.{◌≡◌, ℕ, zero, suc, ◌<◌, Bool, true, false, List, [], ◌∷◌, ◌++◌, length, get_or, slice_get, Option, None, Some, refl, sym, ap, subst, ◌∙◌, arith}
use Rattle.std.specs.Prelude.{if◌then◌else◌, is_some, unwrap_or, position}
use Rattle.std.specs.Bool.{beq}
use Rattle.std.specs.Str.{bytes_eq}
use lib.Pointwise.{bytes_decides}
use Rattle.std.proofs.lemmas.Bool.{and_parts}
use Rattle.std.proofs.lemmas.List.{append-nil}
use Rattle.std.proofs.lemmas.List.Quantifiers.{position-Some}
use Rattle.hp_call_yields.specs.spl_meaning.Laws.{IsFront}
use Rattle.hp_call_yields.specs.spl_code.Parts.{Wanted, is_wanted, wanted_place, with_wanted}

-- ---- lists

got_here : {A : Type 0} (xs : List A) (i : ℕ) (d : A) → i < length xs → slice_get xs i ≡ Some (get_or xs i d)
got_here [] i d lt = absurd (omega (arith, lt))
got_here (x ∷ xs) zero d lt = refl
got_here (x ∷ xs) (suc i) d lt = got_here xs i d (omega (arith, lt))

got_left : {A : Type 0} (xs ys : List A) (i : ℕ) (x : A) → slice_get xs i ≡ Some x → slice_get (xs ++ ys) i ≡ Some x
got_left [] ys i x h = cc
got_left (y ∷ xs) ys zero x h = h
got_left (y ∷ xs) ys (suc i) x h = got_left xs ys i x h

got_last : {A : Type 0} (xs : List A) (x : A) → slice_get (xs ++ x ∷ []) (length xs) ≡ Some x
got_last [] x = refl
got_last (y ∷ xs) x = got_last xs x

-- ---- wants

-- a want with this name, and of the gate or not, is this want
want_is : (name : List ℕ) (gate : Bool) (w : Wanted) → is_wanted name gate w ≡ true → w ≡ record { name = name; gate = gate }
want_is name gate w e =
    let two = and_parts (bytes_eq w.name name) (beq w.gate gate) e in
    rw ((bytes_decides w.name name).0 two.0, gates w.gate gate two.1) refl where
      gates : (a b : Bool) → beq a b ≡ true → a ≡ b
      gates true true h = refl
      gates true false h = cc
      gates false true h = cc
      gates false false h = refl

-- where a call's name was wanted, it stands at its place among all wants
pub wanted_there : (name : List ℕ) (gate : Bool) (ws all : List Wanted) → IsFront (with_wanted name gate ws) all
    → slice_get all (wanted_place name gate ws) ≡ Some (record { name = name; gate = gate })
wanted_there name gate ws all front = by (position (is_wanted name gate) ws) refl front where
  want : Wanted
  want = record { name = name; gate = gate }

  by : (o : Option ℕ) → position (is_wanted name gate) ws ≡ o → IsFront (if is_some o then ws else ws ++ want ∷ []) all
      → slice_get all (unwrap_or o (length ws)) ≡ Some want
  by (Some i) e f =
      let p = position-Some (is_wanted name gate) ws i want e in
      subst (λ (xs : List Wanted). slice_get xs i ≡ Some want) (sym f.is)
      (got_left ws f.rest i want (got_here ws i want p.0 ∙ ap (λ (w : Wanted). Some w) (want_is name gate (get_or ws i want) p.1)))
  by None e f =
      subst (λ (xs : List Wanted). slice_get xs (length ws) ≡ Some want) (sym f.is)
      (got_left (ws ++ want ∷ []) f.rest (length ws) want (got_last ws want))

-- and the names wanted before it are the first of those behind it
pub wanted_keeps : (name : List ℕ) (gate : Bool) (ws : List Wanted) → IsFront ws (with_wanted name gate ws)
wanted_keeps name gate ws = by (is_some (position (is_wanted name gate) ws)) where
  by : (b : Bool) → IsFront ws (if b then ws else ws ++ record { name = name; gate = gate } ∷ [])
  by true = record { rest = []; is = sym (append-nil ws) }
  by false = record { rest = record { name = name; gate = gate } ∷ []; is = refl }
