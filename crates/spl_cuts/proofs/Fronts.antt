-- Tests, and the fronts of lists that a test passes.
use Rattle.std.proofs.Common.{ℕ, ◌≡◌, Bool, true, false, List, [], ◌∷◌, ◌++◌, length, take, drop, Option, Some, None, refl, sym, ap, ◌∙◌}
use Rattle.std.specs.Prelude.{◌&&◌, not, option_map}
use Rattle.std.specs.List.{take_while, list_all}
use Rattle.std.proofs.lemmas.List.Sums.{take_while-cons}
use Rattle.std.proofs.Math.Seq.{drop-append_seam, take-append_seam}
use Rattle.spl_cuts.specs.Bytes.{Stops, begins}

-- both tests hold
pub both : (a b : Bool) → (a && b) ≡ true → (a ≡ true) × (b ≡ true)
both true b h = (refl, h)
both false b h = cc

pub and_false : (a b : Bool) → b ≡ false → (a && b) ≡ false
and_false true b h = h
and_false false b h = refl

pub not_false : (a : Bool) → not a ≡ true → a ≡ false
not_false true h = cc
not_false false h = refl

-- what is there
value_or : {A : Type 0} → A → Option A → A
value_or d (Some x) = x
value_or d None = d

pub some_is : {A : Type 0} {x y : A} → Some x ≡ Some y → x ≡ y
unfolding value_or
some_is {x = x} e = ap (value_or x) e

-- what an answer mapped by a function was
pub mapped : {A B : Type 0} (f : A → B) (o : Option A) (y : B) → option_map f o ≡ Some y → (x : A) × (o ≡ Some x) × (f x ≡ y)
mapped f (Some x) y e = (x, refl, some_is e)
mapped f None y e = cc

pub mapped_none : {A B : Type 0} (f : A → B) (o : Option A) → option_map f o ≡ None → o ≡ None
mapped_none f (Some x) e = cc
mapped_none f None e = refl

-- the bytes at the front that pass, and the others
pub record Split (p : ℕ → Bool) (bs : List ℕ) : Type 0 where
  pub front : List ℕ
  pub rest : List ℕ
  pub is : front ++ rest ≡ bs
  pub taken : take_while p bs ≡ front
  pub left : drop (length front) bs ≡ rest
  pub all : list_all p front ≡ true
  pub stops : Stops p rest

one_more : (p : ℕ → Bool) (b : ℕ) (bs : List ℕ) → p b ≡ true → Split p bs → Split p (b ∷ bs)
one_more p b bs h s = record {
  front = b ∷ s.front;
  rest = s.rest;
  is = ap (λ (xs : List ℕ). b ∷ xs) s.is;
  taken = take_while-cons p b bs ∙ rw (h, s.taken) refl;
  left = s.left;
  all = rw h s.all;
  stops = s.stops;
}

pub split : (p : ℕ → Bool) (bs : List ℕ) → Split p bs
split p [] = record { front = []; rest = []; is = refl; taken = refl; left = refl; all = refl; stops = tt }
split p (b ∷ bs) = by (p b) refl (split p bs)
  where
    by : (a : Bool) → p b ≡ a → Split p bs → Split p (b ∷ bs)
    by true h s = one_more p b bs h s
    by false h s = record { front = []; rest = b ∷ bs; is = refl; taken = take_while-cons p b bs ∙ rw h refl; left = refl; all = refl; stops = h }

-- nothing behind a list
pub append_none : (xs : List ℕ) → xs ++ [] ≡ xs
append_none [] = refl
append_none (x ∷ xs) = ap (λ (ys : List ℕ). x ∷ ys) (append_none xs)

-- what passes is taken whole
pub taken_whole : (p : ℕ → Bool) (xs rest : List ℕ) → list_all p xs ≡ true → Stops p rest → take_while p (xs ++ rest) ≡ xs
taken_whole p [] [] a s = refl
taken_whole p [] (b ∷ bs) a s = take_while-cons p b bs ∙ rw s refl
taken_whole p (x ∷ xs) rest a s =
    let h = both (p x) (list_all p xs) a in
    take_while-cons p x (xs ++ rest) ∙ rw (h.0, taken_whole p xs rest h.1 s) refl

-- the front begins with the first byte, if that passes
pub begins_taken : (p q : ℕ → Bool) (b : ℕ) (bs : List ℕ) (s : Split p (b ∷ bs)) → p b ≡ true → q b ≡ true → begins q s.front ≡ true
begins_taken p q b bs s h g = by s.front (sym s.taken ∙ take_while-cons p b bs ∙ rw h refl)
  where
    by : (front : List ℕ) → front ≡ b ∷ take_while p bs → begins q front ≡ true
    by front e = rw e g

pub stops_begins : (p : ℕ → Bool) (bs : List ℕ) → Stops p bs → begins p bs ≡ false
stops_begins p [] s = refl
stops_begins p (b ∷ bs) s = s

pub begins_stops : (p : ℕ → Bool) (bs : List ℕ) → begins p bs ≡ false → Stops p bs
begins_stops p [] h = tt
begins_stops p (b ∷ bs) h = h

-- front and rest of a list by the length of the front
pub taken_front : (n : ℕ) (xs rest bs : List ℕ) → n ≡ length xs → xs ++ rest ≡ bs → take n bs ≡ xs
taken_front n xs rest bs e is = rw (e, ← is) (take-append_seam xs rest)

pub left_rest : (n : ℕ) (xs rest bs : List ℕ) → n ≡ length xs → xs ++ rest ≡ bs → drop n bs ≡ rest
left_rest n xs rest bs e is = rw (e, ← is) (drop-append_seam xs rest)
