-- The forms in which rows are told, of the stack: one lemma a form.
use Rattle.std.proofs.Common.{◌≡◌, ℕ, ◌+◌, ◌-◌, ◌<◌, ◌≤◌, Bool, false, List, [], ◌∷◌, ◌++◌, length, take, Option, None, Some, Ok, Err, refl, sym, ap, ◌∙◌, arith}
use Rattle.std.specs.Prelude.{Result}
use Rattle.std.proofs.lemmas.Bool.{lt-ltb, le-leb}
use Rattle.std.proofs.lemmas.List.{append-nil}
use Rattle.std.proofs.Math.Seq.{take-length}
use Rattle.spl_follow.specs.hp_word.declared.arithmetic.Arith.{Arith}
use Rattle.spl_follow.specs.hp_word.declared.arithmetic.Wide.{Wide}
use Rattle.spl_follow.specs.hp_word.declared.arithmetic.Quotient.{Quotient}
use Rattle.spl_follow.specs.hp_word.declared.arithmetic.Code.{Code}
use Rattle.spl_follow.specs.hp_word.declared.endings.Trap.{Trap}
use Rattle.spl_follow.specs.hp_word.Words.{word_code}
use Rattle.spl_follow.specs.hp_session.State.{Machine, Outcome, then_with, taking, without, replaced, pushing, pushing_all, deleted, with_x, with_code}
use Rattle.spl_follow.specs.hp_session.Results.{settled, settled_double, quotient, logical_quotient}
use Rattle.spl_follow.specs.Yielding.{Yields}
use Rattle.hp_yields.specs.Rows.{Settles, SettlesWide, Divides, DividesLogically, Codes, Places}

-- where there are the words that a row takes
pub taken : (n : ℕ) (m : Machine) (o : Outcome) → n ≤ length m.stack → taking n m o ≡ o
taken n m o enough = rw (le-leb n (length m.stack) enough) refl

-- what follows from an answer that is there, and from a trap
pub found : {A : Type 0} (r : Result A Trap) (a : A) (go : A → Outcome) → r ≡ Ok a → then_with r go ≡ go a
found {A = A} r a go is = ap (λ (x : Result A Trap). then_with x go) is

pub lost : {A : Type 0} (r : Result A Trap) (t : Trap) (go : A → Outcome) → r ≡ Err t → then_with r go ≡ Err t
lost {A = A} r t go is = ap (λ (x : Result A Trap). then_with x go) is

-- nothing behind the words that stay
pub without_is : (n : ℕ) (xs : List ℕ) → take (length xs - n) xs ≡ take (length xs - n) xs ++ []
without_is n xs = sym (append-nil (take (length xs - n) xs))

-- all words stay
whole : (xs : List ℕ) → xs ≡ take (length xs - 0) xs
whole xs = let e : length xs ≡ length xs - 0 = omega arith in sym (take-length xs) ∙ ap (λ (n : ℕ). take n xs) e

-- words on top of all
pub on_top : (xs ws : List ℕ) → xs ++ ws ≡ take (length xs - 0) xs ++ ws
on_top xs ws = ap (λ (ys : List ℕ). ys ++ ws) (whole xs)

-- words in place of the top ones, with any registers that leave Q and the trap switch
abbrev pub replaces : (n : ℕ) (ws : List ℕ) (m : Machine) (x : ℕ) (overflow carry : Bool) (c : Code)
    → Yields n ws m (Ok (record (replaced n ws m) { regs = record m.regs { x = x; overflow = overflow; carry = carry; code = c } }))
replaces n ws m x overflow carry c = record {
  left = record (replaced n ws m) { regs = record m.regs { x = x; overflow = overflow; carry = carry; code = c } };
  is = refl;
  words = refl;
  same = refl;
}

-- the same where nothing stands in their place
abbrev pub deletes : (n : ℕ) (m : Machine) (x : ℕ) (overflow carry : Bool) (c : Code)
    → Yields n [] m (Ok (record (without n m) { regs = record m.regs { x = x; overflow = overflow; carry = carry; code = c } }))
deletes n m x overflow carry c = record {
  left = record (without n m) { regs = record m.regs { x = x; overflow = overflow; carry = carry; code = c } };
  is = refl;
  words = without_is n m.stack;
  same = refl;
}

-- what is said of a row's answer may be said of the row
abbrev pub yields_of : (n : ℕ) (ws : List ℕ) (m : Machine) (o r : Outcome) → o ≡ r → Yields n ws m r → Yields n ws m o
yields_of n ws m o r e y = record { left = y.left; is = e ∙ y.is; words = y.words; same = y.same }

-- ---- results

pub settles : (n : ℕ) (r : Arith) (m : Machine) → Settles n r m (settled n r m)
unfolding settled
settles n r m = record {
  trap = λ h. rw h refl;
  result = λ h. yields_of n (r.value ∷ []) m _ _ (rw h refl) (replaces n (r.value ∷ []) m m.regs.x false r.carry r.code);
}

pub settles_wide : (n : ℕ) (r : Wide) (m : Machine) → SettlesWide n r m (settled_double n r m)
unfolding settled_double
settles_wide n r m = record {
  trap = λ h. rw h refl;
  result = λ h. yields_of n _ m _ _ (rw h refl) (replaces n _ m m.regs.x false r.carry r.code);
}

pub divides : (q : Option Quotient) (m : Machine) → Divides 2 q m (quotient q m)
divides None m = refl
divides (Some q) m = (
  λ h. rw h refl,
  λ h.
      yields_of 2 (q.quotient ∷ q.remainder ∷ []) m _ _ (rw h refl) (replaces 2 (q.quotient ∷ q.remainder ∷ []) m m.regs.x false m.regs.carry (word_code q.quotient)),
)

pub divides_logically : (q : Option Quotient) (m : Machine) → DividesLogically 3 q m (logical_quotient q m)
divides_logically None m = refl
divides_logically (Some q) m = replaces 3 (q.quotient ∷ q.remainder ∷ []) m m.regs.x m.regs.overflow m.regs.carry (word_code q.quotient)

-- what is said of results may be said of rows that have them
pub settles_of : (n : ℕ) (r : Arith) (m : Machine) (o p : Outcome) → o ≡ p → Settles n r m p → Settles n r m o
settles_of n r m o p e s = record { trap = λ h. e ∙ s.trap h; result = λ h. yields_of n _ m o p e (s.result h) }

pub settles_wide_of : (n : ℕ) (r : Wide) (m : Machine) (o p : Outcome) → o ≡ p → SettlesWide n r m p → SettlesWide n r m o
settles_wide_of n r m o p e s = record { trap = λ h. e ∙ s.trap h; result = λ h. yields_of n _ m o p e (s.result h) }

pub divides_of : (n : ℕ) (q : Option Quotient) (m : Machine) (o p : Outcome) → o ≡ p → Divides n q m p → Divides n q m o
divides_of n None m o p e s = e ∙ s
divides_of n (Some q) m o p e s = (λ h. e ∙ s.0 h, λ h. yields_of n _ m o p e (s.1 h))

pub divides_logically_of : (n : ℕ) (q : Option Quotient) (m : Machine) (o p : Outcome) → o ≡ p → DividesLogically n q m p
    → DividesLogically n q m o
divides_logically_of n None m o p e s = e ∙ s
divides_logically_of n (Some q) m o p e s = yields_of n _ m o p e s

-- ---- registers

-- words in place of the top ones, and a condition code
pub codes : (n : ℕ) (ws : List ℕ) (m : Machine) (c : Code) → Codes n ws c m (Ok (with_code c (replaced n ws m)))
codes n ws m c = record { words = replaces n ws m m.regs.x m.regs.overflow m.regs.carry c; code = refl }

pub codes_deleted : (n : ℕ) (m : Machine) (c : Code) → Codes n [] c m (Ok (with_code c (without n m)))
codes_deleted n m c = record { words = deletes n m m.regs.x m.regs.overflow m.regs.carry c; code = refl }

pub codes_of : (n : ℕ) (ws : List ℕ) (c : Code) (m : Machine) (o p : Outcome) → o ≡ p → Codes n ws c m p → Codes n ws c m o
codes_of n ws c m o p e k = record { words = yields_of n ws m o p e k.words; code = k.code }

-- words in place of the top ones, and nothing else but X
pub places : (n : ℕ) (ws : List ℕ) (x : ℕ) (m : Machine) → Places n ws x m (Ok (with_x x (replaced n ws m)))
places n ws x m = record {
  words = replaces n ws m x m.regs.overflow m.regs.carry m.regs.code;
  index = refl;
  same_code = refl;
  same_carry = refl;
  same_overflow = refl;
}

pub places_deleted : (n : ℕ) (x : ℕ) (m : Machine) → Places n [] x m (Ok (with_x x (without n m)))
places_deleted n x m = record {
  words = deletes n m x m.regs.overflow m.regs.carry m.regs.code;
  index = refl;
  same_code = refl;
  same_carry = refl;
  same_overflow = refl;
}

-- words pushed
pub places_pushed : (ws : List ℕ) (x : ℕ) (m : Machine) → Places 0 ws x m (Ok (with_x x (record m { stack = m.stack ++ ws })))
places_pushed ws x m = record {
  words = record { left = with_x x (record m { stack = m.stack ++ ws }); is = refl; words = on_top m.stack ws; same = refl };
  index = refl;
  same_code = refl;
  same_carry = refl;
  same_overflow = refl;
}

-- nothing but X
pub places_none : (x : ℕ) (m : Machine) → Places 0 [] x m (Ok (with_x x m))
places_none x m = record {
  words = record { left = with_x x m; is = refl; words = sym (append-nil m.stack) ∙ on_top m.stack []; same = refl };
  index = refl;
  same_code = refl;
  same_carry = refl;
  same_overflow = refl;
}

pub places_of : (n : ℕ) (ws : List ℕ) (x : ℕ) (m : Machine) (o p : Outcome) → o ≡ p → Places n ws x m p → Places n ws x m o
places_of n ws x m o p e k = record {
  words = yields_of n ws m o p e k.words;
  index = k.index;
  same_code = k.same_code;
  same_carry = k.same_carry;
  same_overflow = k.same_overflow;
}

-- a word pushed where there is room
pub pushes : (w : ℕ) (m : Machine) → length m.stack < m.stack_limit → Places 0 (w ∷ []) m.regs.x m (pushing w m)
pushes w m room = places_of 0 (w ∷ []) m.regs.x m _ _ (rw (lt-ltb (length m.stack) m.stack_limit room) refl) (places_pushed (w ∷ []) m.regs.x m)

-- some words pushed where there is room
pub pushes_all : (ws : List ℕ) (m : Machine) → length m.stack + length ws ≤ m.stack_limit → Places 0 ws m.regs.x m (pushing_all ws m)
pushes_all ws m room =
    places_of 0 ws m.regs.x m _ _ (rw (le-leb (length m.stack + length ws) m.stack_limit room) refl) (places_pushed ws m.regs.x m)

-- words deleted where there are as many
pub drops : (n : ℕ) (m : Machine) → n ≤ length m.stack → Places n [] m.regs.x m (deleted n m)
unfolding deleted
drops n m enough = places_of n [] m.regs.x m _ _ (taken n m _ enough) (places_deleted n m.regs.x m)
