-- The numbers of operators and of shifts.
use Rattle.std.proofs.Common.{ℕ, suc, ◌≡◌, ◌+◌, ◌-◌, ◌<◌, ◌≤◌, ◌==◌, ◌&&◌, ◌||◌, nat_lt, nat_le, Bool, true, false, if◌then◌else◌, List, [], ◌∷◌, length, Some, refl, ap, arith}
use Rattle.std.proofs.lemmas.Bool.{ltb-true, ltb-false, leb-true, eqb-true, eqb-false, lt-ltb, le-leb, ne_eqb, and_from}
use Rattle.std.proofs.lemmas.Bool.{false≢true}
use Rattle.spl_cuts.specs.spl_tree.Symbols.{is_word}
use Rattle.spl_cuts.specs.spl_tree.Operators.{binds, shift_of, number_among, is_sign, sign_number}
use Rattle.spl_cuts.specs.spl_tree.Statements.{class_of, is_relation}
use Prim.Native.String.{String}

pub never : {A : Type 0} → false ≡ true → A
never is = absurd (false≢true is)

-- what is no operator's number binds at no level
binds_none : (op : ℕ) → 16 ≤ op → binds op ≡ 0
unfolding binds
binds_none op h =
    let a : (op == 0) ≡ false = ne_eqb op 0 (λ e. absurd (omega (arith, h, e))) in
    let b : (op == 1) ≡ false = ne_eqb op 1 (λ e. absurd (omega (arith, h, e))) in
    let c : (op == 2) ≡ false = ne_eqb op 2 (λ e. absurd (omega (arith, h, e))) in
    let d : (op == 3) ≡ false = ne_eqb op 3 (λ e. absurd (omega (arith, h, e))) in
    let e : (op == 4) ≡ false = ne_eqb op 4 (λ e. absurd (omega (arith, h, e))) in
    let f : nat_lt op 11 ≡ false = not_below op 11 (λ l. absurd (omega (arith, h, l))) in
    let g : nat_lt op 13 ≡ false = not_below op 13 (λ l. absurd (omega (arith, h, l))) in
    let i : nat_lt op 16 ≡ false = not_below op 16 (λ l. absurd (omega (arith, h, l))) in
    rw (a, b, c, d, e, f, g, i) refl
  where
    not_below : (n m : ℕ) → (n < m → ⊥) → nat_lt n m ≡ false
    not_below n m stays = by (nat_lt n m) refl
      where
        by : (b : Bool) → nat_lt n m ≡ b → b ≡ false
        by true is = absurd (stays (ltb-true n m is))
        by false is = refl

-- an operator that binds at a level is one of sixteen
pub operator_small : (op h : ℕ) → (binds op == suc h) ≡ true → nat_lt op 16 ≡ true
operator_small op h is = by (nat_lt op 16) refl
  where
    by : (b : Bool) → nat_lt op 16 ≡ b → b ≡ true
    by true less = refl
    by false less =
        let none = binds_none op (ltb-false op 16 less) in let e = eqb-true (binds op) (suc h) is in absurd (omega (arith, none, e))

-- at the fourth level it is a relation
relation_by : (op : ℕ) → (a b c d e f g i : Bool) → (op == 0) ≡ a → (op == 1) ≡ b → (op == 2) ≡ c → (op == 3) ≡ d → (op == 4) ≡ e → nat_lt op 11 ≡ f
    → ((if a then 10 else if b then 9 else if c then 7 else if d then 6 else if e then 5 else if f then 4 else if g then 3 else if i then 2 else 0) == 4) ≡ true
    → is_relation op ≡ true
relation_by op true b c d e f g i p0 p1 p2 p3 p4 p5 is = never is
relation_by op false true c d e f g i p0 p1 p2 p3 p4 p5 is = never is
relation_by op false false true d e f g i p0 p1 p2 p3 p4 p5 is = never is
relation_by op false false false true e f g i p0 p1 p2 p3 p4 p5 is = never is
relation_by op false false false false true f g i p0 p1 p2 p3 p4 p5 is = never is
relation_by op false false false false false true g i p0 p1 p2 p3 p4 p5 is =
    and_from (nat_le 5 op) (nat_lt op 11)
    (le-leb 5 op (least op (eqb-false op 0 p0) (eqb-false op 1 p1) (eqb-false op 2 p2) (eqb-false op 3 p3) (eqb-false op 4 p4))) p5
  where
    least : (n : ℕ) → (n ≡ 0 → ⊥) → (n ≡ 1 → ⊥) → (n ≡ 2 → ⊥) → (n ≡ 3 → ⊥) → (n ≡ 4 → ⊥) → 5 ≤ n
    least n a b c d e = omega (arith, a, b, c, d, e)
relation_by op false false false false false false true i p0 p1 p2 p3 p4 p5 is = never is
relation_by op false false false false false false false true p0 p1 p2 p3 p4 p5 is = never is
relation_by op false false false false false false false false p0 p1 p2 p3 p4 p5 is = never is

pub relation_there : (op : ℕ) → (binds op == 4) ≡ true → is_relation op ≡ true
unfolding binds
relation_there op is =
    relation_by op (op == 0) (op == 1) (op == 2) (op == 3) (op == 4) (nat_lt op 11) (nat_lt op 13) (nat_lt op 16) refl refl refl refl refl refl is

-- its number among relations is one of six
pub relation_small : (op : ℕ) → is_relation op ≡ true → nat_lt (op - 5) 6 ≡ true
relation_small op is = by (nat_le 5 op) (nat_lt op 11) refl refl is
  where
    less : (n : ℕ) → 5 ≤ n → n < 11 → n - 5 < 6
    less n a b = omega (arith, a, b)

    by : (a b : Bool) → nat_le 5 op ≡ a → nat_lt op 11 ≡ b → (a && b) ≡ true → nat_lt (op - 5) 6 ≡ true
    by true true p q h = lt-ltb (op - 5) 6 (less op (leb-true 5 op p) (ltb-true op 11 q))
    by true false p q h = never h
    by false b p q h = never h

-- a sign is one of two
pub sign_small : (op : ℕ) → is_sign op ≡ true → nat_lt (sign_number op) 3 ≡ true
sign_small op is = by (op == 11) (op == 12) refl refl is
  where
    by : (a b : Bool) → (op == 11) ≡ a → (op == 12) ≡ b → (a || b) ≡ true → nat_lt (op - 11) 3 ≡ true
    by true b p q h = ap (λ (n : ℕ). nat_lt (n - 11) 3) (eqb-true op 11 p)
    by false true p q h = ap (λ (n : ℕ). nat_lt (n - 11) 3) (eqb-true op 12 q)
    by false false p q h = never h

-- the number of a word is less than there are words
number_less : (ws : List String) (n k : ℕ) (letters : List ℕ) → number_among ws n letters ≡ Some k → k < n + length ws
number_less [] n k letters is = cc
number_less (w ∷ ws) n k letters is = by (is_word letters w) is (number_less ws (suc n) k letters)
  where
    same : (a b : ℕ) → Some a ≡ Some b → a ≡ b
    same a b e = cc

    first : (a b l : ℕ) → a ≡ b → b < a + suc l
    first a b l e = omega (arith, e)

    later : (a b l : ℕ) → b < suc a + l → b < a + suc l
    later a b l e = omega (arith, e)

    by : (b : Bool) → (if b then Some n else number_among ws (suc n) letters) ≡ Some k → (number_among ws (suc n) letters ≡ Some k → k < suc n + length ws)
        → k < n + suc (length ws)
    by true here rest = first n k (length ws) (same n k here)
    by false here rest = later n k (length ws) (rest here)

pub shift_small : (letters : List ℕ) (k : ℕ) → shift_of letters ≡ Some k → nat_lt k 6 ≡ true
unfolding shift_of
shift_small letters k is = lt-ltb k 6 (number_less ("ASL" ∷ "ASR" ∷ "LSL" ∷ "LSR" ∷ "CSL" ∷ "CSR" ∷ []) 0 k letters is)

pub class_small : (letters : List ℕ) (k : ℕ) → class_of letters ≡ Some k → nat_lt k 5 ≡ true
unfolding class_of
class_small letters k is = lt-ltb k 5 (number_less ("A" ∷ "N" ∷ "AN" ∷ "AS" ∷ "ANS" ∷ []) 0 k letters is)
