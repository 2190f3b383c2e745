-- Lines put together piece by piece, and texts one behind the other.
use Rattle.std.proofs.Common.{◌≡◌, ℕ, zero, suc, ◌+◌, ◌<◌, ◌≤◌, List, [], ◌∷◌, ◌++◌, length, get_or, drop, map, refl, sym, ap, ◌∙◌, arith, append_assoc, append-nil}
use Rattle.std.specs.Borrow.{Bor}
use Rattle.job_report.specs.Lines.{line}

-- what is left of a list from an index on: the item there, and then the rest
front : {A : Type 0} (xs : List A) (i : ℕ) (x : A) → i < length xs → x ≡ get_or xs i x → drop i xs ≡ x ∷ drop (suc i) xs
front [] i x l e = absurd (omega (arith, l))
front (y ∷ ys) zero x l e = ap (λ z. z ∷ ys) (sym e)
front (y ∷ ys) (suc i) x l e = front ys i x (omega (arith, l)) e

pub fronted : {A : Type 0} (xs : List A) (i : ℕ) (x : A) → i < length xs → x ≡ get_or xs i x → drop i xs ≡ x ∷ drop (i + 1) xs
fronted xs i x l e = let n : suc i ≡ i + 1 = omega arith in front xs i x l e ∙ ap (λ k. x ∷ drop k xs) n

-- and nothing from its end on
pub dropped : {A : Type 0} (xs : List A) (i : ℕ) → length xs ≤ i → drop i xs ≡ []
dropped [] zero l = refl
dropped [] (suc i) l = refl
dropped (x ∷ xs) zero l = absurd (omega (arith, l))
dropped (x ∷ xs) (suc i) l = dropped xs i (omega (arith, l))

abbrev now_of : List (Bor (List ℕ)) → List (List ℕ)
now_of pieces = map (λ p. p.now) pieces

-- a piece, and then the rest of the line
turn : (before piece : List ℕ) (pieces : List (List ℕ)) → before ++ line (piece ∷ pieces) ≡ (before ++ piece) ++ line pieces
turn before piece pieces = sym (append_assoc before piece (line pieces))

empty : (before : List ℕ) → before ++ line [] ≡ before ++ 10 ∷ []
empty before = refl

-- one piece more
pub piece_on : (before : List ℕ) (ps : List (Bor (List ℕ))) (i : ℕ) (p : Bor (List ℕ)) → i < length ps → p ≡ get_or ps i p
    → before ++ line (now_of (drop i ps)) ≡ (before ++ p.now) ++ line (now_of (drop (i + 1) ps))
piece_on before ps i p l e =
    ap (λ x. before ++ line (now_of x)) (fronted ps i p l e) ∙ turn before p.now (now_of (drop (i + 1) ps))

-- the last piece stands, and a line feed ends the line
pub piece_end : (before : List ℕ) (ps : List (Bor (List ℕ))) (i : ℕ) → length ps ≤ i → before ++ line (now_of (drop i ps)) ≡ before ++ 10 ∷ []
piece_end before ps i l = ap (λ x. before ++ line (now_of x)) (dropped ps i l) ∙ empty before

pub ruleset line_turns = (piece_on, piece_end)

pub ruleset joined = (append_assoc, append-nil)
