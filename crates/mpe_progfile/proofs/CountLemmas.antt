-- The bytes of numbers of entries, one segment at a time.
use Rattle.std.proofs.Common.{ℕ, zero, suc, ◌≡◌, ◌+◌, ◌*◌, ◌<◌, ◌≤◌, List, [], ◌∷◌, ◌++◌, length, None, Vec, Global, refl, sym, ap, ◌∙◌, arith}
use Rattle.std.specs.Prelude.{get_or, map, drop}
use Rattle.std.proofs.lemmas.List.{append_assoc, append-nil}
use Rattle.hp_program.specs.Valid.{bad_segment}
use Rattle.mpe_progfile.specs.Reading.{count_bytes}
use Rattle.mpe_progfile.proofs.SizeLemmas.{nth_short}

abbrev items_of : List (Vec ℕ Global) → List (List ℕ)
items_of segments = map (λ s. s.items) segments

nth_items : (segments : List (Vec ℕ Global)) (i : ℕ) (w : Vec ℕ Global) → i < length segments → w ≡ get_or segments i w
    → get_or (items_of segments) i [] ≡ w.items
nth_items [] i w l e = absurd (omega (arith, l))
nth_items (s ∷ ss) zero w l e = ap (λ (x : Vec ℕ Global). x.items) (sym e)
nth_items (s ∷ ss) (suc i) w l e = nth_items ss i w (omega (arith, l)) e

length_items : (segments : List (Vec ℕ Global)) → length (items_of segments) ≡ length segments
length_items [] = refl
length_items (s ∷ ss) = ap suc (length_items ss)

-- a segment of these has at most 16,383 words
pub one_short : (segments : List (Vec ℕ Global)) (i : ℕ) (w : Vec ℕ Global) → bad_segment 0 (items_of segments) ≡ None → i < length segments
    → w ≡ get_or segments i w → length w.items ≤ 16383
one_short segments i w b l e =
    let n = nth_short 0 (items_of segments) i [] b (omega (arith, l, length_items segments)) in
    let same : length (get_or (items_of segments) i []) ≡ length w.items = ap length (nth_items segments i w l e) in
    omega (arith, n, same)

-- the segments from one on
fronted : (segments : List (Vec ℕ Global)) (i : ℕ) (w : Vec ℕ Global) → i < length segments → w ≡ get_or segments i w
    → drop i segments ≡ w ∷ drop (suc i) segments
fronted [] i w l e = absurd (omega (arith, l))
fronted (s ∷ ss) zero w l e = ap (λ (x : Vec ℕ Global). x ∷ ss) (sym e)
fronted (s ∷ ss) (suc i) w l e = fronted ss i w (omega (arith, l)) e

-- one segment more
pub count_on : (before : List ℕ) (at : ℕ) (segments : List (Vec ℕ Global)) (i : ℕ) (w : Vec ℕ Global) → i < length segments → w ≡ get_or segments i w
    → before ++ count_bytes at (items_of (drop i segments))
    ≡ (before ++ (at + 2 * length w.items) ∷ []) ++ count_bytes (at + 2 * length w.items + 2) (items_of (drop (i + 1) segments))
count_on before at segments i w l e =
    let next : suc i ≡ i + 1 = omega arith in
    ap (λ (x : List (Vec ℕ Global)). before ++ count_bytes at (items_of x)) (fronted segments i w l e)
    ∙ ap (λ (n : ℕ). before ++ (at + 2 * length w.items) ∷ count_bytes (at + 2 * length w.items + 2) (items_of (drop n segments))) next
    ∙ sym (append_assoc before ((at + 2 * length w.items) ∷ []) (count_bytes (at + 2 * length w.items + 2) (items_of (drop (i + 1) segments))))

dropped : (segments : List (Vec ℕ Global)) (i : ℕ) → length segments ≤ i → drop i segments ≡ []
dropped [] zero l = refl
dropped [] (suc i) l = refl
dropped (s ∷ ss) zero l = absurd (omega (arith, l))
dropped (s ∷ ss) (suc i) l = dropped ss i (omega (arith, l))

-- all segments
pub count_end : (before : List ℕ) (at : ℕ) (segments : List (Vec ℕ Global)) (i : ℕ) → length segments ≤ i
    → before ++ count_bytes at (items_of (drop i segments)) ≡ before
count_end before at segments i l = ap (λ (x : List (Vec ℕ Global)). before ++ count_bytes at (items_of x)) (dropped segments i l) ∙ append-nil before

pub ruleset count_turns = (one_short, count_on, count_end)
