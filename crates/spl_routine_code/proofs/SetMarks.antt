-- The marks of a module while a body is appended: that of its way out is made, its entry's is set, those of its labels are made and set, and at
-- last that of its way out is set.
use Rattle.std.proofs.Common.{◌≡◌, ◌<◌, ℕ, suc, ◌+◌, ◌++◌, ◌∷◌, [], List, Bool, true, false, not, length, get_or, replicate, set, sym, ap, ◌∙◌, arith}
use Rattle.std.proofs.lemmas.Bool.{and_parts, and_from, lt-ltb, ltb-true}
use Rattle.std.proofs.lemmas.List.{append_assoc, length-append, length-set, set-append_left, get_or_append_left}
use Rattle.std.proofs.Math.Seq.{set-append_seam, get_or-append_seam}
use Rattle.spl_branch.specs.Pieces.{is_settable}
use Rattle.spl_branch.specs.declared.pieces.Piece.TheVariants.{Mark}

-- a mark that may be set was made
pub settable_made : (xs : List Bool) (m : ℕ) → is_settable xs (Mark m) ≡ true → m < length xs
settable_made xs m h = ltb-true m (length xs) (and_parts _ _ h).0

-- one that may be set may be set where more have been made
pub settable_more : (xs ys : List Bool) (m : ℕ) → is_settable xs (Mark m) ≡ true → is_settable (xs ++ ys) (Mark m) ≡ true
settable_more xs ys m h =
    let lt = settable_made xs m h in
    let more : m < length (xs ++ ys) = let is = length-append xs ys in omega (arith, lt, is) in
    and_from _ _ (lt-ltb _ _ more) (ap not (get_or_append_left xs ys false m lt) ∙ (and_parts _ _ h).1)

-- the marks behind an entry that is set, with that of the way out behind them
pub entered : (xs : List Bool) (entry : ℕ) → is_settable xs (Mark entry) ≡ true → set (xs ++ false ∷ []) entry true ≡ set xs entry true ++ false ∷ []
entered xs entry h = set-append_left xs (false ∷ []) entry true (settable_made xs entry h)

-- that of the way out may be set behind them
pub leave_settable : (xs : List Bool) (entry k : ℕ)
    → is_settable ((set xs entry true ++ false ∷ []) ++ replicate k true) (Mark (length xs)) ≡ true
leave_settable xs entry k =
    let front : List Bool = set xs entry true in
    let count : length front ≡ length xs = length-set xs entry true in
    let whole = append_assoc front (false ∷ []) (replicate k true) in
    let lt : length xs < length ((front ++ false ∷ []) ++ replicate k true) =
    let a = length-append (front ++ false ∷ []) (replicate k true) in
    let b = length-append front (false ∷ []) in
    omega (arith, a, b, count) in
    and_from _ _ (lt-ltb _ _ lt)
    (ap not (ap (λ ys. get_or ys (length xs) false) whole ∙ ap (λ n. get_or (front ++ false ∷ replicate k true) n false) (sym count)
    ∙ get_or-append_seam front false (replicate k true) false))

-- and then all are set
pub left : (xs : List Bool) (entry k : ℕ)
    → set ((set xs entry true ++ false ∷ []) ++ replicate k true) (length xs) true ≡ set xs entry true ++ replicate (suc k) true
left xs entry k =
    let front : List Bool = set xs entry true in
    ap (λ ys. set ys (length xs) true) (append_assoc front (false ∷ []) (replicate k true))
    ∙ ap (λ n. set (front ++ false ∷ replicate k true) n true) (sym (length-set xs entry true))
    ∙ set-append_seam front false (replicate k true) true
