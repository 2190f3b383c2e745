-- So many zeros are pushed as there are local words: 255 for each row, and the rest.
use Rattle.std.proofs.Common.{◌≡◌, ℕ, zero, suc, ◌+◌, ◌*◌, ◌/◌, ◌%◌, ◌==◌, Bool, true, false, if◌then◌else◌, List, [], ◌∷◌, ◌++◌, replicate, refl, sym, arith}
use Rattle.std.proofs.lemmas.Bool.{eqb-true}
use Rattle.spl_code.specs.spl_meaning.Places.{sum}
use Rattle.spl_code.specs.spl_branch.declared.pieces.Piece.{Piece}
use Rattle.spl_body_code.specs.Frames.{ADDS, zeroed, last_zeros}
use Rattle.spl_body_code.specs.Zeros.{zeros_in}

zeros_append : (ps qs : List Piece) → sum zeros_in (ps ++ qs) ≡ sum zeros_in ps + sum zeros_in qs
zeros_append [] qs = omega arith
zeros_append (x ∷ ps) qs = omega (arith, zeros_append ps qs)

rows : (k : ℕ) → sum zeros_in (replicate k (ADDS 255)) ≡ 255 * k
rows zero = refl
rows (suc k) = omega (arith, rows k)

rest_by : (b : Bool) (n : ℕ) → (n == 0) ≡ b → sum zeros_in (if b then [] else ADDS n ∷ []) ≡ n
rest_by true n is = sym (eqb-true n 0 is)
rest_by false n is = omega arith

pub zeros_pushed : (words : ℕ) → sum zeros_in (zeroed words) ≡ words
zeros_pushed words =
    let all = rows (words / 255) in
    let rest = rest_by (words % 255 == 0) (words % 255) refl in
    let both = zeros_append (replicate (words / 255) (ADDS 255)) (last_zeros (words % 255)) in
    omega arith
