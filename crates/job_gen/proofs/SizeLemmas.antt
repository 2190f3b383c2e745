-- How long a text of lines is at most: a draw has at most three digits.
use Rattle.std.proofs.Common.{ℕ, ◌+◌, ◌<◌, ◌≤◌, List, [], ◌∷◌, length, arith, length-append, lit≤}
use Rattle.std.specs.Fmt.{decimal, digits}
use Rattle.std.proofs.lemmas.Fmt.{length-decimal-le}
use Rattle.job_gen.specs.Draws.{next, drawn}
use Rattle.job_gen.specs.Pieces.{bytes, draw, Line, filled, behind, ended, text_of}
use Rattle.job_gen.specs.Generated.{procedures, unit_lines, programs, sessions, job_lines, generated}
use Rattle.job_gen.proofs.LineLemmas.{drawn_small}

abbrev width : Line → ℕ
width [] = 0
width (bytes b ∷ ps) = length b + width ps
width (draw ∷ ps) = 3 + width ps

abbrev widths : List Line → ℕ
widths [] = 0
widths (l ∷ ls) = width (ended l) + widths ls

filled_short : (x : ℕ) (l : Line) → length (filled x l) ≤ width l
filled_short x [] = omega arith
filled_short x (bytes b ∷ ps) = let rest = filled_short x ps in omega (arith, length-append b (filled x ps))
filled_short x (draw ∷ ps) =
    let rest = filled_short (next x) ps in
    let few : drawn x < 1000 = drawn_small x in
    omega (arith, length-append (decimal (drawn x)) (filled (next x) ps), length-decimal-le 3 (drawn x) (omega arith) few (omega arith))

text_short : (x : ℕ) (ls : List Line) → length (text_of x ls) ≤ widths ls
text_short x [] = omega arith
text_short x (l ∷ ls) =
    let rest = text_short (behind x l) ls in
    omega (arith, length-append (filled x (ended l)) (text_of (behind x l) ls), filled_short x (ended l))

job_width : widths job_lines ≤ 1048576
unfolding digits procedures unit_lines programs sessions job_lines
job_width = lit≤ tt

pub generated_short : (n : ℕ) → length (generated n) ≤ 1048576
unfolding generated
generated_short n = let most = text_short n job_lines in let all = job_width in omega arith
