-- A part with marks for labels, behind so many marks.
use Rattle.std.proofs.Common.{◌≡◌, ℕ, suc, ◌+◌, [], ◌∷◌, length, ap, ◌∙◌, arith}
use Rattle.spl_module_code.specs.spl_code.Parts.{Written}
use Rattle.spl_module_code.specs.spl_statement_code.Landings.{Landing}
use Rattle.spl_module_code.specs.LabelsOfBodies.{landed_from}
use Rattle.spl_label_marks.specs.Laws.{with_more, LabelledPartsAre}

more_none : (a : Written) → a ≡ with_more 0 a
more_none a =
    let e : a.marks ≡ 0 + a.marks = omega arith in
    ap (λ m. record { pieces = a.pieces; marks = m; wants = a.wants }) e

more_one : (n : ℕ) (a : Written) → record { pieces = a.pieces; marks = suc (n + a.marks); wants = a.wants } ≡ with_more (suc n) a
more_one n a =
    let e : suc (n + a.marks) ≡ suc n + a.marks = omega arith in
    ap (λ m. record { pieces = a.pieces; marks = m; wants = a.wants }) e

pub landed_part : LabelledPartsAre
landed_part [] part l ws = let e : l ≡ l + 0 = omega arith in ap (λ n. part [] n ws) e ∙ more_none (part [] (l + 0) ws)
landed_part (x ∷ xs) part l ws =
    let here : Landing = record { mark = l; pending = x.pending } in
    let e : suc l + length xs ≡ l + suc (length xs) = omega arith in
    ap (λ (a : Written). record { pieces = a.pieces; marks = suc a.marks; wants = a.wants })
    (landed_part xs (λ t. part ((x.name, here) ∷ t)) (suc l) ws)
    ∙ more_one (length xs) (part ((x.name, here) ∷ landed_from (suc l) xs) (suc l + length xs) ws)
    ∙ ap (λ n. with_more (suc (length xs)) (part ((x.name, here) ∷ landed_from (suc l) xs) n ws)) e
