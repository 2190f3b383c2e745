-- The answers of MOVE and SCAN, each by what is moved or scanned behind the first address and its copy.
use Rattle.std.proofs.Common.{◌≡◌, ℕ, suc, ◌+◌, ◌-◌, true, List, [], ◌∷◌, ◌++◌, refl, sym, subst, arith}
use Rattle.std.proofs.lemmas.List.{append_assoc}
use Rattle.spl_moves.specs.spl_branch.declared.pieces.Piece.{Piece}
use Rattle.spl_moves.specs.spl_meaning.Elements.{with_one, moved_text, moved_while, scanned}
use Rattle.spl_moves.specs.spl_meaning.States.{State, Outcome, then_go}
use Rattle.spl_moves.specs.spl_meaning.Statements.{moved_far}
use Rattle.spl_moves.specs.spl_code.Code.{as_value}
use Rattle.spl_moves.specs.spl_code.Parts.{Part, pieces, piece, ◌⨟◌}
use Rattle.spl_moves.specs.spl_statement_code.Effects.{kept_first, told, class_letters, scan_of}
use Rattle.spl_moves.specs.spl_statement_code.Instructions.{MVBW}
use Rattle.spl_moves.specs.spl_follow.Simulating.{Surroundings, Simulates}
use Rattle.spl_moves.specs.Moving.{IsReference, Answers}
use Rattle.spl_scans.specs.Laws.{text_moved, TextMovesAnswer, ClassMovesAnswer, ScansAnswer}
use Rattle.spl_moves.proofs.AnswerLemmas.{move_answers, two_more}
use Rattle.spl_scans.proofs.TextLemmas.{text_source}
use Rattle.spl_scans.proofs.ByteLemmas.{class_move, class_source, class_meaning, scan_move, scan_source, scan_meaning}

pub text_answer : TextMovesAnswer
text_answer z d k need bytes t a to text one small ra enough =
    move_answers z d k need (need - 1) t a (text_moved bytes text) to (λ p s. moved_text text p s)
    (λ s. then_go (to s) (λ p v. moved_far p (moved_text text p v))) ra
    (text_source z d (k + 1) (need - 1) bytes t text one small (omega (arith, enough))) (omega (arith, enough)) (omega (arith, enough)) (λ s. refl)

pub class_answer : ClassMovesAnswer
class_answer z d k need more t o class a b to from one other ra rb few enough =
    move_answers z d k need (need - 1) t a (b ⨟ piece (MVBW (class_letters class))) to (class_move d class from)
    (λ s. then_go (to s) (λ p v. then_go (from v) (λ q x. moved_far p (moved_while (suc d) class p q x)))) ra
    (class_source z d (k + 1) (need - 1) more t o class b from one other (subst (λ (j : ℕ). IsReference z d j more o b from) (two_more k) rb)
    (omega (arith, few)) (omega (arith, enough))) (omega (arith, enough)) (omega (arith, enough))
    (λ s j. then_go (to s) (λ p v. class_meaning d class from p v j))

-- ---- SCAN

-- parts with the same pieces and wants answer the same
regrouped : (z : Surroundings) (d k need : ℕ) (a b : Part) (f : State → Outcome (List ℕ)) → a ≡ b → Answers z d k need b f → Answers z d k need a f
regrouped z d k need a b f same x = subst (λ (c : Part). Answers z d k need c f) (sym same) x

-- one part behind another, and one piece more behind both
together : (a b : Part) (p : Piece) (ps : List Piece) → a ⨟ b ⨟ piece p ⨟ pieces ps ≡ a ⨟ (b ⨟ piece p) ⨟ pieces ps
together a b p ps j l ws =
    let x = a l ws in
    let y = b (l + x.marks) x.wants in
    let count : x.marks + y.marks + 0 + 0 ≡ x.marks + (y.marks + 0) + 0 = omega arith in
    record { pieces = append_assoc x.pieces y.pieces (p ∷ []) j ++ ps; marks = count j; wants = y.wants }

pub scan_answer : ScansAnswer
scan_answer z d k need more t until a b from value one ra wb sb few enough =
    regrouped z d k need (a ⨟ pieces (kept_first true) ⨟ b ⨟ piece (scan_of until) ⨟ pieces (told true))
    (a ⨟ pieces (kept_first true) ⨟ (b ⨟ piece (scan_of until)) ⨟ pieces (told true))
    (λ s. then_go (from s) (λ p v. then_go (value v) (λ vs x. with_one vs x (λ w y. moved_far p (scanned (suc d) until w p y)))))
    (together (a ⨟ pieces (kept_first true)) b (scan_of until) (told true))
    (move_answers z d k need (need - 1) t a (b ⨟ piece (scan_of until)) from (scan_move d until value)
    (λ s. then_go (from s) (λ p v. then_go (value v) (λ vs x. with_one vs x (λ w y. moved_far p (scanned (suc d) until w p y))))) ra
    (scan_source z d (k + 1) (need - 1) more t until b value one wb (subst (λ (j : ℕ). Simulates z d as_value 1 j more b value) (two_more k) sb)
    (omega (arith, few)) (omega (arith, enough))) (omega (arith, enough)) (omega (arith, enough))
    (λ s j. then_go (from s) (λ p v. scan_meaning d until value p v j)))
