-- The answers of moves, by what is moved behind the first address and its copy.
use Rattle.std.proofs.Common.{◌≡◌, ℕ, ◌+◌, ◌-◌, ◌≤◌, true, List, refl, subst, arith}
use Rattle.spl_statement_code.specs.spl_tree.declared.expressions.Kind.{Kind}
use Rattle.spl_statement_code.specs.spl_meaning.Elements.{with_one, moved_by}
use Rattle.spl_statement_code.specs.spl_meaning.References.{Located}
use Rattle.spl_statement_code.specs.spl_meaning.States.{State, Outcome, then_go}
use Rattle.spl_statement_code.specs.spl_meaning.Statements.{moved_far}
use Rattle.spl_statement_code.specs.spl_code.Code.{as_value}
use Rattle.spl_statement_code.specs.spl_code.Parts.{Part, pieces, piece, ◌⨟◌}
use Rattle.spl_statement_code.specs.Effects.{kept_first, told, move_of}
use Rattle.hp_call_yields.specs.spl_follow.Simulating.{Surroundings, Simulates}
use Rattle.spl_operands.proofs.spl_values_proofs.WholeLemmas.{whole_then, whole_behind, same_simulates}
use Rattle.spl_moves.specs.Moving.{IsReference, Answers}
use Rattle.spl_moves.specs.Laws.{CountedMovesAnswer}
use Rattle.spl_moves.proofs.PartLemmas.{IsSource}
use Rattle.spl_moves.proofs.CountedLemmas.{counted_move, counted_source, counted_meaning}
use Rattle.spl_moves.proofs.ValueLemmas.{moves_simulate}

-- a move whose answer is used, whatever it moves
pub move_answers : (z : Surroundings) (d k need more : ℕ) (t : Kind) (a source : Part) (to : State → Outcome Located) (move : Located → State → Outcome Located)
    (f : State → Outcome (List ℕ)) → IsReference z d k need t a to → IsSource z d (k + 1) more t source move → more + 1 ≤ need → 2 ≤ need
    → ((s : State) → f s ≡ then_go (to s) (λ p v. moved_far p (move p v)))
    → Answers z d k need (a ⨟ pieces (kept_first true) ⨟ source ⨟ pieces (told true)) f
move_answers z d k need more t a source to move f r x few enough same = record {
  whole = whole_behind (a ⨟ pieces (kept_first true) ⨟ source) (told true)
      (whole_then (a ⨟ pieces (kept_first true)) source (whole_behind a (kept_first true) r.whole refl) x.whole) refl;
  simulates = same_simulates z d as_value 1 k need (a ⨟ pieces (kept_first true) ⨟ source ⨟ pieces (told true))
      (a ⨟ pieces (kept_first true) ⨟ source ⨟ pieces (told true)) f (λ s. then_go (to s) (λ p v. moved_far p (move p v))) refl same
      (moves_simulate z d k need more t a source to move r x few enough);
}

pub two_more : (k : ℕ) → k + 2 ≡ k + 1 + 1
two_more k = omega arith

three_more : (k : ℕ) → k + 3 ≡ k + 1 + 2
three_more k = omega arith

pub counted_answer : CountedMovesAnswer
counted_answer z d k need more most bytes t o a b c to from count one other ra rb wc sc few less enough =
    move_answers z d k need (need - 1) t a (b ⨟ c ⨟ piece (move_of bytes 0)) to (counted_move from count)
    (λ s. then_go (to s) (λ p v. then_go (from v) (λ q x. then_go (count x) (λ vs y. with_one vs y (λ size h. moved_far p (moved_by size p q h)))))) ra
    (counted_source z d (k + 1) (need - 1) more most bytes t o b c from count one other
    (subst (λ (j : ℕ). IsReference z d j more o b from) (two_more k) rb) wc
    (subst (λ (j : ℕ). Simulates z d as_value 1 j most c count) (three_more k) sc) (omega (arith, few)) (omega (arith, less)) (omega (arith, enough)))
    (omega (arith, enough)) (omega (arith, enough)) (λ s j. then_go (to s) (λ p v. counted_meaning from count p v j))
