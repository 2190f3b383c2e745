-- The code of a statement has few words, along the tree.
use Rattle.std.proofs.Common.{◌≤◌, ℕ, ◌+◌, ◌*◌, true, false, List, [], arith}
use Rattle.spl_code.specs.spl_tree.StatementTrees as stat
use Rattle.spl_code.specs.spl_tree.StatementTrees.{Statement, Statements}
use Rattle.spl_code.specs.spl_meaning.Bound.{statement_weight, statements_weight}
use Rattle.spl_code.specs.spl_branch.declared.pieces.Piece.TheVariants.{Begin, Mark}
use Rattle.spl_code.specs.spl_branch.Pieces.{count_of}
use Rattle.spl_code.specs.Instructions.{BR, DEL}
use Rattle.spl_code.specs.Parts.{Part, Wanted}
use Rattle.spl_code.proofs.CountLemmas.{Few, few_then, few_more, few_pieces, few_fresh, few_one}
use Rattle.spl_statement_code.specs.Instructions.{SUBS}
use Rattle.spl_statement_code.specs.Landings.{Context}
use Rattle.spl_statement_code.specs.Statements.{statement, listed, arms}
use Rattle.spl_statement_code.specs.FewWords.{nested_loops, nested_among}
use Rattle.spl_statement_code.proofs.CountLemmas.{spared, few_value, few_test, few_jump, few_gone, few_landed, few_tested, some_test, some_weight, few_assigned, few_effect, some_effect, few_counter, few_step, few_turns, few_arm, few_call}

-- a part with few words, with twelve to spare
spare : {n w : ℕ} (p : Part) → Few n p → n + 12 ≤ w → (l : ℕ) (ws : List Wanted) → count_of (p l ws).pieces + 12 ≤ w
spare {n} {w} p h le l ws = let all : count_of (p l ws).pieces ≤ n = h.few l ws in omega arith

mutual
  pub few_statement : (c : Context) (s : Statement) (k l : ℕ) (ws : List Wanted) → k + 3 * nested_loops s ≤ 255
      → count_of (statement c s k l ws).pieces + 12 ≤ statement_weight s
  few_statement c stat.Statement.empty k l ws le = omega arith
  few_statement c (stat.Statement.labelled x at s) k l ws le =
      let some = few_statement c s k 0 [] le in
      spare _ (few_then (few_then (few_landed (c.landings x)) (few_one (SUBS 0))) (spared (statement_weight s) 12 (statement c s k) (λ l ws. few_statement c s k l ws le))) (omega arith) l ws
  few_statement c (stat.Statement.block ss) k l ws le = spare _ (few_then (few_one (SUBS 0)) (few_listed c ss k le)) (omega arith) l ws
  few_statement c (stat.Statement.if_test q s stat.Statements.none at) k l ws le =
      let some = few_statement c s k 0 [] (omega arith) in
      let test = some_test q in
      spare _ (few_then (few_one (Begin at)) (few_fresh _ (λ fail.
      few_then (few_then (few_tested c.scope q fail k) (spared (statement_weight s) 12 (statement c s k) (λ l ws. few_statement c s k l ws (omega arith)))) (few_one (Mark fail))))) (omega arith) l ws
  few_statement c (stat.Statement.if_test q s (stat.Statements.and t ss) at) k l ws le =
      let some = few_statement c s k 0 [] (omega arith) in
      let others = few_statement c t k 0 [] (omega arith) in
      let test = some_test q in
      spare _ (few_then (few_one (Begin at)) (few_fresh _ (λ fail. few_fresh _ (λ end.
      few_then (few_then (few_then (few_then (few_then (few_tested c.scope q fail k) (spared (statement_weight s) 12 (statement c s k) (λ l ws. few_statement c s k l ws (omega arith)))) (few_one (BR end))) (few_one (Mark fail)))
      (spared (statement_weight t) 12 (statement c t k) (λ l ws. few_statement c t k l ws (omega arith)))) (few_one (Mark end)))))) (omega arith) l ws
  few_statement c (stat.Statement.while_true e s at) k l ws le =
      let some = few_statement c s k 0 [] le in
      let test = some_weight c.scope e in
      spare _ (few_fresh _ (λ next. few_fresh _ (λ end.
      few_then (few_then (few_then (few_then (few_one (Mark next)) (few_test c.scope e end k)) (spared (statement_weight s) 12 (statement c s k) (λ l ws. few_statement c s k l ws le))) (few_one (BR next))) (few_one (Mark end)))))
      (omega arith) l ws
  few_statement c (stat.Statement.until_true s e at) k l ws le =
      let some = few_statement c s k 0 [] le in
      let test = some_weight c.scope e in
      spare _ (few_fresh _ (λ again.
      few_then (few_then (few_then (few_one (SUBS 0)) (few_one (Mark again))) (spared (statement_weight s) 12 (statement c s k) (λ l ws. few_statement c s k l ws le))) (few_test c.scope e again k))) (omega arith) l ws
  few_statement c (stat.Statement.for_values x first step last s at) k l ws le =
      let inner : (k + 3) + 3 * nested_loops s ≤ 255 = omega arith in
      let some = few_statement c s (k + 3) 0 [] inner in
      let a = some_weight c.scope first in
      let b = some_weight c.scope last in
      spare _ (few_then (few_then (few_one (Begin at)) (few_then (few_then (few_then (few_value c.scope first k) (few_counter c.scope x k))
      (few_step c.scope step (k + 1))) (few_value c.scope last (k + 2)))) (few_turns (statement c s (k + 3)) (spared (statement_weight s) 12 (statement c s (k + 3)) (λ l ws. few_statement c s (k + 3) l ws inner)))) (omega arith) l ws
  few_statement c (stat.Statement.case_of e ss at) k l ws le =
      let some = some_weight c.scope e in
      spare _ (few_then (few_one (Begin at)) (few_fresh _ (λ end.
      few_then (few_then (few_then (few_value c.scope e k) (few_arms c ss k end le)) (few_one DEL)) (few_one (Mark end))))) (omega arith) l ws
  few_statement c (stat.Statement.go_to x at) k l ws le =
      spare _ (few_then (few_one (Begin at)) (few_gone (c.landings x) k (omega arith))) (omega arith) l ws
  few_statement c (stat.Statement.return at) k l ws le = spare _ (few_then (few_one (Begin at)) (few_jump k c.leave (omega arith))) (omega arith) l ws
  few_statement c (stat.Statement.assign to e at) k l ws le =
      let some = some_weight c.scope e in
      spare _ (few_then (few_one (Begin at)) (few_assigned c.scope to _ k (λ j. few_value c.scope e j))) (omega arith) l ws
  few_statement c (stat.Statement.assign_effect to e at) k l ws le =
      let some = some_effect e in
      spare _ (few_then (few_one (Begin at)) (few_assigned c.scope to _ k (λ j. few_effect c.scope true e j))) (omega arith) l ws
  few_statement c (stat.Statement.do_effect e at) k l ws le =
      let some = some_effect e in
      spare _ (few_then (few_one (Begin at)) (few_effect c.scope false e k)) (omega arith) l ws
  few_statement c (stat.Statement.call x es at) k l ws le =
      spare _ (few_then (few_one (Begin at)) (few_call c.scope x es at k)) (omega arith) l ws

  pub few_listed : (c : Context) (ss : Statements) (k : ℕ) → k + 3 * nested_among ss ≤ 255 → Few (statements_weight ss) (listed c ss k)
  few_listed c stat.Statements.none k le = few_pieces {n = 0} [] (omega arith)
  few_listed c (stat.Statements.and s ss) k le =
      let some = few_statement c s k 0 [] (omega arith) in
      few_more (few_then (spared (statement_weight s) 12 (statement c s k) (λ l ws. few_statement c s k l ws (omega arith))) (few_listed c ss k (omega arith))) (omega arith)

  few_arms : (c : Context) (ss : Statements) (k end : ℕ) → k + 3 * nested_among ss ≤ 255 → Few (statements_weight ss) (arms c ss k end)
  few_arms c stat.Statements.none k end le = few_pieces {n = 0} [] (omega arith)
  few_arms c (stat.Statements.and s ss) k end le =
      let some = few_statement c s k 0 [] (omega arith) in
      few_more (few_then (few_arm (statement c s k) end (spared (statement_weight s) 12 (statement c s k) (λ l ws. few_statement c s k l ws (omega arith)))) (few_arms c ss k end (omega arith))) (omega arith)
