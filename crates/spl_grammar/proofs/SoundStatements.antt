-- What is read as a statement is spelled; a fault comes behind tokens that open it, with the nesting.
use Rattle.std.proofs.Common.{ℕ, zero, suc, ◌+◌, ◌≡◌, ◌<◌, ◌≤◌, Bool, true, false, if◌then◌else◌, List, [], ◌∷◌, ◌++◌, length, refl, arith, ap, sym, ◌∙◌, nat_lt, append_assoc}
use Rattle.spl_reading.specs.spl_tree.declared.symbols.Symbol.{Symbol}
use Rattle.spl_reading.specs.spl_tree.declared.symbols.Symbol.TheVariants as s
use Rattle.spl_reading.specs.spl_tree.declared.symbols.Reserved.{Reserved}
use Rattle.spl_reading.specs.spl_tree.declared.symbols.Reserved.TheVariants as w
use Rattle.spl_reading.specs.spl_tree.Symbols.{Lexeme, Is}
use Rattle.spl_reading.specs.spl_tree.Expressions as g
use Rattle.spl_reading.specs.spl_tree.Parts as part
use Rattle.spl_reading.specs.spl_tree.OpenStatements as os
use Rattle.spl_reading.specs.spl_tree.OpenExpressions as op
use Rattle.spl_reading.specs.spl_tree.OpenExpressions.{Step, Opens, here, inner, OpensAt, nesting}
use Rattle.spl_reading.specs.spl_tree.Parts.{Part}
use Rattle.spl_reading.specs.spl_tree.Trees as tree
use Rattle.spl_reading.specs.spl_tree.Trees.{Tree, Trees, trees}
use Rattle.spl_reading.specs.spl_tree.StatementTrees as stat
use Rattle.spl_reading.specs.spl_tree.StatementTrees.{closed, statements}
use Rattle.spl_reading.specs.spl_tree.Statements as st
use Rattle.spl_reading.specs.spl_tree.Statements.{class_of, is_relation}
use Rattle.spl_reading.specs.Readers.{Parser, and_then, followed, ◌>>=◌, by_symbol, pure, refuse, take, at_place, repeat, turns, same_symbol, expect}
use Rattle.spl_reading.specs.ReadExpressions.{is, operator_of, enter, more_arguments, arguments, within, expression, condition}
use Rattle.spl_reading.specs.ReadStatements.{effect, if_test, behind_reference, is_single, stepped, go_name, more_statements, statement_list, labelled, with_arguments, named_statement, address_assigned, block, else_behind, if_statement, while_statement, do_statement, for_statement, case_statement, go_statement, effect_statement, by_word, statement_by, statement_step, statement}
use Rattle.spl_grammar.specs.Answers.{Explains, bad}
use Rattle.spl_grammar.proofs.ExplainReaders.{at_here, explain_then, explain_expect, explain_next, explain_pure, explain_bad, explain_symbol, explain_if, explain_along, explain_named, reached, along, followed_assoc, recast, explain_as}
use Rattle.spl_grammar.proofs.ExplainReaders as er
use Rattle.spl_grammar.proofs.SoundOperands.{arguments_explained, explain_enter, explain_opening, too_many, is_it, one_more, few, few_more}
use Rattle.spl_grammar.proofs.SoundExpressions.{within_explained}
use Rattle.spl_grammar.proofs.NearReaders.{same_self}
use Rattle.spl_grammar.proofs.StatementTokens as tk
pub use Rattle.spl_grammar.proofs.SoundStatementParts.{chain, ref_at, expr_at, cond_at, stat_at, list_at, target_at, test_at, step_at, expr_explained, cond_explained, StatementGot, got_at, got_closed, got_assign, got_assign_effect, got_call, ScanWord, fine, indexed_explained, reference_explained, source_behind_explained, source_explained, move_explained, scanned_explained, scan_explained, effect_explained, value_explained, assigned_explained, field_explained, behind_explained, until_word, while_word}

-- Lists of statements.

-- the statements read so far, the last of them without its ";"
record Ahead (xs : List stat.Statement) (ts mid : List Lexeme) : Type 0 where
  pub gives : (more : List stat.Statement) (rest : List Lexeme) → st.Statements more mid rest
      → st.Statements (xs ++ more) ts rest
  pub opens : (d : ℕ) → Opens part.statements d 0 ts part.statements d 0 mid

record ReadSoFar (xs : List stat.Statement) (ts now : List Lexeme) : Type 0 where
  pub before : List stat.Statement
  pub last : stat.Statement
  pub middle : List Lexeme
  pub all : xs ≡ before ++ last ∷ []
  pub first : Ahead before ts middle
  pub spelled : st.Statement last middle now

read_is : {xs : List stat.Statement} {ts now : List Lexeme} → ReadSoFar xs ts now → st.Statements xs ts now
read_is {ts = ts} {now = now} x = rw x.all (x.first.gives (x.last ∷ []) now (st.Statements.one x.spelled))

semicolon_behind : {xs : List stat.Statement} {ts us : List Lexeme} {t : Lexeme} → ReadSoFar xs ts (t ∷ us)
    → Is s.Semicolon t → Ahead xs ts us
semicolon_behind {xs = xs} {ts = ts} {us = us} {t = t} x i = record {
  gives = λ more rest a. rw (x.all, append_assoc x.before (x.last ∷ []) more)
      (x.first.gives (x.last ∷ more) rest (st.Statements.more x.spelled i a));
  opens = λ d. along (x.first.opens d) (inner (op.of_statement (os.next_statement x.spelled i)) here);
}

one_read : {x : stat.Statement} {ts rest : List Lexeme} → st.Statement x ts rest → ReadSoFar (x ∷ []) ts rest
one_read {x = x} {ts = ts} v = record {
  before = [];
  last = x;
  middle = ts;
  all = refl;
  first = record { gives = λ more rest a. a; opens = λ d. here };
  spelled = v;
}

record ListTurn (ts now : List Lexeme) (r : Bool × List stat.Statement) (rest : List Lexeme) : Type 0 where
  pub state : ReadSoFar r.1 ts rest
  pub less : r.0 ≡ true → length rest < length now

module _ (most d : ℕ) (l : nesting d 0 ≤ most) (one : Parser stat.Statement)
    (claim : (ts : List Lexeme) → Explains most (λ x rest. st.Statement x ts rest) part.statement d 0 ts (one ts)) where
  semicolon_explained : (xs : List stat.Statement) (ts : List Lexeme) (t : Lexeme) (us : List Lexeme)
      → ReadSoFar xs ts (t ∷ us) → Is s.Semicolon t
      → Explains most (ListTurn ts (t ∷ us)) part.statements d 0 ts
      ((take >>= (λ _. one >>= (λ x. pure (true, xs ++ x ∷ [])))) (t ∷ us))
  unfolding followed take and_then
  semicolon_explained xs ts t us x i = explain_along one _
      (along ((semicolon_behind x i).opens d) (inner (op.of_statement os.first_statement) here)) (claim us)
      (λ y rest v. explain_pure _ rest (record {
        state = record { before = xs; last = y; middle = us; all = refl; first = semicolon_behind x i; spelled = v };
        less = λ _. let a = tk.no_longer v in omega arith;
      }))

  list_turn_explained : (xs : List stat.Statement) (ts now : List Lexeme) → ReadSoFar xs ts now
      → Explains most (ListTurn ts now) part.statements d 0 ts (more_statements one xs now)
  unfolding more_statements
  list_turn_explained xs ts now x = explain_symbol _ now (reached (x.first.opens d) (chain (os.semicolon x.spelled))) l
      (λ t us q. rw q (explain_if (is s.Semicolon t.symbol) _ _ (t ∷ us)
      (λ e. semicolon_explained xs ts t us (rw q at x) (is_it s.Semicolon t e))
      (λ e. explain_pure _ (t ∷ us) (record { state = rw q at x; less = λ f. cc }))))

  list_turns_explained : (fuel : ℕ) (xs : List stat.Statement) (ts now : List Lexeme) → length now < fuel
      → ReadSoFar xs ts now
      → Explains most (λ ys rest. st.Statements ys ts rest) part.statements d 0 ts
      (turns (more_statements one) fuel xs now)
  unfolding turns
  list_turns_explained zero xs ts now k x = absurd (omega arith)
  list_turns_explained (suc fuel) xs ts now k x = explain_next _ _ now (list_turn_explained xs ts now x) (λ r rest v.
      explain_if r.0 _ _ rest (λ e. let m = v.less e in list_turns_explained fuel r.1 ts rest (omega arith) v.state)
      (λ e. explain_pure r.1 rest (read_is v.state)))

  -- statement { ";" statement }
  pub list_explained : (ts : List Lexeme)
      → Explains most (λ ys rest. st.Statements ys ts rest) part.statements d 0 ts (statement_list one ts)
  unfolding statement_list repeat
  list_explained ts = explain_then one _ (op.of_statement os.first_statement) (claim ts)
      (λ x rest v. list_turns_explained (suc (length rest)) (x ∷ []) ts rest (omega arith) (one_read v))

first_of_list : Lexeme → List Lexeme → Lexeme
first_of_list t [] = t
first_of_list t (u ∷ us) = u

-- a relation is an operator
relation_symbol : (k : Symbol) → is_relation (operator_of k) ≡ true → k ≡ s.Operator (operator_of k)
unfolding operator_of
relation_symbol (s.Operator o) e = refl
relation_symbol k e = cc

no_else : (l m : Lexeme) (rest ms : List Lexeme) → l ∷ rest ≡ m ∷ ms → Is (s.Word w.Else) m
    → is (s.Word w.Else) l.symbol ≡ false → ⊥
unfolding first_of_list
no_else l m rest ms r o e = not_both
    (sym e ∙ ap (λ k. same_symbol k (s.Word w.Else)) (ap (λ ts. (first_of_list l ts).symbol) r ∙ o) ∙ same_self
    (s.Word w.Else))
  where
    not_both : false ≡ true → ⊥
    not_both q = cc

no_room_here : {A : Type 0} → nat_lt 0 0 ≡ true → A
no_room_here e = cc

-- "(" arguments ")" behind a name at the front of a statement
data Listed (es : List Tree) : List Lexeme → List Lexeme → Type 0 where
  listed_by : {t z : Lexeme} {us rest : List Lexeme} → Is s.Open t → g.Arguments es us (z ∷ rest) → Is s.Close z
      → Listed es (t ∷ us) rest

module _ (most d room below : ℕ) (sum : d + room ≡ most + 0) (one : Parser stat.Statement)
    (claim : (ts : List Lexeme) → nat_lt 0 room ≡ true
    → Explains most (λ x rest. StatementGot x ts rest) part.statement (suc d) 0 ts (one ts))
    (lower : nat_lt 0 room ≡ true → suc d + below ≡ most + 0) where
  good : nesting d 0 ≤ most
  good = few d room 0 sum (omega arith)

  deeper : nat_lt 0 room ≡ true → nesting (suc d) 0 ≤ most
  deeper ok = few_more d room 0 sum ok

  -- a token that opens a construct of a statement
  entered : {W : stat.Statement → List Lexeme → Type 0} {q : Part} (f : Lexeme → Parser stat.Statement) (t : Lexeme)
      (us ts : List Lexeme)
      → (nat_lt 0 room ≡ true → Explains most W part.statement d 0 ts (f t us))
      → Step part.statement d 0 ts q (suc d) 0 us
      → Explains most W part.statement d 0 ts (followed (enter room 0) f (t ∷ us))
  unfolding enter
  entered f t us ts h step = explain_enter (nat_lt 0 room) f t us h (λ no. too_many step (one_more d room 0 sum no))

  listed_explained : (t : Lexeme) (us : List Lexeme) → Is s.Name t
      → Explains most (λ es rest. Listed es us rest) part.statement d 0 (t ∷ us)
      (arguments room refuse (within room 0) 0 us)
  unfolding arguments
  listed_explained t us i = explain_opening room 0 _ us (chain (os.whole_statement (st.Statement.call i))) good
      (λ o rest q j ok. rw q (rw (followed_assoc (within room 0)
      (λ e. repeat (more_arguments room refuse (within room 0) 0) (e ∷ []))
      (λ es. expect s.Close >>= (λ _. pure es)) rest)
      (explain_then _ _ (op.of_statement (os.call_arguments i j))
      (arguments_explained most d room 0 sum ok refuse (within room 0)
      (λ more. within_explained room 0 d more sum ok) rest) (λ es more a.
      explain_expect s.Close _ more (chain (os.call_close i j a)) (deeper ok)
      (λ z final r k. explain_pure es final (listed_by j (rw r at a) k))))))
      (λ o rest q j no. rw q (too_many (op.of_statement (os.call_arguments i j)) (one_more d room 0 sum no)))

  with_explained : (t : Lexeme) (us : List Lexeme) → Is s.Name t
      → Explains most (λ x rest. StatementGot x (t ∷ us) rest) part.statement d 0 (t ∷ us)
      (with_arguments room below one t us)
  unfolding with_arguments
  with_explained t us i = explain_next _ _ us (listed_explained t us i) (λ es rest v. go es us rest v)
    where
      go : (es : List Tree) (us rest : List Lexeme) → Listed es us rest
          → Explains most (λ x rest. StatementGot x (t ∷ us) rest) part.statement d 0 (t ∷ us)
          ((if is_single es then behind_reference room (tree.Tree.named t.letters (trees es) t.at) t.at
          (stat.Statement.call t.letters (trees es) t.at)
          else pure (stat.Statement.call t.letters (trees es) t.at)) rest)
      go _ _ rest (listed_by o (g.Arguments.one l) z) = behind_explained most d room sum _ _ _ rest
          (st.Reference.element i o (st.Expression.expression l) z)
          (got_call (st.Statement.call_with i o (g.Arguments.one l) z))
      go _ _ rest (listed_by o (g.Arguments.several l k (g.Arguments.one m)) z) = explain_pure _ rest
          (got_call (st.Statement.call_with i o (g.Arguments.several l k (g.Arguments.one m)) z))
      go _ _ rest (listed_by o (g.Arguments.several l k (g.Arguments.several m j a)) z) = explain_pure _ rest
          (got_call (st.Statement.call_with i o (g.Arguments.several l k (g.Arguments.several m j a)) z))

  -- a statement that begins with a name
  named_explained : (t : Lexeme) (us : List Lexeme) → Is s.Name t
      → Explains most (λ x rest. StatementGot x (t ∷ us) rest) part.statement d 0 (t ∷ us)
      (named_statement room below one t us)
  unfolding named_statement labelled closed
  named_explained t us i = explain_symbol _ us (chain (os.whole_statement (st.Statement.call i))) good
      (λ k rest q. rw q (
      explain_if (is s.Colon k.symbol) _ _ (k ∷ rest) (λ e. let j = is_it s.Colon k e in
      entered _ k rest (t ∷ k ∷ rest)
      (λ ok. explain_then one _ (op.of_statement (os.label i j)) (claim rest ok) (λ x more v.
      explain_pure _ more (record { spelled = st.Statement.labelled i j v.spelled; ends = v.ends })))
      (op.of_statement (os.label i j))) (λ _.
      explain_if (is s.Open k.symbol) _ _ (k ∷ rest) (λ _. with_explained t (k ∷ rest) i) (λ _.
      behind_explained most d room sum _ _ (t ∷ k ∷ rest) (k ∷ rest) (st.Reference.name i)
      (got_call (st.Statement.call i))))))

  -- "@" name ":="
  address_explained : (a : Lexeme) (us : List Lexeme) → Is s.AtSign a
      → Explains most (λ x rest. StatementGot x (a ∷ us) rest) part.statement d 0 (a ∷ us)
      (address_assigned room below one (a ∷ us))
  unfolding address_assigned followed take and_then
  address_explained a us i = explain_expect s.Name _ us (chain (os.target_address i)) good (λ t rest q j. rw q (
      assigned_explained most d room sum (stat.Target.address t.letters a.at) (a ∷ t ∷ rest) rest
      (st.Target.address i j)))

  -- statements inside
  inside_explained : (ts : List Lexeme) → nat_lt 0 room ≡ true
      → Explains most (λ xs rest. st.Statements xs ts rest) part.statements (suc d) 0 ts (statement_list one ts)
  inside_explained ts ok = list_explained most (suc d) (deeper ok) one
      (λ us. explain_as (one us) (claim us ok) (λ x rest v. v.spelled)) ts

  block_explained : (b : Lexeme) (us : List Lexeme) → Is (s.Word w.Begin) b
      → Explains most (λ x rest. StatementGot x (b ∷ us) rest) part.statement d 0 (b ∷ us)
      (block room below one (b ∷ us))
  unfolding block closed
  block_explained b us i = entered _ b us (b ∷ us)
      (λ ok. explain_then (statement_list one) _ (op.of_statement (os.begin i)) (inside_explained us ok) (λ xs after v.
      explain_expect (s.Word w.End) _ after (chain (os.begin_end i v)) (deeper ok)
      (λ z rest q j. explain_pure _ rest (got_closed refl (st.Statement.block i (list_at q v) j)))))
      (op.of_statement (os.begin i))

  -- what an IF tests, one construct deeper
  test_explained : (ts : List Lexeme) → nat_lt 0 room ≡ true
      → Explains most (λ x rest. st.Test x ts rest) part.test (suc d) 0 ts (if_test below ts)
  unfolding if_test followed take and_then
  test_explained ts ok = explain_symbol _ ts (at_here _ _ _ _) (deeper ok)
      (λ t rest q. rw q (explain_if (is_relation (operator_of t.symbol)) _ _ (t ∷ rest)
      (λ e. explain_pure _ rest (st.Test.code (relation_symbol t.symbol e) e))
      (λ e. explain_then (condition below 0) _ (op.of_statement os.test_condition)
      (cond_explained (suc d) below (t ∷ rest) (lower ok))
      (λ x more v. explain_pure _ more (st.Test.condition v)))))

  else_explained : (i t : Lexeme) (us mid after : List Lexeme) (q : stat.Test) (x : stat.Statement)
      → nat_lt 0 room ≡ true → Is (s.Word w.If) i → st.Test q us (t ∷ mid) → Is (s.Word w.Then) t
      → StatementGot x mid after → Explains most (λ x rest. StatementGot x (i ∷ us) rest) part.statement d 0 (i ∷ us)
      (else_behind room below one i q x after)
  unfolding else_behind followed take and_then closed by_symbol
  else_explained i t us mid [] q x ok j v k y = bad (chain (os.whole_statement (st.Statement.if_then j v k y.spelled)))
      good
  else_explained i t us mid (l ∷ rest) q x ok j v k y = explain_if (is (s.Word w.Else) l.symbol) _ _ (l ∷ rest)
      (λ e. let o = is_it (s.Word w.Else) l e in let c = y.ends l rest refl o in
      explain_then one _ (op.of_statement (os.else_branch j v k y.spelled c o)) (claim rest ok) (λ z more u.
      explain_pure _ more (record { spelled = st.Statement.if_else j v k y.spelled c o u.spelled; ends = u.ends })))
      (λ e. explain_pure _ (l ∷ rest)
      (record {
        spelled = st.Statement.if_then j v k y.spelled;
        ends = λ m ms r o. absurd
            (no_else l m rest ms r o e);
      }))

  if_explained : (i : Lexeme) (us : List Lexeme) → Is (s.Word w.If) i
      → Explains most (λ x rest. StatementGot x (i ∷ us) rest) part.statement d 0 (i ∷ us)
      (if_statement room below one (i ∷ us))
  unfolding if_statement
  if_explained i us j = entered _ i us (i ∷ us)
      (λ ok. explain_then (if_test below) _ (op.of_statement (os.if_test j)) (test_explained us ok) (λ q after v.
      explain_expect (s.Word w.Then) _ after (chain (os.if_then j v)) (deeper ok) (λ t rest r k. let v1 = test_at r v in
      explain_then one _ (op.of_statement (os.then_branch j v1 k)) (claim rest ok)
      (λ x more y. else_explained i t us rest more q x ok j v1 k y))))
      (op.of_statement (os.if_test j))

  while_explained : (t : Lexeme) (us : List Lexeme) → Is (s.Word w.While) t
      → Explains most (λ x rest. StatementGot x (t ∷ us) rest) part.statement d 0 (t ∷ us)
      (while_statement room below one (t ∷ us))
  unfolding while_statement closed
  while_explained t us i = entered _ t us (t ∷ us)
      (λ ok. explain_then (condition below 0) _ (op.of_statement (os.while_condition i))
      (cond_explained (suc d) below us (lower ok)) (λ e after v.
      explain_expect (s.Word w.Do) _ after (chain (os.while_do i v)) (deeper ok) (λ k rest q j. let v1 = cond_at q v in
      explain_then one _ (op.of_statement (os.while_body i v1 j)) (claim rest ok)
      (λ x more y. explain_pure _ more
      (record { spelled = st.Statement.while_do i v1 j y.spelled; ends = y.ends })))))
      (op.of_statement (os.while_condition i))

  do_explained : (t : Lexeme) (us : List Lexeme) → Is (s.Word w.Do) t
      → Explains most (λ x rest. StatementGot x (t ∷ us) rest) part.statement d 0 (t ∷ us)
      (do_statement room below one (t ∷ us))
  unfolding do_statement closed
  do_explained t us i = entered _ t us (t ∷ us)
      (λ ok. explain_then one _ (op.of_statement (os.do_body i)) (claim us ok) (λ x after y.
      explain_expect (s.Word w.Until) _ after (chain (os.do_until i y.spelled)) (deeper ok)
      (λ k rest q j. let y1 = stat_at q y.spelled in
      explain_then (condition below 0) _ (op.of_statement (os.do_condition i y1 j))
      (cond_explained (suc d) below rest (lower ok)) (λ e more v.
      explain_pure _ more (got_closed refl (st.Statement.do_until i y1 j v))))))
      (op.of_statement (os.do_body i))

  case_explained : (c : Lexeme) (us : List Lexeme) → Is (s.Word w.Case) c
      → Explains most (λ x rest. StatementGot x (c ∷ us) rest) part.statement d 0 (c ∷ us)
      (case_statement room below one (c ∷ us))
  unfolding case_statement closed
  case_explained c us i = entered _ c us (c ∷ us)
      (λ ok. explain_then (expression below 0) _ (op.of_statement (os.case_value i))
      (expr_explained (suc d) below us (lower ok)) (λ e after v.
      explain_expect (s.Word w.Of) _ after (chain (os.case_of i v)) (deeper ok) (λ o rest q j. let v1 = expr_at q v in
      explain_expect (s.Word w.Begin) _ rest (chain (os.case_begin i v1 j)) (deeper ok)
      (λ b more r k. let v2 = expr_at (ap (λ vs. o ∷ vs) r) v1 in
      explain_then (statement_list one) _ (op.of_statement (os.case_arms i v2 j k)) (inside_explained more ok)
      (λ xs last y.
      explain_expect (s.Word w.End) _ last (chain (os.case_end i v2 j k y)) (deeper ok) (λ z final u l.
      explain_pure _ final (got_closed refl (st.Statement.case_of i v2 j k (list_at u y) l))))))))
      (op.of_statement (os.case_value i))

  -- [ STEP expr ] behind the first value of a FOR
  for_step_explained : (f t k : Lexeme) (us after : List Lexeme) (a : Tree) → nat_lt 0 room ≡ true
      → Is (s.Word w.For) f → Is s.Name t → Is s.Assign k → st.Expression a us after
      → Explains most (λ es rest. st.Stepped es after rest) part.statement d 0 (f ∷ t ∷ k ∷ us) (stepped below after)
  unfolding stepped followed take and_then
  for_step_explained f t k us after a ok i j l v = explain_symbol _ after (chain (os.for_step i j l v)) (deeper ok)
      (λ p rest q. explain_if (is (s.Word w.Step) p.symbol) _ _ (p ∷ rest)
      (λ e. explain_then (expression below 0) _
      (op.of_statement (os.for_step_value i j l (expr_at q v) (is_it (s.Word w.Step) p e)))
      (expr_explained (suc d) below rest (lower ok)) (λ x more y.
      explain_pure _ more (rw q (st.Stepped.step (is_it (s.Word w.Step) p e) y))))
      (λ e. explain_pure _ (p ∷ rest) (rw q st.Stepped.absent)))

  for_explained : (f : Lexeme) (us : List Lexeme) → Is (s.Word w.For) f
      → Explains most (λ x rest. StatementGot x (f ∷ us) rest) part.statement d 0 (f ∷ us)
      (for_statement room below one (f ∷ us))
  unfolding for_statement closed
  for_explained f us i = entered _ f us (f ∷ us)
      (λ ok. explain_expect s.Name _ us (chain (os.for_name i)) (deeper ok) (λ t after_name q j. rw q (
      explain_expect s.Assign _ after_name (chain (os.for_assign i j)) (deeper ok) (λ k after_assign r l. rw r (
      explain_then (expression below 0) _ (op.of_statement (os.for_first i j l))
      (expr_explained (suc d) below after_assign (lower ok)) (λ a after_first v.
      explain_next (stepped below) _ after_first (for_step_explained f t k after_assign after_first a ok i j l v)
      (λ es after_step x.
      explain_expect (s.Word w.Until) _ after_step (chain (os.for_until i j l v x)) (deeper ok)
      (λ u after_until q2 m. let x1 = step_at q2 x in
      explain_then (expression below 0) _ (op.of_statement (os.for_last i j l v x1 m))
      (expr_explained (suc d) below after_until (lower ok)) (λ b after_last y.
      explain_expect (s.Word w.Do) _ after_last (chain (os.for_do i j l v x1 m y)) (deeper ok)
      (λ o rest q3 n. let y1 = expr_at q3 y in
      explain_then one _ (op.of_statement (os.for_body i j l v x1 m y1 n)) (claim rest ok) (λ z more c.
      explain_pure _ more (record {
        spelled = st.Statement.for_do i j l v x1 m y1 n c.spelled;
        ends = c.ends;
      }))))))))))))
      (op.of_statement (os.for_name i))

  -- GO [TO] name
  go_explained : (m : Lexeme) (us : List Lexeme) → Is (s.Word w.Go) m
      → Explains most (λ x rest. StatementGot x (m ∷ us) rest) part.statement d 0 (m ∷ us)
      (go_statement room below one (m ∷ us))
  unfolding go_statement go_name followed take and_then closed
  go_explained m us i = explain_symbol _ us (chain (os.go i)) good
      (λ k rest q. rw q (explain_if (is (s.Word w.To) k.symbol) _ _ (k ∷ rest)
      (λ e. let j = is_it (s.Word w.To) k e in explain_expect s.Name _ rest (chain (os.go_to i j)) good
      (λ t more r l. rw r (explain_pure _ more (got_closed refl (st.Statement.go_to i j l)))))
      (λ e. explain_expect s.Name _ (k ∷ rest) (chain (os.go i)) good
      (λ t more r l. rw r (explain_pure _ more (got_closed refl (st.Statement.go i l)))))))

  goto_explained : (m : Lexeme) (us : List Lexeme) → Is (s.Word w.Goto) m
      → Explains most (λ x rest. StatementGot x (m ∷ us) rest) part.statement d 0 (m ∷ us) ((take >>= go_name) (m ∷ us))
  unfolding go_name followed take and_then closed
  goto_explained m us i = explain_expect s.Name _ us (chain (os.goto i)) good
      (λ t more r l. rw r (explain_pure _ more (got_closed refl (st.Statement.goto i l))))

  effect_statement_explained : (t : Lexeme) (us : List Lexeme)
      → Explains most (λ x rest. StatementGot x (t ∷ us) rest) part.statement d 0 (t ∷ us)
      (effect_statement room below one (t ∷ us))
  unfolding effect_statement at_place followed and_then closed
  effect_statement_explained t us = explain_then (effect room) _ (op.of_statement os.effect_of)
      (effect_explained most d room sum (t ∷ us)) (λ e rest v.
      explain_pure _ rest (got_closed refl (st.Statement.effect v)))

  empty_explained : (ts us : List Lexeme) → ts ≡ us
      → Explains most (λ x rest. StatementGot x ts rest) part.statement d 0 ts (pure stat.Statement.empty us)
  unfolding closed
  empty_explained ts us q = explain_pure _ us (rw q (got_closed refl st.Statement.empty))

  word_explained : (t : Lexeme) (us : List Lexeme) (k : Reserved) → Is (s.Word k) t
      → Explains most (λ x rest. StatementGot x (t ∷ us) rest) part.statement d 0 (t ∷ us)
      (by_word room below one k (t ∷ us))
  unfolding by_word closed
  word_explained t us w.Begin i = block_explained t us i
  word_explained t us w.If i = if_explained t us i
  word_explained t us w.While i = while_explained t us i
  word_explained t us w.Do i = do_explained t us i
  word_explained t us w.For i = for_explained t us i
  word_explained t us w.Case i = case_explained t us i
  word_explained t us w.Go i = go_explained t us i
  word_explained t us w.Goto i = goto_explained t us i
  word_explained t us w.Return i = er.taken_explained _ (explain_pure _ us (got_closed refl (st.Statement.return i)))
  word_explained t us w.Move i = effect_statement_explained t us
  word_explained t us w.Scan i = effect_statement_explained t us
  word_explained t us _ i = empty_explained (t ∷ us) (t ∷ us) refl

  statement_explained_by : (t : Lexeme) (us : List Lexeme) (k : Symbol) → Is k t
      → Explains most (λ x rest. StatementGot x (t ∷ us) rest) part.statement d 0 (t ∷ us)
      (statement_by room below one k (t ∷ us))
  unfolding statement_by
  statement_explained_by t us s.Name i = er.taken_explained _ (named_explained t us i)
  statement_explained_by t us s.AtSign i = address_explained t us i
  statement_explained_by t us (s.Word k) i = word_explained t us k i
  statement_explained_by t us _ i = empty_explained (t ∷ us) (t ∷ us) refl

  statement_step_explained : (ts : List Lexeme)
      → Explains most (λ x rest. StatementGot x ts rest) part.statement d 0 ts (statement_step room below one ts)
  unfolding statement_step by_symbol
  statement_step_explained [] = bad (at_here _ _ _ _) good
  statement_step_explained (t ∷ us) = statement_explained_by t us t.symbol refl

-- a statement, where d constructs are open around it
pub statement_explained : {most : ℕ} (room d : ℕ) (ts : List Lexeme) → d + room ≡ most + 0
    → Explains most (λ x rest. StatementGot x ts rest) part.statement d 0 ts (statement room ts)
unfolding statement
statement_explained {most = most} zero d ts sum = statement_step_explained most d zero zero sum refuse
    (λ us ok. no_room_here ok) (λ ok. no_room_here ok) ts
statement_explained {most = most} (suc room) d ts sum = statement_step_explained most d (suc room) room sum
    (statement room) (λ us ok. statement_explained room (suc d) us (omega arith)) (λ ok. omega arith) ts
