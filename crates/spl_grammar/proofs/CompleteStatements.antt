-- What is spelled as a statement is read, unless it is too deep before its end.
use Rattle.std.proofs.Common.{ℕ, zero, suc, ◌≡◌, ◌≤◌, true, false, List, [], ◌∷◌, ◌++◌, length, refl, arith, ap, nat_lt, append_assoc}
use Rattle.std.proofs.lemmas.Bool.Decides.{nat_tests}
use Rattle.spl_reading.specs.spl_tree.declared.names_and_places.At.{At}
use Rattle.spl_reading.specs.spl_tree.declared.symbols.Symbol.TheVariants as s
use Rattle.spl_reading.specs.spl_tree.declared.symbols.Reserved.TheVariants as w
use Rattle.spl_reading.specs.spl_tree.Symbols.{Lexeme, Is}
use Rattle.spl_reading.specs.spl_tree.Expressions as g
use Rattle.spl_reading.specs.spl_tree.Trees.{Tree, Trees, trees}
use Rattle.spl_reading.specs.spl_tree.StatementTrees as stat
use Rattle.spl_reading.specs.spl_tree.StatementTrees.{closed, statements}
use Rattle.spl_reading.specs.spl_tree.Statements as st
use Rattle.spl_reading.specs.spl_tree.Statements.{class_of, is_relation}
use Rattle.spl_reading.specs.Readers.{Got, Parser, refuse, repeat, same_symbol, symbol_number, reserved_number}
use Rattle.spl_reading.specs.ReadExpressions.{is, enter}
use Rattle.spl_reading.specs.ReadStatements.{stepped, go_name, more_statements, statement_list, labelled, named_statement, block, else_behind, if_statement, while_statement, do_statement, for_statement, case_statement, go_statement, effect_statement, by_word, statement_by, statement_step, statement}
use Rattle.spl_grammar.specs.Following.{Follow, behind, Stops, After}
use Rattle.spl_grammar.specs.Following as af
use Rattle.spl_grammar.proofs.LocalStatements.{takes_more_statements, local_statement}
use Rattle.spl_grammar.proofs.NearReaders.{Near, near_to, near_from, near_then, near_pure, near_take, near_place, near_symbol, near_if, near_else, near_expect, near_allowed, near_turn, near_last, same_self}
use Rattle.spl_grammar.proofs.StatementTokens as tk
use Rattle.spl_grammar.proofs.FirstTokens as ft
use Rattle.spl_grammar.proofs.FollowLemmas.{follow_is, stops_close}
use Rattle.spl_grammar.proofs.CompleteExpressions.{complete_arguments}
pub use Rattle.spl_grammar.proofs.StatementFronts.{Stopper, stopper_stops, follow_stopper, follow_after, expr_read, cond_read, boxed_of, boxed_read, reference_read, no_open, first_else, first_then, name_first, comma_open, word_open, assign_open, dot_open, name_text, word_comma, while_until, move_scan, source_read, effect_read, condition_no_relation, relation_is, code_is, test_read, not_word, expression_no_effect, effect_first, value_read, value_effect_read, after_else, not_colon, not_open, not_dot, not_assign, at_head, assign_no, open_colon, assign_colon, assign_dot, dot_colon, name_read, reference_front, assigned_read, target_read, call_read, semicolon, word}

-- what is read inside a statement, where so many constructs may be opened
unfoldable pub inside : ℕ → Parser stat.Statement
inside zero = refuse
inside (suc room) = statement room

unfoldable pub down : ℕ → ℕ
down zero = zero
down (suc room) = room

pub statement_is : (room : ℕ) → statement room ≡ statement_step room (down room) (inside room)
unfolding statement inside down
statement_is zero = refl
statement_is (suc room) = refl

-- a statement, and statements up to an END
pub record StatementRead (x : stat.Statement) (ts rest : List Lexeme) : Type 0 where
  pub reads : (room : ℕ) → Near (statement room) ts rest (Got x rest)

pub record ListRead (xs : List stat.Statement) (ts rest : List Lexeme) : Type 0 where
  pub first : stat.Statement
  pub middle : List Lexeme
  pub reads : (room : ℕ) → Near (statement room) ts middle (Got first middle)
  pub others : (room : ℕ) (so_far : List stat.Statement)
      → Near (repeat (more_statements (statement room)) (so_far ++ first ∷ [])) middle rest (Got (so_far ++ xs) rest)

by_step : {x : stat.Statement} {ts rest : List Lexeme}
    → ((room : ℕ) → Near (statement_step room (down room) (inside room)) ts rest (Got x rest)) → StatementRead x ts rest
by_step {ts = ts} n = record { reads = λ room. near_from (ap (λ p. p ts) (statement_is room)) (n room) }

-- inside a construct that is open
pub inside_read : {x : stat.Statement} {ts rest : List Lexeme} → StatementRead x ts rest → (room : ℕ)
    → nat_lt 0 room ≡ true → Near (inside room) ts rest (Got x rest)
unfolding inside
inside_read n zero e = absurd (grind (arith, nat_tests, e))
inside_read n (suc room) e = n.reads room

pub list_read : {xs : List stat.Statement} {ts rest : List Lexeme} → ListRead xs ts rest → (room : ℕ)
    → Near (statement_list (statement room)) ts rest (Got xs rest)
unfolding statement_list
list_read n room = near_then _ (n.reads room) (n.others room [])

inside_list : {xs : List stat.Statement} {ts rest : List Lexeme} → ListRead xs ts rest → (room : ℕ)
    → nat_lt 0 room ≡ true → Near (statement_list (inside room)) ts rest (Got xs rest)
unfolding inside
inside_list n zero e = absurd (grind (arith, nat_tests, e))
inside_list n (suc room) e = list_read n room

-- no tokens
empty_case : {ts : List Lexeme} → After stat.Statement.empty ts → StatementRead stat.Statement.empty ts ts
unfolding statement_step statement_by by_word
empty_case (af.semicolon i) = by_step (λ room. near_symbol _ i (near_pure _ _))
empty_case (af.end i) = by_step (λ room. near_symbol _ i (near_pure _ _))
empty_case (af.until i) = by_step (λ room. near_symbol _ i (near_pure _ _))
empty_case (af.other e i) = by_step (λ room. near_symbol _ i (near_pure _ _))

labelled_case : {x : stat.Statement} {t k : Lexeme} {ts rest : List Lexeme} → Is s.Name t → Is s.Colon k
    → StatementRead x ts rest → length rest ≤ length ts
    → StatementRead (stat.Statement.labelled t.letters t.at x) (t ∷ k ∷ ts) rest
unfolding statement_step statement_by named_statement labelled enter
labelled_case i k x l = by_step
    (λ room. near_symbol _ i (near_then _ near_take (near_symbol _ k (near_if _ (same_self s.Colon)
    (near_allowed _ _ l (λ ok. near_then _ (inside_read x room ok) (near_pure _ _)))))))

block_case : {xs : List stat.Statement} {b z : Lexeme} {ts rest : List Lexeme} → Is (s.Word w.Begin) b
    → ListRead xs ts (z ∷ rest) → length (z ∷ rest) ≤ length ts
    → Is (s.Word w.End) z → StatementRead (stat.Statement.block (statements xs)) (b ∷ ts) rest
unfolding statement_step statement_by by_word block enter
block_case i xs l z = by_step (λ room. near_symbol _ i
    (near_allowed _ _ (omega arith) (λ ok. near_then _ (inside_list xs room ok)
    (near_then _ (near_expect z) (near_pure _ _)))))

-- no ELSE behind an IF that has none
no_else : {q : stat.Test} {x : stat.Statement} {at : At} {ts : List Lexeme}
    → After (stat.Statement.if_test q x (statements []) at) ts → ft.Begins (is (s.Word w.Else)) false ts
unfolding closed same_symbol symbol_number reserved_number
no_else (af.semicolon i) = ft.by_is _ _ _ _ _ i refl
no_else (af.end i) = ft.by_is _ _ _ _ _ i refl
no_else (af.until i) = ft.by_is _ _ _ _ _ i refl
no_else (af.other e i) = cc

if_then_case : {q : stat.Test} {x : stat.Statement} {i t : Lexeme} {ts mid rest : List Lexeme} → Is (s.Word w.If) i
    → st.Test q ts (t ∷ mid) → Is (s.Word w.Then) t
    → StatementRead x mid rest → length rest ≤ length mid → After (stat.Statement.if_test q x (statements []) i.at) rest
    → StatementRead (stat.Statement.if_test q x (statements []) i.at) (i ∷ ts) rest
unfolding statement_step statement_by by_word if_statement else_behind enter
if_then_case i q t x l a = by_step
    (λ room. near_symbol _ i (near_allowed _ _ (let k = tk.shorter_test q in omega arith)
    (λ ok. near_then _ (test_read q t (down room))
    (near_then _ (near_expect t) (near_then _ (inside_read x room ok)
    (first_else (is (s.Word w.Else)) _ (no_else a) (near_pure _ _)))))))

if_else_case : {q : stat.Test} {x y : stat.Statement} {i t l : Lexeme} {ts mid next rest : List Lexeme}
    → Is (s.Word w.If) i → st.Test q ts (t ∷ mid) → Is (s.Word w.Then) t
    → StatementRead x mid (l ∷ next) → length (l ∷ next) ≤ length mid → Is (s.Word w.Else) l
    → StatementRead y next rest → length rest ≤ length next
    → StatementRead (stat.Statement.if_test q x (statements (y ∷ [])) i.at) (i ∷ ts) rest
unfolding statement_step statement_by by_word if_statement else_behind enter
if_else_case i q t x l e y m = by_step
    (λ room. near_symbol _ i (near_allowed _ _ (let k = tk.shorter_test q in omega arith)
    (λ ok. near_then _ (test_read q t (down room))
    (near_then _ (near_expect t) (near_then _ (inside_read x room ok)
    (near_symbol _ e (near_if _ (same_self (s.Word w.Else)) (near_then _ near_take
    (near_then _ (inside_read y room ok) (near_pure _ _))))))))))

while_case : {e : Tree} {x : stat.Statement} {t k : Lexeme} {ts mid rest : List Lexeme} → Is (s.Word w.While) t
    → st.Condition e ts (k ∷ mid) → Is (s.Word w.Do) k
    → StatementRead x mid rest → length rest ≤ length mid
    → StatementRead (stat.Statement.while_true e x t.at) (t ∷ ts) rest
unfolding statement_step statement_by by_word while_statement enter
while_case i e k x l = by_step (λ room. near_symbol _ i
    (near_allowed _ _ (let m = tk.shorter_condition e in omega arith) (λ ok.
    near_then _ (cond_read e (follow_stopper k word) (down room))
    (near_then _ (near_expect k) (near_then _ (inside_read x room ok) (near_pure _ _))))))

do_case : {e : Tree} {x : stat.Statement} {t k : Lexeme} {ts mid rest : List Lexeme} → Is (s.Word w.Do) t
    → StatementRead x ts (k ∷ mid) → length (k ∷ mid) ≤ length ts
    → Is (s.Word w.Until) k → st.Condition e mid rest → Follow true 10 rest
    → StatementRead (stat.Statement.until_true x e t.at) (t ∷ ts) rest
unfolding statement_step statement_by by_word do_statement enter
do_case i x l k e a = by_step (λ room. near_symbol _ i
    (near_allowed _ _ (let m = tk.shorter_condition e in omega arith) (λ ok.
    near_then _ (inside_read x room ok)
    (near_then _ (near_expect k) (near_then _ (cond_read e a (down room)) (near_pure _ _))))))

until_step : is (s.Word w.Step) (s.Word w.Until) ≡ false
unfolding same_symbol symbol_number reserved_number
until_step = refl

pub stepped_read : {es : List Tree} {u : Lexeme} {ts rest : List Lexeme} → st.Stepped es ts (u ∷ rest)
    → Is (s.Word w.Until) u → (room : ℕ) → Near (stepped room) ts (u ∷ rest) (Got es (u ∷ rest))
unfolding stepped
stepped_read st.Stepped.absent u room = near_symbol _ u (near_else _ until_step (near_pure _ _))
stepped_read (st.Stepped.step i e) u room = near_symbol _ i
    (near_if _ (same_self (s.Word w.Step))
    (near_then _ near_take (near_then _ (expr_read e (follow_stopper u word) room) (near_pure _ _))))

-- what follows the first value of a FOR
pub follow_step : {es : List Tree} {u : Lexeme} {ts rest : List Lexeme} → st.Stepped es ts (u ∷ rest)
    → Is (s.Word w.Until) u → Follow false 10 ts
follow_step st.Stepped.absent u = follow_stopper u word
follow_step (st.Stepped.step i e) u = follow_stopper i word

for_case : {a b : Tree} {es : List Tree} {x : stat.Statement} {f t k u d : Lexeme}
    {ts after_first after_step mid rest : List Lexeme} → Is (s.Word w.For) f
    → Is s.Name t → Is s.Assign k → st.Expression a ts after_first → st.Stepped es after_first (u ∷ after_step)
    → Is (s.Word w.Until) u
    → st.Expression b after_step (d ∷ mid) → Is (s.Word w.Do) d → StatementRead x mid rest → length rest ≤ length mid
    → StatementRead (stat.Statement.for_values t.letters a (trees es) b x f.at) (f ∷ t ∷ k ∷ ts) rest
unfolding statement_step statement_by by_word for_statement enter
for_case i j k a es u b d x l = by_step (λ room. near_symbol _ i (near_allowed _ _ (for_length _ a es b l) (λ ok.
    near_then _ (near_expect j) (near_then _ (near_expect k)
    (near_then _ (expr_read a (follow_step es u) (down room)) (near_then _ (stepped_read es u (down room))
    (near_then _ (near_expect u) (near_then _ (expr_read b (follow_stopper d word) (down room))
    (near_then _ (near_expect d) (near_then _ (inside_read x room ok) (near_pure _ _)))))))))))
  where
    for_length : {a b : Tree} {es : List Tree} {u d : Lexeme} {ts after_first after_step mid : List Lexeme}
        (rest : List Lexeme) → st.Expression a ts after_first → st.Stepped es after_first (u ∷ after_step)
        → st.Expression b after_step (d ∷ mid) → length rest ≤ length mid → length rest ≤ suc (suc (length ts))
    for_length rest a es b l = let m = tk.shorter_expression a in let n = tk.no_longer_step es in let o =
        tk.shorter_expression b in omega arith

case_case : {e : Tree} {xs : List stat.Statement} {c o b z : Lexeme} {ts mid rest : List Lexeme} → Is (s.Word w.Case) c
    → st.Expression e ts (o ∷ b ∷ mid)
    → Is (s.Word w.Of) o → Is (s.Word w.Begin) b → ListRead xs mid (z ∷ rest) → length (z ∷ rest) ≤ length mid
    → Is (s.Word w.End) z
    → StatementRead (stat.Statement.case_of e (statements xs) c.at) (c ∷ ts) rest
unfolding statement_step statement_by by_word case_statement enter
case_case i e o b xs l z = by_step
    (λ room. near_symbol _ i (near_allowed _ _ (let m = tk.shorter_expression e in omega arith) (λ ok.
    near_then _ (expr_read e (follow_stopper o word) (down room))
    (near_then _ (near_expect o) (near_then _ (near_expect b) (near_then _ (inside_list xs room ok)
    (near_then _ (near_expect z) (near_pure _ _))))))))

name_to : is (s.Word w.To) s.Name ≡ false
unfolding same_symbol symbol_number reserved_number
name_to = refl

go_case : {g t : Lexeme} {rest : List Lexeme} → Is (s.Word w.Go) g → Is s.Name t
    → StatementRead (stat.Statement.go_to t.letters g.at) (g ∷ t ∷ rest) rest
unfolding statement_step statement_by by_word go_statement go_name
go_case i t = by_step (λ room. near_symbol _ i
    (near_then _ near_take (near_symbol _ t (near_else _ name_to (near_then _ (near_expect t) (near_pure _ _))))))

go_to_case : {g k t : Lexeme} {rest : List Lexeme} → Is (s.Word w.Go) g → Is (s.Word w.To) k → Is s.Name t
    → StatementRead (stat.Statement.go_to t.letters g.at) (g ∷ k ∷ t ∷ rest) rest
unfolding statement_step statement_by by_word go_statement go_name
go_to_case i k t = by_step (λ room. near_symbol _ i
    (near_then _ near_take (near_symbol _ k (near_if _ (same_self (s.Word w.To)) (near_then _ near_take
    (near_then _ (near_expect t) (near_pure _ _)))))))

goto_case : {g t : Lexeme} {rest : List Lexeme} → Is (s.Word w.Goto) g → Is s.Name t
    → StatementRead (stat.Statement.go_to t.letters g.at) (g ∷ t ∷ rest) rest
unfolding statement_step statement_by by_word go_name
goto_case i t = by_step (λ room. near_symbol _ i (near_then _ near_take (near_then _ (near_expect t) (near_pure _ _))))

return_case : {t : Lexeme} {rest : List Lexeme} → Is (s.Word w.Return) t
    → StatementRead (stat.Statement.return t.at) (t ∷ rest) rest
unfolding statement_step statement_by by_word
return_case i = by_step (λ room. near_symbol _ i (near_then _ near_take (near_pure _ _)))

effect_case : {e : stat.Effect} {ts rest : List Lexeme} → st.Effect e ts rest → Follow false 10 rest
    → StatementRead (stat.Statement.do_effect e (g.place ts)) ts rest
unfolding statement_step statement_by by_word effect_statement
effect_case (st.Effect.move i r k x) w = by_step
    (λ room. near_symbol _ i (near_then _ near_place
    (near_then _ (effect_read (st.Effect.move i r k x) w room) (near_pure _ _))))
effect_case (st.Effect.scan_while i r k x) w = by_step
    (λ room. near_symbol _ i (near_then _ near_place
    (near_then _ (effect_read (st.Effect.scan_while i r k x) w room) (near_pure _ _))))
effect_case (st.Effect.scan_until i r k x) w = by_step
    (λ room. near_symbol _ i (near_then _ near_place
    (near_then _ (effect_read (st.Effect.scan_until i r k x) w room) (near_pure _ _))))

end_semicolon : is s.Semicolon (s.Word w.End) ≡ false
unfolding same_symbol symbol_number
end_semicolon = refl

one_statement : {x : stat.Statement} {z : Lexeme} {ts rest : List Lexeme} → StatementRead x ts (z ∷ rest)
    → Is (s.Word w.End) z → ListRead (x ∷ []) ts (z ∷ rest)
unfolding more_statements
one_statement {x = x} {z = z} {rest = rest} n i = record {
  first = x;
  middle = z ∷ rest;
  reads = n.reads;
  others = λ room so_far. near_last _ (near_symbol _ i (near_else _ end_semicolon (near_pure _ _)));
}

more_case : {x : stat.Statement} {xs : List stat.Statement} {k : Lexeme} {ts mid rest : List Lexeme}
    → StatementRead x ts (k ∷ mid) → Is s.Semicolon k → ListRead xs mid rest
    → ListRead (x ∷ xs) ts rest
unfolding more_statements
more_case {x = x} {xs = xs} {k = k} {mid = mid} {rest = rest} n i a = record {
  first = x;
  middle = k ∷ mid;
  reads = n.reads;
  others = λ room so_far. near_turn {v = (so_far ++ x ∷ []) ++ a.first ∷ []} {m = a.middle}
      (takes_more_statements (statement room) (local_statement room))
      (let l = (a.reads room).within in omega arith)
      (near_symbol _ i (near_if _ (same_self s.Semicolon)
      (near_then _ near_take (near_then _ (a.reads room) (near_pure _ _)))))
      (near_to (a.others room (so_far ++ x ∷ [])) (ap (λ us. Got us rest) (append_assoc so_far (x ∷ []) xs)));
}

-- what stands behind the last part of a statement
after_inner : {x y : stat.Statement} {ts : List Lexeme} → (closed y ≡ true → closed x ≡ true) → After y ts → After x ts
after_inner f (af.semicolon i) = af.semicolon i
after_inner f (af.end i) = af.end i
after_inner f (af.until i) = af.until i
after_inner f (af.other e i) = af.other (f e) i

after_then : {q : stat.Test} {x : stat.Statement} {at : At} {ts : List Lexeme}
    → After (stat.Statement.if_test q x (statements []) at) ts → After x ts
unfolding closed
after_then a = after_inner (λ e. cc) a

after_label : {l : List ℕ} {at : At} {x : stat.Statement} {ts : List Lexeme}
    → After (stat.Statement.labelled l at x) ts → After x ts
unfolding closed
after_label a = after_inner (λ e. e) a

after_other : {q : stat.Test} {x y : stat.Statement} {at : At} {ts : List Lexeme}
    → After (stat.Statement.if_test q x (statements (y ∷ [])) at) ts → After y ts
unfolding closed
after_other a = after_inner (λ e. e) a

after_while : {e : Tree} {x : stat.Statement} {at : At} {ts : List Lexeme}
    → After (stat.Statement.while_true e x at) ts → After x ts
unfolding closed
after_while a = after_inner (λ e. e) a

after_for : {l : List ℕ} {a b : Tree} {es : Trees} {x : stat.Statement} {at : At} {ts : List Lexeme}
    → After (stat.Statement.for_values l a es b x at) ts → After x ts
unfolding closed
after_for a = after_inner (λ e. e) a

mutual
  -- a statement, by induction on how it is spelled
  pub complete_statement : {x : stat.Statement} {ts rest : List Lexeme} → st.Statement x ts rest → After x rest
      → StatementRead x ts rest
  complete_statement st.Statement.empty a = empty_case a
  complete_statement (st.Statement.labelled i k x) a = labelled_case i k (complete_statement x (after_label a))
      (tk.no_longer x)
  complete_statement (st.Statement.block i xs z) a = block_case i (complete_list xs z) (tk.no_longer_list xs) z
  complete_statement (st.Statement.if_then i q t x) a = if_then_case i q t (complete_statement x (after_then a))
      (tk.no_longer x) a
  complete_statement (st.Statement.if_else i q t x c l y) a = if_else_case i q t (complete_statement x (af.other c l))
      (tk.no_longer x) l (complete_statement y (after_other a)) (tk.no_longer y)
  complete_statement (st.Statement.while_do i e k x) a = while_case i e k (complete_statement x (after_while a))
      (tk.no_longer x)
  complete_statement (st.Statement.do_until i x k e) a = do_case i (complete_statement x (af.until k)) (tk.no_longer x)
      k e (follow_after a)
  complete_statement (st.Statement.for_do i t k e es u b d x) a = for_case i t k e es u b d
      (complete_statement x (after_for a)) (tk.no_longer x)
  complete_statement (st.Statement.case_of i e o b xs z) a = case_case i e o b (complete_list xs z)
      (tk.no_longer_list xs) z
  complete_statement (st.Statement.go i t) a = go_case i t
  complete_statement (st.Statement.go_to i k t) a = go_to_case i k t
  complete_statement (st.Statement.goto i t) a = goto_case i t
  complete_statement (st.Statement.return i) a = return_case i
  complete_statement (st.Statement.assign x k e) a = by_step
      (λ room. target_read room _ _ x k (value_read e (follow_after a) room _ _))
  complete_statement (st.Statement.assign_effect x k e) a = by_step
      (λ room. target_read room _ _ x k (value_effect_read e (follow_after a) room _ _))
  complete_statement (st.Statement.effect e) a = effect_case e (follow_after a)
  complete_statement (st.Statement.call i) a = by_step (λ room. name_read room _ _ i a)
  complete_statement (st.Statement.call_with i o es z) a = by_step
      (λ room. call_read room _ _ i o (complete_arguments es (follow_is z (stops_close false 10)) z) z a)

  pub complete_list : {xs : List stat.Statement} {z : Lexeme} {ts rest : List Lexeme} → st.Statements xs ts (z ∷ rest)
      → Is (s.Word w.End) z → ListRead xs ts (z ∷ rest)
  complete_list (st.Statements.one x) z = one_statement (complete_statement x (af.end z)) z
  complete_list (st.Statements.more x k xs) z = more_case (complete_statement x (af.semicolon k)) k (complete_list xs z)
