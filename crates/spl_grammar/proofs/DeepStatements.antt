-- Where more is open than may be, reading a statement is too deep, one production at a time.
use Rattle.std.proofs.Common.{ℕ, zero, suc, ◌+◌, ◌/◌, ◌≡◌, ◌||◌, ◌<◌, ◌≤◌, Bool, true, false, if◌then◌else◌, List, [], ◌∷◌, ◌++◌, length, None, refl, arith, ap, ◌∙◌, ◌⊎◌, inl, inr, nat_lt}
use Rattle.std.proofs.lemmas.Bool.Decides.{nat_tests}
use Rattle.spl_reading.specs.spl_tree.declared.symbols.Symbol.{Symbol}
use Rattle.spl_reading.specs.spl_tree.declared.symbols.Symbol.TheVariants as s
use Rattle.spl_reading.specs.spl_tree.declared.symbols.Reserved.{Reserved}
use Rattle.spl_reading.specs.spl_tree.declared.symbols.Reserved.TheVariants as wd
use Rattle.spl_reading.specs.spl_tree.Symbols.{Lexeme, Is}
use Rattle.spl_reading.specs.spl_tree.Operators.{is_sign}
use Rattle.spl_reading.specs.spl_tree.Trees.{Tree}
use Rattle.spl_reading.specs.spl_tree.StatementTrees as stat
use Rattle.spl_reading.specs.spl_tree.StatementTrees.{closed}
use Rattle.spl_reading.specs.spl_tree.declared.names_and_places.At.{At}
use Rattle.spl_reading.specs.spl_tree.Statements as st
use Rattle.spl_reading.specs.spl_tree.Statements.{is_relation}
use Rattle.spl_reading.specs.spl_tree.OpenExpressions.{limit}
use Rattle.spl_reading.specs.spl_tree.OpenStatements as op
use Rattle.spl_reading.specs.spl_tree.OpenStatements.{StatementStep}
use Rattle.spl_reading.specs.spl_tree.Parts as of_kind
use Rattle.spl_reading.specs.spl_tree.Parts.{Part}
use Rattle.spl_reading.specs.Readers.{Bad, Parser, and_then, followed, pure, refuse, by_symbol, take, expect, same_symbol, symbol_number}
use Rattle.spl_reading.specs.ReadExpressions.{is, operator_of, enter, arguments, within, expression, condition, whole}
use Rattle.spl_reading.specs.ReadStatements.{indexed, reference, source_behind, source, while_or_until, move, scan, effect, begins_effect, if_test, value, stepped, more_statements, statement_list, labelled, with_arguments, named_statement, block, else_behind, if_statement, while_statement, do_statement, for_statement, case_statement, effect_statement, by_word, statement_by, statement_step, statement}
use Rattle.spl_grammar.specs.Following as af
use Rattle.spl_grammar.proofs.LocalReaders.{IsLocal}
use Rattle.spl_grammar.proofs.LocalStatements.{local_reference, local_effect, takes_more_statements, local_statement}
use Rattle.spl_grammar.proofs.NearReaders.{near_then, near_pure, near_take, near_symbol, near_if, near_else, near_expect, same_self}
use Rattle.spl_grammar.proofs.FirstTokens as ft
use Rattle.spl_grammar.proofs.PartTokens as pt
use Rattle.spl_grammar.proofs.StatementTokens as tk
use Rattle.spl_reading.proofs.SameSymbol.{same_is}
use Rattle.spl_grammar.proofs.ExpressionClaims.{part, stays}
use Rattle.spl_grammar.proofs.CompleteStatements.{inside, down, statement_is, inside_read, stepped_read, follow_step, complete_statement, follow_stopper, expr_read, cond_read, reference_read, no_open, name_first, comma_open, word_open, assign_open, name_text, while_until, move_scan, test_read, open_colon, target_read, word}
use Rattle.spl_grammar.proofs.CompletedParts.{Inside, free, a_constant, some_arguments, a_reference, a_source, an_effect, a_test, a_statement, some_statements, a_mark}
use Rattle.spl_grammar.proofs.DeepReaders.{Sinks, sink_on, sink_from, sink_then, sink_behind, sink_symbol, sink_head, sink_if, sink_else, sink_place, sink_take, sink_allowed, not_bad, sink_shorter, sink_next, goes_on}
use Rattle.spl_grammar.proofs.DeepExpressions.{SinksReference, SinksIn, over, none_left, some_token, local_part, an_operator, a_word, primary_refused, level_refused, sink_enclosed, sink_arguments, arguments_of, full, of_level, chosen}

-- An expression and a condition.

-- an expression
pub expr_sinks : {n d : ℕ} {ts : List Lexeme} → SinksIn n op.expr d 0 ts → (room : ℕ) → d + room ≡ limit
    → Sinks n (expression room 0) ts
unfolding expression whole
expr_sinks o room sum = sink_then _ (o.claim room 0 (omega arith) (omega arith))

-- a condition
pub cond_sinks : {n d : ℕ} {ts : List Lexeme} → SinksIn n op.cond d 0 ts → (room : ℕ) → d + room ≡ limit
    → Sinks n (condition room 0) ts
unfolding condition
cond_sinks o room sum = sink_then _ (o.claim room 0 (omega arith) (omega arith))

-- inside a construct
expr_down : {n d : ℕ} {ts : List Lexeme} → SinksIn n op.expr (suc d) 0 ts → (room : ℕ) → d + room ≡ limit
    → nat_lt 0 room ≡ true → Sinks n (expression (down room) 0) ts
unfolding down
expr_down o zero sum ok = none_left 0 ok
expr_down o (suc room) sum ok = expr_sinks o room (omega arith)

-- a condition
cond_down : {n d : ℕ} {ts : List Lexeme} → SinksIn n op.cond (suc d) 0 ts → (room : ℕ) → d + room ≡ limit
    → nat_lt 0 room ≡ true → Sinks n (condition (down room) 0) ts
unfolding down
cond_down o zero sum ok = none_left 0 ok
cond_down o (suc room) sum ok = cond_sinks o room (omega arith)

-- a test
test_down : {n d : ℕ} {ts : List Lexeme} → SinksIn n of_kind.test (suc d) 0 ts → (room : ℕ) → d + room ≡ limit
    → nat_lt 0 room ≡ true → Sinks n (if_test (down room)) ts
unfolding down
test_down o zero sum ok = none_left 0 ok
test_down o (suc room) sum ok = o.claim room (omega arith) (omega arith)

-- a statement
sink_inside : {n d : ℕ} {ts : List Lexeme} → SinksIn n of_kind.statement (suc d) 0 ts → (room : ℕ) → d + room ≡ limit
    → nat_lt 0 room ≡ true → Sinks n (inside room) ts
unfolding inside
sink_inside o zero sum ok = none_left 0 ok
sink_inside o (suc room) sum ok = o.claim room (omega arith) (omega arith)

-- statements
sink_list : {n d : ℕ} {ts : List Lexeme} → SinksIn n of_kind.statements (suc d) 0 ts → (room : ℕ) → d + room ≡ limit
    → nat_lt 0 room ≡ true → Sinks n (statement_list (inside room)) ts
unfolding inside statement_list
sink_list o zero sum ok = none_left 0 ok
sink_list o (suc room) sum ok = o.claim room [] (omega arith) (omega arith)

-- no more can be opened
shut : {A : Type 0} {n d : ℕ} {us : List Lexeme} → SinksIn n of_kind.mark (suc d) 0 us → (room : ℕ) → d + room ≡ limit
    → nat_lt 0 room ≡ true → A
shut o room sum ok = full room 0 o (omega arith) ok

-- at a mark that opens nothing no more is open than around it
past : {A : Type 0} (d : ℕ) → limit < d + 0 / 8 → (room : ℕ) → d + room ≡ limit → A
past d m room sum = over d 0 room 0 m (omega arith) (omega arith)

-- References.

-- a choice by a first symbol that fails the test
pub first_else : {A : Type 0} {n : ℕ} (test : Symbol → Bool) (p : Parser A) {q : Parser A} {ts : List Lexeme}
    → ft.Begins test false ts → Sinks n q ts → Sinks n (by_symbol (λ k. if test k then p else q)) ts
first_else test p (ft.with_first b) d = sink_head _ (sink_else _ b d)

-- the index of a reference
index_case : {n : ℕ} {t o : Lexeme} {ts : List Lexeme} (room : ℕ) → Is s.Name t → Is s.Open o → n ≤ length ts
    → (nat_lt 0 room ≡ true → Sinks n (within room 0) ts) → SinksReference n room (t ∷ o ∷ ts)
unfolding reference indexed statement_step statement_by named_statement with_arguments
index_case room i j w d = record {
  alone = sink_behind _ (near_expect i) (omega arith)
      (sink_symbol _ j (sink_if _ (same_self s.Open) (sink_then _ (sink_enclosed room 0 refuse j w d))));
  first = λ below inner. sink_symbol _ i (sink_take _ (sink_symbol _ j (sink_else _ open_colon
      (sink_if _ (same_self s.Open) (sink_then _ (sink_arguments room 0 refuse j w (λ ok. sink_then _ (d ok))))))));
}

-- Sources, MOVE and SCAN.

-- a reference begins with a name
reference_refused : (room : ℕ) (t : Lexeme) (us : List Lexeme) → same_symbol t.symbol s.Name ≡ false
    → reference room (t ∷ us) ≡ Bad (t ∷ us)
unfolding reference expect by_symbol followed and_then refuse
reference_refused room t us e = rw e refl

-- a string is no name
text_no_name : (t : Lexeme) → is s.Text t.symbol ≡ true → same_symbol t.symbol s.Name ≡ false
unfolding same_symbol symbol_number
text_no_name t e = rw (same_is t.symbol s.Text e) refl

-- a list that has a token
some_token_of : {A : Type 0} {n : ℕ} {p : Parser A} (P : List Lexeme → Type 0) (ts : List Lexeme) → IsLocal p
    → Sinks n p ts → ((t : Lexeme) (us : List Lexeme) → Sinks n p (t ∷ us) → P (t ∷ us)) → P ts
some_token_of P ts l d h = some_token P ts l d h

-- the reference of a source
source_reference_case : {n : ℕ} {ts : List Lexeme} (room : ℕ) → Sinks n (reference room) ts → Sinks n (source room) ts
unfolding source
source_reference_case {n = n} {ts = ts} room d = some_token (λ ts. Sinks n (source room) ts) ts (local_reference room) d
    (λ t us d. go t us d (is s.Text t.symbol) refl)
  where
    go : (t : Lexeme) (us : List Lexeme) → Sinks n (reference room) (t ∷ us) → (b : Bool) → is s.Text t.symbol ≡ b
        → Sinks n (source room) (t ∷ us)
    go t us d false e = sink_head _ (sink_else _ e (sink_then _ d))
    go t us d true e = not_bad (reference_refused room t us (text_no_name t e)) d

-- the count of a source
counted_case : {n : ℕ} {r : Tree} {k o : Lexeme} {ts mid : List Lexeme} (room : ℕ) → st.Reference r ts (k ∷ o ∷ mid)
    → Is s.Comma k → Is s.Open o → n ≤ length mid → (nat_lt 0 room ≡ true → Sinks n (within room 0) mid)
    → Sinks n (source room) ts
unfolding source source_behind
counted_case room r i j w d = first_else (is s.Text) _ (name_first name_text r)
    (sink_behind _ (reference_read r (no_open i comma_open) room) (omega arith)
    (sink_symbol _ i (sink_if _ (same_self s.Comma) (sink_take _ (sink_then _ (sink_enclosed room 0 refuse j w d))))))

-- the reference of a MOVE
move_front : {n : ℕ} {m : Lexeme} {ts : List Lexeme} (room : ℕ) → Is (s.Word wd.Move) m → Sinks n (reference room) ts
    → Sinks n (effect room) (m ∷ ts)
unfolding effect move
move_front {n = n} {ts = ts} room i d = sink_symbol _ i (sink_else _ move_scan
    (sink_on (near_then _ (near_expect i) stays) (let a = sink_shorter (local_reference room) d in omega arith) (sink_then _ d)))

-- the source of a MOVE
move_value : {n : ℕ} {r : Tree} {m k : Lexeme} {ts mid : List Lexeme} (room : ℕ) → Is (s.Word wd.Move) m
    → st.Reference r ts (k ∷ mid) → Is s.Assign k → n ≤ length mid → Sinks n (source room) mid
    → Sinks n (effect room) (m ∷ ts)
unfolding effect move
move_value room i r j w d = sink_symbol _ i (sink_else _ move_scan (sink_behind _ (near_expect i)
    (let a = tk.shorter_reference r in omega arith)
    (sink_behind _ (reference_read r (no_open j assign_open) room) (omega arith)
    (sink_behind _ (near_expect j) w (sink_then _ d)))))

-- the reference of a SCAN
scan_front : {n : ℕ} {m : Lexeme} {ts : List Lexeme} (room : ℕ) → Is (s.Word wd.Scan) m → Sinks n (reference room) ts
    → Sinks n (effect room) (m ∷ ts)
unfolding effect scan
scan_front room i d = sink_symbol _ i (sink_if _ (same_self _)
    (sink_behind _ (near_expect i) (let a = sink_shorter (local_reference room) d in omega arith) (sink_then _ d)))

-- the test byte behind WHILE
scan_value_while : {n : ℕ} {r : Tree} {m k : Lexeme} {ts mid : List Lexeme} (room : ℕ) → Is (s.Word wd.Scan) m
    → st.Reference r ts (k ∷ mid) → Is (s.Word wd.While) k → n ≤ length mid → Sinks n (expression room 0) mid
    → Sinks n (effect room) (m ∷ ts)
unfolding effect scan while_or_until
scan_value_while room i r j w d = sink_symbol _ i (sink_if _ (same_self _) (sink_behind _ (near_expect i)
    (let a = tk.shorter_reference r in omega arith)
    (sink_behind _ (reference_read r (no_open j (word_open _)) room) (omega arith)
    (sink_behind _ (near_symbol _ j (near_else _ while_until (near_then _ (near_expect j) (near_pure _ _)))) w (sink_then _ d)))))

-- the test byte behind UNTIL
scan_value_until : {n : ℕ} {r : Tree} {m k : Lexeme} {ts mid : List Lexeme} (room : ℕ) → Is (s.Word wd.Scan) m
    → st.Reference r ts (k ∷ mid) → Is (s.Word wd.Until) k → n ≤ length mid → Sinks n (expression room 0) mid
    → Sinks n (effect room) (m ∷ ts)
unfolding effect scan while_or_until
scan_value_until room i r j w d = sink_symbol _ i (sink_if _ (same_self _) (sink_behind _ (near_expect i)
    (let a = tk.shorter_reference r in omega arith)
    (sink_behind _ (reference_read r (no_open j (word_open _)) room) (omega arith)
    (sink_behind _ (near_symbol _ j (near_if _ (same_self _) (near_then _ near_take (near_pure _ _)))) w (sink_then _ d)))))

-- The condition of an IF, which begins with no relation.

-- a relation is an operator
relation_is : (k : Symbol) → is_relation (operator_of k) ≡ true → k ≡ s.Operator (operator_of k)
unfolding operator_of
relation_is (s.Operator o) e = refl
relation_is k e = cc

-- and no sign
relation_no_sign : (o : ℕ) → is_relation o ≡ true → is_sign o ≡ false
relation_no_sign o e = grind (arith, nat_tests, e)

-- a condition as a test
test_case : {n d : ℕ} {ts : List Lexeme} → SinksIn n op.cond d 0 ts → (room : ℕ) → d + room ≡ limit → Sinks n (if_test room) ts
unfolding if_test condition
test_case {n = n} {d = d} {ts = ts} o room sum = some_token (λ ts. Sinks n (if_test room) ts) ts (local_part true room 0 10 0 None)
    (o.claim room 0 (omega arith) (omega arith)) (λ t us e. go t us e (is_relation (operator_of t.symbol)) refl)
  where
    go : (t : Lexeme) (us : List Lexeme) → Sinks n (part true room 0 10 0 None) (t ∷ us)
        → (b : Bool) → is_relation (operator_of t.symbol) ≡ b → Sinks n (if_test room) (t ∷ us)
    go t us d false e = sink_head _ (sink_else _ e (sink_then _ (sink_then _ d)))
    go t us d true e = not_bad (level_refused true room 0 10 0 (relation_no_sign (operator_of t.symbol) e)
        (λ j. primary_refused _ an_operator room j (relation_is t.symbol e))) d

-- Statements.

-- a statement by its first step
by_step : {n d : ℕ} {ts : List Lexeme}
    → ((room : ℕ) → d + room ≡ limit → Sinks n (statement_step room (down room) (inside room)) ts)
    → SinksIn n of_kind.statement d 0 ts
by_step {ts = ts} h = record { claim = λ room sum fits. sink_from (ap (λ p. p ts) (statement_is room)) (h room sum) }

-- behind a label
label_case : {n d : ℕ} {t k : Lexeme} {ts : List Lexeme} → Is s.Name t → Is s.Colon k → n ≤ length ts
    → SinksIn n of_kind.statement (suc d) 0 ts → SinksIn n of_kind.statement d 0 (t ∷ k ∷ ts)
unfolding statement_step statement_by named_statement labelled enter
label_case i j w o = by_step (λ room sum. sink_symbol _ i (sink_take _ (sink_symbol _ j (sink_if _ (same_self s.Colon)
    (sink_allowed _ _ w (λ ok. sink_then _ (sink_inside o room sum ok)))))))

-- where no more may be opened, a word that opens a construct is too deep
shut_begin : {n d : ℕ} {t : Lexeme} {ts us : List Lexeme} → Is (s.Word wd.Begin) t → n ≤ length ts
    → SinksIn n of_kind.mark (suc d) 0 us → SinksIn n of_kind.statement d 0 (t ∷ ts)
unfolding statement_step statement_by by_word block enter
shut_begin i w o = by_step (λ room sum. sink_symbol _ i (sink_allowed _ _ w (λ ok. shut o room sum ok)))

-- IF where no more may be opened
shut_if : {n d : ℕ} {t : Lexeme} {ts us : List Lexeme} → Is (s.Word wd.If) t → n ≤ length ts
    → SinksIn n of_kind.mark (suc d) 0 us → SinksIn n of_kind.statement d 0 (t ∷ ts)
unfolding statement_step statement_by by_word if_statement enter
shut_if i w o = by_step (λ room sum. sink_symbol _ i (sink_allowed _ _ w (λ ok. shut o room sum ok)))

-- WHILE where no more may be opened
shut_while : {n d : ℕ} {t : Lexeme} {ts us : List Lexeme} → Is (s.Word wd.While) t → n ≤ length ts
    → SinksIn n of_kind.mark (suc d) 0 us → SinksIn n of_kind.statement d 0 (t ∷ ts)
unfolding statement_step statement_by by_word while_statement enter
shut_while i w o = by_step (λ room sum. sink_symbol _ i (sink_allowed _ _ w (λ ok. shut o room sum ok)))

-- DO where no more may be opened
shut_do : {n d : ℕ} {t : Lexeme} {ts us : List Lexeme} → Is (s.Word wd.Do) t → n ≤ length ts
    → SinksIn n of_kind.mark (suc d) 0 us → SinksIn n of_kind.statement d 0 (t ∷ ts)
unfolding statement_step statement_by by_word do_statement enter
shut_do i w o = by_step (λ room sum. sink_symbol _ i (sink_allowed _ _ w (λ ok. shut o room sum ok)))

-- FOR where no more may be opened
shut_for : {n d : ℕ} {t : Lexeme} {ts us : List Lexeme} → Is (s.Word wd.For) t → n ≤ length ts
    → SinksIn n of_kind.mark (suc d) 0 us → SinksIn n of_kind.statement d 0 (t ∷ ts)
unfolding statement_step statement_by by_word for_statement enter
shut_for i w o = by_step (λ room sum. sink_symbol _ i (sink_allowed _ _ w (λ ok. shut o room sum ok)))

-- CASE where no more may be opened
shut_case : {n d : ℕ} {t : Lexeme} {ts us : List Lexeme} → Is (s.Word wd.Case) t → n ≤ length ts
    → SinksIn n of_kind.mark (suc d) 0 us → SinksIn n of_kind.statement d 0 (t ∷ ts)
unfolding statement_step statement_by by_word case_statement enter
shut_case i w o = by_step (λ room sum. sink_symbol _ i (sink_allowed _ _ w (λ ok. shut o room sum ok)))

-- behind BEGIN
begin_case : {n d : ℕ} {b : Lexeme} {ts : List Lexeme} → Is (s.Word wd.Begin) b → n ≤ length ts
    → SinksIn n of_kind.statements (suc d) 0 ts → SinksIn n of_kind.statement d 0 (b ∷ ts)
unfolding statement_step statement_by by_word block enter
begin_case i w o = by_step (λ room sum. sink_symbol _ i (sink_allowed _ _ w (λ ok.
    sink_then _ (sink_list o room sum ok))))

-- behind IF
if_case : {n d : ℕ} {b : Lexeme} {ts : List Lexeme} → Is (s.Word wd.If) b → n ≤ length ts
    → SinksIn n of_kind.test (suc d) 0 ts → SinksIn n of_kind.statement d 0 (b ∷ ts)
unfolding statement_step statement_by by_word if_statement enter
if_case i w o = by_step (λ room sum. sink_symbol _ i (sink_allowed _ _ w (λ ok.
    sink_then _ (test_down o room sum ok))))

-- behind THEN
then_case : {n d : ℕ} {q : stat.Test} {b t : Lexeme} {ts mid : List Lexeme} → Is (s.Word wd.If) b
    → st.Test q ts (t ∷ mid) → Is (s.Word wd.Then) t → n ≤ length mid
    → SinksIn n of_kind.statement (suc d) 0 mid → SinksIn n of_kind.statement d 0 (b ∷ ts)
unfolding statement_step statement_by by_word if_statement enter
then_case i q j w o = by_step (λ room sum. sink_symbol _ i (sink_allowed _ _ (let a = tk.shorter_test q in omega arith) (λ ok.
    sink_behind _ (test_read q j (down room)) (omega arith) (sink_behind _ (near_expect j) w
    (sink_then _ (sink_inside o room sum ok))))))

-- behind ELSE
else_case : {n d : ℕ} {q : stat.Test} {x : stat.Statement} {b t l : Lexeme} {ts mid next : List Lexeme} → Is (s.Word wd.If) b
    → st.Test q ts (t ∷ mid) → Is (s.Word wd.Then) t → st.Statement x mid (l ∷ next) → closed x ≡ true → Is (s.Word wd.Else) l
    → n ≤ length next → SinksIn n of_kind.statement (suc d) 0 next → SinksIn n of_kind.statement d 0 (b ∷ ts)
unfolding statement_step statement_by by_word if_statement else_behind enter
else_case i q j x e k w o = by_step (λ room sum. sink_symbol _ i (sink_allowed _ _ (let a = tk.shorter_test q in let b = tk.no_longer x in omega arith) (λ ok.
    sink_behind _ (test_read q j (down room)) (let b = tk.no_longer x in omega arith) (sink_behind _ (near_expect j)
    (let b = tk.no_longer x in omega arith) (sink_behind _ (inside_read (complete_statement x (af.other e k)) room ok) (omega arith)
    (sink_symbol _ k (sink_if _ (same_self _) (sink_take _ (sink_then _ (sink_inside o room sum ok))))))))))

-- behind WHILE
while_case : {n d : ℕ} {b : Lexeme} {ts : List Lexeme} → Is (s.Word wd.While) b → n ≤ length ts
    → SinksIn n op.cond (suc d) 0 ts → SinksIn n of_kind.statement d 0 (b ∷ ts)
unfolding statement_step statement_by by_word while_statement enter
while_case i w o = by_step (λ room sum. sink_symbol _ i (sink_allowed _ _ w (λ ok.
    sink_then _ (cond_down o room sum ok))))

-- behind the DO of a WHILE
while_body_case : {n d : ℕ} {e : Tree} {b k : Lexeme} {ts mid : List Lexeme} → Is (s.Word wd.While) b
    → st.Condition e ts (k ∷ mid) → Is (s.Word wd.Do) k → n ≤ length mid
    → SinksIn n of_kind.statement (suc d) 0 mid → SinksIn n of_kind.statement d 0 (b ∷ ts)
unfolding statement_step statement_by by_word while_statement enter
while_body_case i e j w o = by_step (λ room sum. sink_symbol _ i (sink_allowed _ _ (let a = tk.shorter_condition e in omega arith) (λ ok.
    sink_behind _ (cond_read e (follow_stopper j word) (down room)) (omega arith) (sink_behind _ (near_expect j) w
    (sink_then _ (sink_inside o room sum ok))))))

-- behind DO
do_case : {n d : ℕ} {b : Lexeme} {ts : List Lexeme} → Is (s.Word wd.Do) b → n ≤ length ts
    → SinksIn n of_kind.statement (suc d) 0 ts → SinksIn n of_kind.statement d 0 (b ∷ ts)
unfolding statement_step statement_by by_word do_statement enter
do_case i w o = by_step (λ room sum. sink_symbol _ i (sink_allowed _ _ w (λ ok.
    sink_then _ (sink_inside o room sum ok))))

-- behind the UNTIL of a DO
do_condition_case : {n d : ℕ} {x : stat.Statement} {b k : Lexeme} {ts mid : List Lexeme} → Is (s.Word wd.Do) b
    → st.Statement x ts (k ∷ mid) → Is (s.Word wd.Until) k → n ≤ length mid
    → SinksIn n op.cond (suc d) 0 mid → SinksIn n of_kind.statement d 0 (b ∷ ts)
unfolding statement_step statement_by by_word do_statement enter
do_condition_case i x j w o = by_step (λ room sum. sink_symbol _ i (sink_allowed _ _ (let a = tk.no_longer x in omega arith) (λ ok.
    sink_behind _ (inside_read (complete_statement x (af.until j)) room ok) (omega arith) (sink_behind _ (near_expect j) w
    (sink_then _ (cond_down o room sum ok))))))

-- the first value of a FOR
for_first_case : {n d : ℕ} {f t k : Lexeme} {ts : List Lexeme} → Is (s.Word wd.For) f → Is s.Name t → Is s.Assign k → n ≤ length ts
    → SinksIn n op.expr (suc d) 0 ts → SinksIn n of_kind.statement d 0 (f ∷ t ∷ k ∷ ts)
unfolding statement_step statement_by by_word for_statement enter
for_first_case i j k w o = by_step (λ room sum. sink_symbol _ i (sink_allowed _ _ (omega arith) (λ ok.
    sink_behind _ (near_expect j) (omega arith) (sink_behind _ (near_expect k) w (sink_then _ (expr_down o room sum ok))))))

-- its step
for_step_case : {n d : ℕ} {a : Tree} {f t k p : Lexeme} {ts mid : List Lexeme} → Is (s.Word wd.For) f → Is s.Name t → Is s.Assign k
    → st.Expression a ts (p ∷ mid) → Is (s.Word wd.Step) p → n ≤ length mid
    → SinksIn n op.expr (suc d) 0 mid → SinksIn n of_kind.statement d 0 (f ∷ t ∷ k ∷ ts)
unfolding statement_step statement_by by_word for_statement stepped enter
for_step_case i j k e p w o = by_step (λ room sum. sink_symbol _ i (sink_allowed _ _ (let a = tk.shorter_expression e in omega arith) (λ ok.
    let a = tk.shorter_expression e in sink_behind _ (near_expect j) (omega arith) (sink_behind _ (near_expect k) (omega arith)
    (sink_behind _ (expr_read e (follow_stopper p word) (down room)) (omega arith)
    (sink_then _ (sink_symbol _ p (sink_if _ (same_self _) (sink_take _ (sink_then _ (expr_down o room sum ok)))))))))))

-- its last value
for_last_case : {n d : ℕ} {a : Tree} {es : List Tree} {f t k u : Lexeme} {ts mid next : List Lexeme} → Is (s.Word wd.For) f → Is s.Name t → Is s.Assign k
    → st.Expression a ts mid → st.Stepped es mid (u ∷ next) → Is (s.Word wd.Until) u → n ≤ length next
    → SinksIn n op.expr (suc d) 0 next → SinksIn n of_kind.statement d 0 (f ∷ t ∷ k ∷ ts)
unfolding statement_step statement_by by_word for_statement enter
for_last_case i j k e p q w o = by_step (λ room sum. sink_symbol _ i (sink_allowed _ _ (let a = tk.shorter_expression e in let b = tk.no_longer_step p in omega arith) (λ ok.
    let a = tk.shorter_expression e in let b = tk.no_longer_step p in
    sink_behind _ (near_expect j) (omega arith) (sink_behind _ (near_expect k) (omega arith)
    (sink_behind _ (expr_read e (follow_step p q) (down room)) (omega arith)
    (sink_behind _ (stepped_read p q (down room)) (omega arith) (sink_behind _ (near_expect q) w
    (sink_then _ (expr_down o room sum ok)))))))))

-- its statement
for_body_case : {n d : ℕ} {a b : Tree} {es : List Tree} {f t k u z : Lexeme} {ts mid next last : List Lexeme} → Is (s.Word wd.For) f → Is s.Name t → Is s.Assign k
    → st.Expression a ts mid → st.Stepped es mid (u ∷ next) → Is (s.Word wd.Until) u → st.Expression b next (z ∷ last)
    → Is (s.Word wd.Do) z → n ≤ length last
    → SinksIn n of_kind.statement (suc d) 0 last → SinksIn n of_kind.statement d 0 (f ∷ t ∷ k ∷ ts)
unfolding statement_step statement_by by_word for_statement enter
for_body_case i j k e p q f r w o = by_step (λ room sum. sink_symbol _ i (sink_allowed _ _ (let a = tk.shorter_expression e in let b = tk.no_longer_step p in let c = tk.shorter_expression f in omega arith) (λ ok.
    let a = tk.shorter_expression e in let b = tk.no_longer_step p in let c = tk.shorter_expression f in
    sink_behind _ (near_expect j) (omega arith) (sink_behind _ (near_expect k) (omega arith)
    (sink_behind _ (expr_read e (follow_step p q) (down room)) (omega arith)
    (sink_behind _ (stepped_read p q (down room)) (omega arith) (sink_behind _ (near_expect q) (omega arith)
    (sink_behind _ (expr_read f (follow_stopper r word) (down room)) (omega arith) (sink_behind _ (near_expect r) w
    (sink_then _ (sink_inside o room sum ok)))))))))))

-- the value of a CASE
case_value_case : {n d : ℕ} {b : Lexeme} {ts : List Lexeme} → Is (s.Word wd.Case) b → n ≤ length ts
    → SinksIn n op.expr (suc d) 0 ts → SinksIn n of_kind.statement d 0 (b ∷ ts)
unfolding statement_step statement_by by_word case_statement enter
case_value_case i w o = by_step (λ room sum. sink_symbol _ i (sink_allowed _ _ w (λ ok.
    sink_then _ (expr_down o room sum ok))))

-- the statements of a CASE
case_arms_case : {n d : ℕ} {e : Tree} {b m l : Lexeme} {ts mid : List Lexeme} → Is (s.Word wd.Case) b
    → st.Expression e ts (m ∷ l ∷ mid) → Is (s.Word wd.Of) m → Is (s.Word wd.Begin) l → n ≤ length mid
    → SinksIn n of_kind.statements (suc d) 0 mid → SinksIn n of_kind.statement d 0 (b ∷ ts)
unfolding statement_step statement_by by_word case_statement enter
case_arms_case i e j k w o = by_step (λ room sum. sink_symbol _ i (sink_allowed _ _ (let a = tk.shorter_expression e in omega arith) (λ ok.
    sink_behind _ (expr_read e (follow_stopper j word) (down room)) (omega arith) (sink_behind _ (near_expect j) (omega arith)
    (sink_behind _ (near_expect k) w (sink_then _ (sink_list o room sum ok)))))))

-- What stands behind ":=".

-- an effect begins with MOVE or SCAN
effect_symbol : (k : Symbol) → begins_effect k ≡ true → (k ≡ s.Word wd.Move) ⊎ (k ≡ s.Word wd.Scan)
effect_symbol k e = go (is (s.Word wd.Move) k) (is (s.Word wd.Scan) k) refl refl e
  where
    go : (a b : Bool) → is (s.Word wd.Move) k ≡ a → is (s.Word wd.Scan) k ≡ b → (a || b) ≡ true
        → (k ≡ s.Word wd.Move) ⊎ (k ≡ s.Word wd.Scan)
    go true b x y e = inl (same_is k (s.Word wd.Move) x)
    go false true x y e = inr (same_is k (s.Word wd.Scan) y)
    go false false x y e = cc

-- no expression begins with a reserved word
word_refused : (k : Reserved) (room : ℕ) (t : Lexeme) (us : List Lexeme) → t.symbol ≡ s.Word k
    → part false room 0 10 0 None (t ∷ us) ≡ Bad (t ∷ us)
unfolding operator_of
word_refused k room t us i = level_refused false room 0 10 0 (rw i refl) (λ j. primary_refused _ a_word room j i)

-- nor with MOVE or SCAN
effect_word_refused : (room : ℕ) (t : Lexeme) (us : List Lexeme) → begins_effect t.symbol ≡ true
    → part false room 0 10 0 None (t ∷ us) ≡ Bad (t ∷ us)
effect_word_refused room t us e = go (effect_symbol t.symbol e)
  where
    go : (t.symbol ≡ s.Word wd.Move) ⊎ (t.symbol ≡ s.Word wd.Scan) → part false room 0 10 0 None (t ∷ us) ≡ Bad (t ∷ us)
    go (inl i) = word_refused wd.Move room t us i
    go (inr i) = word_refused wd.Scan room t us i

-- neither of two tests holds
both_false : (a b : Bool) → (a || b) ≡ false → (a ≡ false) × (b ≡ false)
both_false true b e = cc
both_false false b e = (refl, e)

-- no effect begins with another symbol
effect_refused : (room : ℕ) (t : Lexeme) (us : List Lexeme) → begins_effect t.symbol ≡ false
    → effect room (t ∷ us) ≡ Bad (t ∷ us)
unfolding effect move expect by_symbol followed and_then refuse
effect_refused room t us e = let b = both_false (is (s.Word wd.Move) t.symbol) (is (s.Word wd.Scan) t.symbol) e in
    rw (b.1, b.0) refl

-- an expression behind ":="
value_case : {n d : ℕ} {ts : List Lexeme} → SinksIn n op.expr d 0 ts → (room : ℕ) → d + room ≡ limit
    → (to : stat.Target) (at : At) → Sinks n (value room to at) ts
unfolding value expression whole
value_case {n = n} {ts = ts} o room sum to at = some_token (λ ts. Sinks n (value room to at) ts) ts
    (local_part false room 0 10 0 None) (o.claim room 0 (omega arith) (omega arith))
    (λ t us d. go t us d (begins_effect t.symbol) refl)
  where
    go : (t : Lexeme) (us : List Lexeme) → Sinks n (part false room 0 10 0 None) (t ∷ us)
        → (b : Bool) → begins_effect t.symbol ≡ b → Sinks n (value room to at) (t ∷ us)
    go t us d false e = sink_head _ (sink_else _ e (sink_then _ (sink_then _ d)))
    go t us d true e = not_bad (effect_word_refused room t us e) d

-- an effect behind ":="
value_effect_case : {n : ℕ} {ts : List Lexeme} (room : ℕ) → Sinks n (effect room) ts → (to : stat.Target) (at : At)
    → Sinks n (value room to at) ts
unfolding value
value_effect_case {n = n} {ts = ts} room d to at = some_token (λ ts. Sinks n (value room to at) ts) ts (local_effect room) d
    (λ t us d. go t us d (begins_effect t.symbol) refl)
  where
    go : (t : Lexeme) (us : List Lexeme) → Sinks n (effect room) (t ∷ us)
        → (b : Bool) → begins_effect t.symbol ≡ b → Sinks n (value room to at) (t ∷ us)
    go t us d true e = sink_head _ (sink_if _ e (sink_then _ d))
    go t us d false e = not_bad (effect_refused room t us e) d

-- a statement that is an effect
effect_case : {n : ℕ} {ts : List Lexeme} (room below : ℕ) (inner : Parser stat.Statement) → Sinks n (effect room) ts
    → Sinks n (statement_step room below inner) ts
unfolding statement_step statement_by by_word effect_statement
effect_case {n = n} {ts = ts} room below inner d = some_token (λ ts. Sinks n (statement_step room below inner) ts) ts
    (local_effect room) d (λ t us d. go t us d (begins_effect t.symbol) refl)
  where
    by_which : (t : Lexeme) (us : List Lexeme) → Sinks n (effect room) (t ∷ us)
        → (t.symbol ≡ s.Word wd.Move) ⊎ (t.symbol ≡ s.Word wd.Scan) → Sinks n (statement_step room below inner) (t ∷ us)
    by_which t us d (inl i) = sink_symbol _ i (sink_place _ (sink_then _ d))
    by_which t us d (inr i) = sink_symbol _ i (sink_place _ (sink_then _ d))

    go : (t : Lexeme) (us : List Lexeme) → Sinks n (effect room) (t ∷ us)
        → (b : Bool) → begins_effect t.symbol ≡ b → Sinks n (statement_step room below inner) (t ∷ us)
    go t us d true e = by_which t us d (effect_symbol t.symbol e)
    go t us d false e = not_bad (effect_refused room t us e) d

-- the arguments of a call
call_case : {n : ℕ} {t o : Lexeme} {ts : List Lexeme} (room below : ℕ) (inner : Parser stat.Statement) → Is s.Name t
    → Is s.Open o → Sinks n (arguments room refuse (within room 0) 0) (o ∷ ts)
    → Sinks n (statement_step room below inner) (t ∷ o ∷ ts)
unfolding statement_step statement_by named_statement with_arguments
call_case room below inner i j d = sink_symbol _ i (sink_take _ (sink_symbol _ j (sink_else _ open_colon
    (sink_if _ (same_self s.Open) (sink_then _ d)))))

-- the next of some statements
semicolon_turn : (room : ℕ) (xs : List stat.Statement) (z : Lexeme) (mid : List Lexeme) → Is s.Semicolon z
    → more_statements (statement room) xs (z ∷ mid) ≡ followed (statement room) (λ x. pure (goes_on (xs ++ x ∷ []))) mid
unfolding more_statements followed by_symbol take and_then
semicolon_turn room xs z mid i = chosen _ _ (is s.Semicolon z.symbol) (z ∷ mid)
    (ap (is s.Semicolon) i ∙ same_self s.Semicolon)

-- behind a comma or a semicolon
next_case : {n d : ℕ} {x : stat.Statement} {z : Lexeme} {ts mid : List Lexeme} → st.Statement x ts (z ∷ mid)
    → Is s.Semicolon z → n ≤ length mid → SinksIn n of_kind.statements d 0 mid → SinksIn n of_kind.statements d 0 ts
next_case {x = x} {z = z} {mid = mid} y i w o = record {
  claim = λ room so_far sum fits. sink_behind _
      ((complete_statement y (af.semicolon i)).reads room) (omega arith)
      (sink_next (more_statements (statement room)) (statement room) (λ v. (so_far ++ x ∷ []) ++ v ∷ [])
      (takes_more_statements (statement room) (local_statement room)) (local_statement room)
      (semicolon_turn room (so_far ++ x ∷ []) z mid i) (o.claim room (so_far ++ x ∷ []) sum fits));
}

-- One step: what the part behind it sinks in, the production sinks in too.

-- a reference
of_reference : {n d : ℕ} {ts : List Lexeme} → ((room : ℕ) → d + room ≡ limit → SinksReference n room ts)
    → SinksIn n of_kind.reference d 0 ts
of_reference h = record { claim = λ room sum fits. h room sum }

-- a source
of_source : {n d : ℕ} {ts : List Lexeme} → ((room : ℕ) → d + room ≡ limit → Sinks n (source room) ts)
    → SinksIn n of_kind.source d 0 ts
of_source h = record { claim = λ room sum fits. h room sum }

-- an effect
of_effect : {n d : ℕ} {ts : List Lexeme} → ((room : ℕ) → d + room ≡ limit → Sinks n (effect room) ts)
    → SinksIn n of_kind.effect d 0 ts
of_effect h = record { claim = λ room sum fits. h room sum }

-- a reference that no statement begins with
alone : {n d : ℕ} {ts : List Lexeme} → SinksIn n of_kind.reference d 0 ts → (room : ℕ) → d + room ≡ limit
    → Sinks n (reference room) ts
alone o room sum = let a = o.claim room sum (omega arith) in a.alone

-- by the step
pub statement_sinks : {n d j : ℕ} {p q : Part} {ts mid : List Lexeme} → StatementStep p d ts q j mid → n ≤ length mid
    → (Inside q → SinksIn n q j 0 mid) → SinksIn n p d 0 ts
statement_sinks (op.index i j) w o = of_reference (λ room sum. index_case room i j w (λ ok. of_level room 0 (o free) (omega arith) ok))
statement_sinks (op.index_close i j e) w o = of_reference (λ room sum. index_case room i j (let a = tk.shorter_expression e in omega arith) (λ ok. shut (o a_mark) room sum ok))
statement_sinks (op.whole_reference r) w o = of_reference (λ room sum. past _ (o a_mark).claim room sum)
statement_sinks op.source_reference w o = of_source (λ room sum. source_reference_case room (alone (o a_reference) room sum))
statement_sinks (op.source_mark r) w o = of_source (λ room sum. past _ (o a_mark).claim room sum)
statement_sinks (op.source_open r i) w o = of_source (λ room sum. past _ (o a_mark).claim room sum)
statement_sinks (op.source_count r i j) w o = of_source (λ room sum. counted_case room r i j w (λ ok. of_level room 0 (o free) (omega arith) ok))
statement_sinks (op.source_close r i j e) w o = of_source (λ room sum. counted_case room r i j (let a = tk.shorter_expression e in omega arith) (λ ok. shut (o a_mark) room sum ok))
statement_sinks (op.source_class r i) w o = of_source (λ room sum. past _ (o a_mark).claim room sum)
statement_sinks (op.move_reference i) w o = of_effect (λ room sum. move_front room i (alone (o a_reference) room sum))
statement_sinks (op.move_assign i r) w o = of_effect (λ room sum. past _ (o a_mark).claim room sum)
statement_sinks (op.move_source i r j) w o = of_effect (λ room sum. move_value room i r j w ((o a_source).claim room sum (omega arith)))
statement_sinks (op.scan_reference i) w o = of_effect (λ room sum. scan_front room i (alone (o a_reference) room sum))
statement_sinks (op.scan_mark i r) w o = of_effect (λ room sum. past _ (o a_mark).claim room sum)
statement_sinks (op.scan_while i r j) w o = of_effect (λ room sum. scan_value_while room i r j w (expr_sinks (o free) room sum))
statement_sinks (op.scan_until i r j) w o = of_effect (λ room sum. scan_value_until room i r j w (expr_sinks (o free) room sum))
statement_sinks op.test_condition w o = record { claim = λ room sum fits. test_case (o free) room sum }
statement_sinks (op.label i j) w o = label_case i j w (o a_statement)
statement_sinks (op.begin i) w o = begin_case i w (o some_statements)
statement_sinks (op.begin_end i xs) w o = shut_begin i (let a = tk.no_longer_list xs in omega arith) (o a_mark)
statement_sinks (op.if_test i) w o = if_case i w (o a_test)
statement_sinks (op.if_then i q) w o = shut_if i (let a = tk.shorter_test q in omega arith) (o a_mark)
statement_sinks (op.then_branch i q j) w o = then_case i q j w (o a_statement)
statement_sinks (op.else_mark i q j x e) w o = shut_if i (let a = tk.shorter_test q in let b = tk.no_longer x in omega arith) (o a_mark)
statement_sinks (op.else_branch i q j x e k) w o = else_case i q j x e k w (o a_statement)
statement_sinks (op.while_condition i) w o = while_case i w (o free)
statement_sinks (op.while_do i e) w o = shut_while i (let a = tk.shorter_condition e in omega arith) (o a_mark)
statement_sinks (op.while_body i e j) w o = while_body_case i e j w (o a_statement)
statement_sinks (op.do_body i) w o = do_case i w (o a_statement)
statement_sinks (op.do_until i x) w o = shut_do i (let a = tk.no_longer x in omega arith) (o a_mark)
statement_sinks (op.do_condition i x j) w o = do_condition_case i x j w (o free)
statement_sinks (op.for_name i) w o = shut_for i w (o a_mark)
statement_sinks (op.for_assign i j) w o = shut_for i (omega arith) (o a_mark)
statement_sinks (op.for_first i j k) w o = for_first_case i j k w (o free)
statement_sinks (op.for_step i j k e) w o = shut_for i (let a = tk.shorter_expression e in omega arith) (o a_mark)
statement_sinks (op.for_step_value i j k e p) w o = for_step_case i j k e p w (o free)
statement_sinks (op.for_until i j k e p) w o = shut_for i (let a = tk.shorter_expression e in let b = tk.no_longer_step p in omega arith) (o a_mark)
statement_sinks (op.for_last i j k e p q) w o = for_last_case i j k e p q w (o free)
statement_sinks (op.for_do i j k e p q f) w o = shut_for i (let a = tk.shorter_expression e in let b = tk.no_longer_step p in
    let c = tk.shorter_expression f in omega arith) (o a_mark)
statement_sinks (op.for_body i j k e p q f r) w o = for_body_case i j k e p q f r w (o a_statement)
statement_sinks (op.case_value i) w o = case_value_case i w (o free)
statement_sinks (op.case_of i e) w o = shut_case i (let a = tk.shorter_expression e in omega arith) (o a_mark)
statement_sinks (op.case_begin i e j) w o = shut_case i (let a = tk.shorter_expression e in omega arith) (o a_mark)
statement_sinks (op.case_arms i e j k) w o = case_arms_case i e j k w (o some_statements)
statement_sinks (op.case_end i e j k xs) w o = shut_case i (let a = tk.shorter_expression e in let b = tk.no_longer_list xs in omega arith) (o a_mark)
statement_sinks (op.go i) w o = by_step (λ room sum. past _ (o a_mark).claim room sum)
statement_sinks (op.go_to i j) w o = by_step (λ room sum. past _ (o a_mark).claim room sum)
statement_sinks (op.goto i) w o = by_step (λ room sum. past _ (o a_mark).claim room sum)
statement_sinks (op.target_dot r i) w o = by_step (λ room sum. past _ (o a_mark).claim room sum)
statement_sinks (op.target_colon r i j v) w o = by_step (λ room sum. past _ (o a_mark).claim room sum)
statement_sinks (op.target_close r i j v q u) w o = by_step (λ room sum. past _ (o a_mark).claim room sum)
statement_sinks (op.target_address i) w o = by_step (λ room sum. past _ (o a_mark).claim room sum)
statement_sinks (op.target_assign x) w o = by_step (λ room sum. past _ (o a_mark).claim room sum)
statement_sinks (op.whole_statement x) w o = by_step (λ room sum. past _ (o a_mark).claim room sum)
statement_sinks (op.target_start r i j) w o = by_step (λ room sum. past _ (o a_constant).claim room sum)
statement_sinks (op.target_length r i j v q) w o = by_step (λ room sum. past _ (o a_constant).claim room sum)
statement_sinks op.target_reference w o = by_step (λ room sum. let a = (o a_reference).claim room sum (omega arith) in
    a.first (down room) (inside room))
statement_sinks (op.value x i) w o = by_step (λ room sum. sink_on (target_read room (down room) (inside room) x i stays) w
    (value_case (o free) room sum _ _))
statement_sinks (op.value_effect x i) w o = by_step (λ room sum. sink_on (target_read room (down room) (inside room) x i stays) w
    (value_effect_case room ((o an_effect).claim room sum (omega arith)) _ _))
statement_sinks op.effect_of w o = by_step (λ room sum. effect_case room (down room) (inside room) ((o an_effect).claim room sum (omega arith)))
statement_sinks (op.call_arguments i j) w o = by_step (λ room sum. call_case room (down room) (inside room) i j
    (sink_arguments room 0 refuse j w (λ ok. arguments_of room 0 refuse (o some_arguments) (omega arith) ok)))
statement_sinks (op.call_close i j x) w o = by_step (λ room sum. call_case room (down room) (inside room) i j
    (sink_arguments room 0 refuse j (let a = pt.shorter_arguments x in omega arith) (λ ok. shut (o a_mark) room sum ok)))
statement_sinks op.first_statement w o = record { claim = λ room so_far sum fits. sink_then _ ((o a_statement).claim room sum (omega arith)) }
statement_sinks (op.semicolon x) w o = record { claim = λ room so_far sum fits. past _ (o a_mark).claim room sum }
statement_sinks (op.next_statement x i) w o = next_case x i w (o some_statements)
