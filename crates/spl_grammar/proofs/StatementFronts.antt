-- What is spelled at the front of a statement is read: references, targets, effects, calls.
use Rattle.std.proofs.Common.{ℕ, ◌-◌, ◌≡◌, Bool, true, false, if◌then◌else◌, List, [], ◌∷◌, refl, arith, ap, ◌∙◌, inl, inr}
use Rattle.spl_reading.specs.spl_tree.declared.names_and_places.At.{At}
use Rattle.spl_reading.specs.spl_tree.declared.symbols.Symbol.{Symbol}
use Rattle.spl_reading.specs.spl_tree.declared.symbols.Symbol.TheVariants as s
use Rattle.spl_reading.specs.spl_tree.declared.symbols.Reserved.{Reserved}
use Rattle.spl_reading.specs.spl_tree.declared.symbols.Reserved.TheVariants as w
use Rattle.spl_reading.specs.spl_tree.Symbols.{Lexeme, Is}
use Rattle.spl_reading.specs.spl_tree.Operators.{binds}
use Rattle.spl_reading.specs.spl_tree.Expressions as g
use Rattle.spl_reading.specs.spl_tree.Trees as tree
use Rattle.spl_reading.specs.spl_tree.Trees.{Tree, Trees, trees}
use Rattle.spl_reading.specs.spl_tree.StatementTrees as stat
use Rattle.spl_reading.specs.spl_tree.StatementTrees.{closed, statements}
use Rattle.spl_reading.specs.spl_tree.Statements as st
use Rattle.spl_reading.specs.spl_tree.Statements.{class_of, is_relation}
use Rattle.spl_reading.specs.Readers.{Outcome, Got, Parser, by_symbol, pure, refuse, same_symbol, symbol_number, reserved_number}
use Rattle.spl_reading.specs.ReadExpressions.{is, operator_of, enclosed, within, expression, condition}
use Rattle.spl_reading.specs.ReadStatements.{indexed, reference, source_behind, source, while_or_until, move, scan, effect, begins_effect, if_test, value, assigned, field_assigned, behind_reference, is_single, with_arguments, named_statement, address_assigned, statement_by, statement_step}
use Rattle.spl_grammar.specs.Following.{Follow, behind, Stops, After}
use Rattle.spl_grammar.specs.Following as af
use Rattle.spl_grammar.proofs.NearReaders.{Near, near_to, near_then, near_pure, near_take, near_symbol, near_head, near_if, near_else, near_expect, near_numbered, same_self}
use Rattle.spl_grammar.proofs.StatementTokens as tk
use Rattle.spl_grammar.proofs.FirstTokens as ft
use Rattle.spl_grammar.proofs.FollowLemmas.{follow_is, stops_close}
use Rattle.spl_grammar.proofs.CompleteExpressions.{ExpressionRead, ArgumentsRead, complete, expression_of, complete_constant, near_enclosed, near_arguments, one_case}
use Rattle.spl_grammar.proofs.ExpressionLaws.{expression_read, condition_read}

-- a symbol that stops every expression and condition
pub data Stopper : Symbol → Type 0 where
  semicolon : Stopper s.Semicolon
  word : {k : Reserved} → Stopper (s.Word k)

pub stopper_stops : {c : Bool} {h : ℕ} {k : Symbol} → Stopper k → Stops c h k
unfolding same_symbol symbol_number operator_of binds
stopper_stops semicolon = record
    { dot = refl; opening = refl; operator = inl refl; mark = inr refl; comma = inr (inr refl) }
stopper_stops word = record { dot = refl; opening = refl; operator = inl refl; mark = inr refl; comma = inr (inr refl) }

pub follow_stopper : {c : Bool} {h : ℕ} {k : Symbol} {t : Lexeme} {ts : List Lexeme} → Is k t → Stopper k
    → Follow c h (t ∷ ts)
follow_stopper i w = follow_is i (stopper_stops w)

-- what stands behind a statement stops what it ends in
pub follow_after : {c : Bool} {h : ℕ} {x : stat.Statement} {ts : List Lexeme} → After x ts → Follow c h ts
follow_after (af.semicolon i) = follow_stopper i semicolon
follow_after (af.end i) = follow_stopper i word
follow_after (af.until i) = follow_stopper i word
follow_after (af.other e i) = follow_stopper i word

-- an expression and a condition
pub expr_read : {e : Tree} {ts rest : List Lexeme} → st.Expression e ts rest → Follow false 10 rest → (room : ℕ)
    → Near (expression room 0) ts rest (Got e rest)
expr_read (st.Expression.expression l) w room = expression_read l w room 0

pub cond_read : {e : Tree} {ts rest : List Lexeme} → st.Condition e ts rest → Follow true 10 rest → (room : ℕ)
    → Near (condition room 0) ts rest (Got e rest)
cond_read (st.Condition.condition l) w room = condition_read l w room 0

-- "(" expr ")"
pub boxed_of : {e : Tree} {z : Lexeme} {ts rest : List Lexeme} → st.Expression e ts (z ∷ rest) → Is s.Close z
    → ExpressionRead e ts (z ∷ rest)
boxed_of (st.Expression.expression l) z = expression_of (complete l) (follow_is z (stops_close false 10))

pub boxed_read : (room : ℕ) {e : Tree} {o z : Lexeme} {ts rest : List Lexeme} → Is s.Open o → st.Expression e ts (z ∷ rest)
    → Is s.Close z
    → Near (enclosed room refuse (within room 0) 0) (o ∷ ts) rest (Got e rest)
boxed_read room i e z = near_enclosed room 0 refuse i (boxed_of e z) z (let a = tk.shorter_expression e in omega arith)

-- a reference, where no "(" follows
pub reference_read : {r : Tree} {ts rest : List Lexeme} → st.Reference r ts rest → ft.Begins (is s.Open) false rest
    → (room : ℕ) → Near (reference room) ts rest (Got r rest)
unfolding reference indexed
reference_read (st.Reference.name i) (ft.with_first b) room = near_then _ (near_expect i)
    (near_head _ (near_else _ b (near_pure _ _)))
reference_read (st.Reference.element i o e z) w room = near_then _ (near_expect i)
    (near_symbol _ o (near_if _ (same_self s.Open)
    (near_then _ (boxed_read room o e z) (near_pure _ _))))

-- a token that is no "("
pub no_open : {k : Symbol} {t : Lexeme} {ts : List Lexeme} → Is k t → is s.Open k ≡ false
    → ft.Begins (is s.Open) false (t ∷ ts)
no_open i e = ft.by_is _ _ _ _ _ i e

-- a choice at a list whose first symbol fails the test
pub first_else : {A : Type 0} (test : Symbol → Bool) (p : Parser A) {q : Parser A} {ts m : List Lexeme} {y : Outcome A}
    → ft.Begins test false ts → Near q ts m y
    → Near (by_symbol (λ k. if test k then p else q)) ts m y
first_else test p (ft.with_first b) n = near_head _ (near_else _ b n)

pub first_then : {A : Type 0} (test : Symbol → Bool) {p : Parser A} (q : Parser A) {ts m : List Lexeme} {y : Outcome A}
    → ft.Begins test true ts → Near p ts m y
    → Near (by_symbol (λ k. if test k then p else q)) ts m y
first_then test q (ft.with_first b) n = near_head _ (near_if _ b n)

-- a reference begins with a name
pub name_first : {test : Symbol → Bool} {b : Bool} {r : Tree} {ts rest : List Lexeme} → test s.Name ≡ b
    → st.Reference r ts rest → ft.Begins test b ts
name_first e (st.Reference.name i) = ft.by_is _ _ _ _ _ i e
name_first e (st.Reference.element i _ _ _) = ft.by_is _ _ _ _ _ i e

pub comma_open : is s.Open s.Comma ≡ false
unfolding same_symbol symbol_number
comma_open = refl

pub word_open : (k : Reserved) → is s.Open (s.Word k) ≡ false
unfolding same_symbol symbol_number
word_open k = refl

pub assign_open : is s.Open s.Assign ≡ false
unfolding same_symbol symbol_number
assign_open = refl

pub dot_open : is s.Open s.Dot ≡ false
unfolding same_symbol symbol_number
dot_open = refl

pub name_text : is s.Text s.Name ≡ false
unfolding same_symbol symbol_number
name_text = refl

pub word_comma : (k : Reserved) → is s.Comma (s.Word k) ≡ false
unfolding same_symbol symbol_number
word_comma k = refl

pub while_until : is (s.Word w.Until) (s.Word w.While) ≡ false
unfolding same_symbol symbol_number reserved_number
while_until = refl

pub move_scan : is (s.Word w.Scan) (s.Word w.Move) ≡ false
unfolding same_symbol symbol_number reserved_number
move_scan = refl

pub source_read : {x : stat.Source} {ts rest : List Lexeme} → st.Source x ts rest → (room : ℕ)
    → Near (source room) ts rest (Got x rest)
unfolding source source_behind
source_read (st.Source.counted r k o e z) room = first_else (is s.Text) _ (name_first name_text r)
    (near_then _ (reference_read r (no_open k comma_open) room)
    (near_symbol _ k (near_if _ (same_self s.Comma)
    (near_then _ near_take (near_then _ (boxed_read room o e z) (near_pure _ _))))))
source_read (st.Source.text i) room = near_symbol _ i
    (near_if _ (same_self s.Text) (near_then _ near_take (near_pure _ _)))
source_read (st.Source.while_class r k j c) room = first_else (is s.Text) _ (name_first name_text r)
    (near_then _ (reference_read r (no_open k (word_open _)) room)
    (near_symbol _ k (near_else _ (word_comma _)
    (near_then _ (near_expect k) (near_then _ (near_numbered class_of j c) (near_pure _ _))))))

-- a MOVE or a SCAN
pub effect_read : {x : stat.Effect} {ts rest : List Lexeme} → st.Effect x ts rest → Follow false 10 rest → (room : ℕ)
    → Near (effect room) ts rest (Got x rest)
unfolding effect move scan while_or_until
effect_read (st.Effect.move i r k x) w room = near_symbol _ i
    (near_else _ move_scan (near_then _ (near_expect i) (near_then _ (reference_read r (no_open k assign_open) room)
    (near_then _ (near_expect k) (near_then _ (source_read x room) (near_pure _ _))))))
effect_read (st.Effect.scan_while i r k e) w room = near_symbol _ i
    (near_if _ (same_self _) (near_then _ (near_expect i) (near_then _ (reference_read r (no_open k (word_open _)) room)
    (near_then _ (near_symbol _ k (near_else _ while_until (near_then _ (near_expect k) (near_pure _ _))))
    (near_then _ (expr_read e w room) (near_pure _ _))))))
effect_read (st.Effect.scan_until i r k e) w room = near_symbol _ i
    (near_if _ (same_self _) (near_then _ (near_expect i) (near_then _ (reference_read r (no_open k (word_open _)) room)
    (near_then _ (near_symbol _ k (near_if _ (same_self _) (near_then _ near_take (near_pure _ _))))
    (near_then _ (expr_read e w room) (near_pure _ _))))))

pub condition_no_relation : {e : Tree} {ts rest : List Lexeme} → st.Condition e ts rest
    → ft.Begins (λ k. is_relation (operator_of k)) false ts
condition_no_relation (st.Condition.condition l) = ft.no_relation l

pub relation_is : (op : ℕ) → is_relation op ≡ true → is_relation (operator_of (s.Operator op)) ≡ true
unfolding operator_of
relation_is op e = e

pub code_is : (k : Symbol) (op : ℕ) (rest : List Lexeme) → k ≡ s.Operator op
    → Got (stat.Test.code (operator_of k - 5)) rest ≡ Got (stat.Test.code (op - 5)) rest
unfolding operator_of
code_is k op rest e = rw e refl

-- what an IF tests
pub test_read : {q : stat.Test} {t : Lexeme} {ts rest : List Lexeme} → st.Test q ts (t ∷ rest) → Is (s.Word w.Then) t
    → (room : ℕ) → Near (if_test room) ts (t ∷ rest) (Got q (t ∷ rest))
unfolding if_test
test_read (st.Test.condition e) i room = first_else (λ k. is_relation (operator_of k)) _ (condition_no_relation e)
    (near_then _ (cond_read e (follow_stopper i word) room) (near_pure _ _))
test_read {rest = rest} (st.Test.code {op = op} {t = u} j b) i room = near_symbol _ j
    (near_if _ (relation_is op b) (near_then _ near_take (near_to (near_pure _ _) (code_is u.symbol op _ j))))

pub not_word : (k : Symbol) → ft.is_reserved k ≡ false → begins_effect k ≡ false
unfolding same_symbol symbol_number
not_word (s.Word k) e = cc
not_word _ e = refl

pub expression_no_effect : {e : Tree} {ts rest : List Lexeme} → st.Expression e ts rest → ft.Begins begins_effect false ts
expression_no_effect (st.Expression.expression l) = go (ft.no_word l)
  where
    go : {ts : List Lexeme} → ft.Begins ft.is_reserved false ts → ft.Begins begins_effect false ts
    go (ft.with_first {t = t} b) = ft.with_first (not_word t.symbol b)

pub effect_first : {x : stat.Effect} {ts rest : List Lexeme} → st.Effect x ts rest → ft.Begins begins_effect true ts
unfolding same_symbol symbol_number reserved_number
effect_first (st.Effect.move i r k x) = ft.by_is _ _ _ _ _ i refl
effect_first (st.Effect.scan_while i r k x) = ft.by_is _ _ _ _ _ i refl
effect_first (st.Effect.scan_until i r k x) = ft.by_is _ _ _ _ _ i refl

-- behind ":="
pub value_read : {e : Tree} {ts rest : List Lexeme} → st.Expression e ts rest → Follow false 10 rest
    → (room : ℕ) (to : stat.Target) (at : At)
    → Near (value room to at) ts rest (Got (stat.Statement.assign to e at) rest)
unfolding value
value_read e w room to at = first_else begins_effect _ (expression_no_effect e)
    (near_then _ (expr_read e w room) (near_pure _ _))

pub value_effect_read : {e : stat.Effect} {ts rest : List Lexeme} → st.Effect e ts rest → Follow false 10 rest
    → (room : ℕ) (to : stat.Target) (at : At)
    → Near (value room to at) ts rest (Got (stat.Statement.assign_effect to e at) rest)
unfolding value
value_effect_read e w room to at = first_then begins_effect _ (effect_first e)
    (near_then _ (effect_read e w room) (near_pure _ _))

-- Tests at what stands behind a statement.
pub after_else : {test : Symbol → Bool} {x : stat.Statement} {ts : List Lexeme} → test s.Semicolon ≡ false
    → test (s.Word w.End) ≡ false → test (s.Word w.Until) ≡ false
    → test (s.Word w.Else) ≡ false → After x ts → ft.Begins test false ts
after_else a b c d (af.semicolon i) = ft.by_is _ _ _ _ _ i a
after_else a b c d (af.end i) = ft.by_is _ _ _ _ _ i b
after_else a b c d (af.until i) = ft.by_is _ _ _ _ _ i c
after_else a b c d (af.other e i) = ft.by_is _ _ _ _ _ i d

pub not_colon : {x : stat.Statement} {ts : List Lexeme} → After x ts → ft.Begins (is s.Colon) false ts
unfolding same_symbol symbol_number
not_colon a = after_else refl refl refl refl a

pub not_open : {x : stat.Statement} {ts : List Lexeme} → After x ts → ft.Begins (is s.Open) false ts
unfolding same_symbol symbol_number
not_open a = after_else refl refl refl refl a

pub not_dot : {x : stat.Statement} {ts : List Lexeme} → After x ts → ft.Begins (is s.Dot) false ts
unfolding same_symbol symbol_number
not_dot a = after_else refl refl refl refl a

pub not_assign : {x : stat.Statement} {ts : List Lexeme} → After x ts → ft.Begins (is s.Assign) false ts
unfolding same_symbol symbol_number
not_assign a = after_else refl refl refl refl a

pub at_head : {test : Symbol → Bool} {b : Bool} {t : Lexeme} {ts : List Lexeme} → ft.Begins test b (t ∷ ts)
    → test t.symbol ≡ b
at_head (ft.with_first e) = e

pub assign_no : {k j : Symbol} (test : Symbol → Bool) → j ≡ k → test k ≡ false → test j ≡ false
assign_no test i e = ap test i ∙ e

pub open_colon : is s.Colon s.Open ≡ false
unfolding same_symbol symbol_number
open_colon = refl

pub assign_colon : is s.Colon s.Assign ≡ false
unfolding same_symbol symbol_number
assign_colon = refl

pub assign_dot : is s.Dot s.Assign ≡ false
unfolding same_symbol symbol_number
assign_dot = refl

pub dot_colon : is s.Colon s.Dot ≡ false
unfolding same_symbol symbol_number
dot_colon = refl

-- behind a name that is a whole statement
pub name_read : {t : Lexeme} {ts : List Lexeme} (room below : ℕ) (inner : Parser stat.Statement) → Is s.Name t
    → After (stat.Statement.call t.letters (trees []) t.at) ts
    → Near (statement_step room below inner) (t ∷ ts) ts (Got (stat.Statement.call t.letters (trees []) t.at) ts)
unfolding statement_step statement_by named_statement behind_reference
name_read {t = t} {ts = ts} room below inner i a = near_symbol _ i (near_then _ near_take (go ts a (not_colon a)))
  where
    go : (us : List Lexeme) → After (stat.Statement.call t.letters (trees []) t.at) us → ft.Begins (is s.Colon) false us
        → Near (named_statement room below inner t) us us (Got (stat.Statement.call t.letters (trees []) t.at) us)
    go _ a (ft.with_first c) = near_head _
        (near_else _ c (near_else _ (at_head (not_open a))
        (near_head _ (near_else _ (at_head (not_dot a)) (near_else _ (at_head (not_assign a)) (near_pure _ _))))))

-- behind a reference that an assignment begins with
pub reference_front : {r : Tree} {u : Lexeme} {ts us rest : List Lexeme} {y : Outcome stat.Statement} (room below : ℕ)
    (inner : Parser stat.Statement)
    → st.Reference r ts (u ∷ us) → is s.Colon u.symbol ≡ false → is s.Open u.symbol ≡ false
    → ((otherwise : stat.Statement) → Near (behind_reference room r (g.place ts) otherwise) (u ∷ us) rest y)
    → Near (statement_step room below inner) ts rest y
unfolding statement_step statement_by named_statement with_arguments
reference_front room below inner (st.Reference.name i) c o n = near_symbol _ i
    (near_then _ near_take (near_head _ (near_else _ c (near_else _ o (n _)))))
reference_front room below inner (st.Reference.element i p e z) c o n = near_symbol _ i
    (near_then _ near_take (near_symbol _ p (near_else _ open_colon (near_if _ (same_self s.Open)
    (near_then _ (near_arguments room 0 refuse p (one_case (boxed_of e z) z (tk.shorter_expression e)) z) (n _))))))

-- ":=" and what stands behind it
pub assigned_read : {k : Lexeme} {mid rest : List Lexeme} {y : Outcome stat.Statement} (room : ℕ) (to : stat.Target)
    (at : At) → Is s.Assign k → Near (value room to at) mid rest y
    → Near (assigned room to at) (k ∷ mid) rest y
unfolding assigned
assigned_read room to at i n = near_then _ (near_expect i) n

-- a target, ":=" and what stands behind it
pub target_read : {x : stat.Target} {k : Lexeme} {ts mid rest : List Lexeme} {y : Outcome stat.Statement} (room below : ℕ)
    (inner : Parser stat.Statement)
    → st.Target x ts (k ∷ mid) → Is s.Assign k → Near (value room x (g.place ts)) mid rest y
    → Near (statement_step room below inner) ts rest y
unfolding behind_reference field_assigned statement_step statement_by address_assigned
target_read room below inner (st.Target.plain r) i n = reference_front room below inner r
    (assign_no (is s.Colon) i assign_colon) (assign_no (is s.Open) i assign_open) (λ otherwise.
    near_symbol _ i (near_else _ assign_dot (near_if _ (same_self s.Assign) (assigned_read room _ _ i n))))
target_read room below inner (st.Target.field r d o a k b z) i n = reference_front room below inner r
    (assign_no (is s.Colon) d dot_colon) (assign_no (is s.Open) d dot_open) (λ otherwise.
    near_symbol _ d (near_if _ (same_self s.Dot)
    (near_then _ (near_expect d) (near_then _ (near_expect o)
    (near_then _ (complete_constant a) (near_then _ (near_expect k)
    (near_then _ (complete_constant b) (near_then _ (near_expect z) (assigned_read room _ _ i n)))))))))
target_read room below inner (st.Target.address a t) i n = near_symbol _ a
    (near_then _ near_take (near_then _ (near_expect t) (assigned_read room _ _ i n)))

-- a name with arguments
pub call_read : {es : List Tree} {t o z : Lexeme} {ts rest : List Lexeme} (room below : ℕ) (inner : Parser stat.Statement)
    → Is s.Name t → Is s.Open o
    → ArgumentsRead es ts (z ∷ rest) → Is s.Close z → After (stat.Statement.call t.letters (trees es) t.at) rest
    → Near (statement_step room below inner) (t ∷ o ∷ ts) rest
    (Got (stat.Statement.call t.letters (trees es) t.at) rest)
unfolding statement_step statement_by named_statement with_arguments behind_reference
call_read {es = es} {t = t} {rest = rest} room below inner i o a z w = near_symbol _ i
    (near_then _ near_take (near_symbol _ o (near_else _ open_colon (near_if _ (same_self s.Open)
    (near_then _ (near_arguments room 0 refuse o a z) (go (is_single es) rest w (not_dot w)))))))
  where
    go : (b : Bool) (us : List Lexeme) → After (stat.Statement.call t.letters (trees es) t.at) us
        → ft.Begins (is s.Dot) false us
        → Near (if b then behind_reference room (tree.Tree.named t.letters (trees es) t.at) t.at
        (stat.Statement.call t.letters (trees es) t.at)
        else pure (stat.Statement.call t.letters (trees es) t.at)) us us
        (Got (stat.Statement.call t.letters (trees es) t.at) us)
    go true _ w (ft.with_first d) = near_head _ (near_else _ d (near_else _ (at_head (not_assign w)) (near_pure _ _)))
    go false us w d = near_pure _ us
