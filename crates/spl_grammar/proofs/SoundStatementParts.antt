-- The parts of statements that were read are spelled; a fault comes behind tokens that open them.
use Rattle.std.proofs.Common.{ℕ, ◌+◌, ◌≡◌, ◌≤◌, Bool, true, false, List, [], ◌∷◌, refl, arith, ap, ◌∙◌}
use Rattle.spl_reading.specs.spl_tree.declared.names_and_places.At.{At}
use Rattle.spl_reading.specs.spl_tree.declared.symbols.Symbol.TheVariants as s
use Rattle.spl_reading.specs.spl_tree.declared.symbols.Reserved.TheVariants as w
use Rattle.spl_reading.specs.spl_tree.Symbols.{Lexeme, Is}
use Rattle.spl_reading.specs.spl_tree.Expressions as g
use Rattle.spl_reading.specs.spl_tree.Parts as part
use Rattle.spl_reading.specs.spl_tree.OpenStatements as os
use Rattle.spl_reading.specs.spl_tree.OpenExpressions as op
use Rattle.spl_reading.specs.spl_tree.OpenExpressions.{Step, Opens, here, inner, OpensAt, nesting}
use Rattle.spl_reading.specs.spl_tree.Parts.{Part}
use Rattle.spl_reading.specs.spl_tree.Trees as tree
use Rattle.spl_reading.specs.spl_tree.Trees.{Tree, Trees, trees}
use Rattle.spl_reading.specs.spl_tree.StatementTrees as stat
use Rattle.spl_reading.specs.spl_tree.StatementTrees.{closed, statements}
use Rattle.spl_reading.specs.spl_tree.Statements as st
use Rattle.spl_reading.specs.spl_tree.Statements.{class_of, is_relation}
use Rattle.spl_reading.specs.Readers.{and_then, followed, ◌>>=◌, pure, refuse, take}
use Rattle.spl_reading.specs.ReadExpressions.{is, constant, enclosed, within, expression, condition}
use Rattle.spl_reading.specs.ReadStatements.{indexed, reference, source_behind, source, while_or_until, move, scan, effect, begins_effect, value, assigned, field_assigned, behind_reference}
use Rattle.spl_grammar.specs.Answers.{Explains}
use Rattle.spl_grammar.proofs.ExplainReaders.{at_here, explain_then, explain_expect, explain_next, explain_pure, explain_bad, explain_symbol, explain_if, explain_along, explain_named, reached, along, followed_assoc, recast, explain_as}
use Rattle.spl_grammar.proofs.ExplainReaders as er
use Rattle.spl_grammar.proofs.SoundOperands.{constant_explained, enclosed_explained, Enclosed, enclosed_by, is_it, few, constant_at}
use Rattle.spl_grammar.proofs.SoundExpressions.{expression_explained, condition_explained, within_explained}

-- one step in a statement, and the chain that ends there
abbrev pub chain : {p q : Part} {d j : ℕ} {ts mid : List Lexeme} → os.StatementStep p d ts q j mid → OpensAt p d 0 ts mid
chain step = er.stepped (op.of_statement step) (at_here _ _ _ _)

-- the same behind an equal list
pub ref_at : {r : Tree} {ts us vs : List Lexeme} → us ≡ vs → st.Reference r ts us → st.Reference r ts vs
ref_at q p = rw (← q) p

pub expr_at : {e : Tree} {ts us vs : List Lexeme} → us ≡ vs → st.Expression e ts us → st.Expression e ts vs
expr_at q p = rw (← q) p

pub cond_at : {e : Tree} {ts us vs : List Lexeme} → us ≡ vs → st.Condition e ts us → st.Condition e ts vs
cond_at q p = rw (← q) p

pub stat_at : {x : stat.Statement} {ts us vs : List Lexeme} → us ≡ vs → st.Statement x ts us → st.Statement x ts vs
stat_at q p = rw (← q) p

pub list_at : {xs : List stat.Statement} {ts us vs : List Lexeme} → us ≡ vs → st.Statements xs ts us
    → st.Statements xs ts vs
list_at q p = rw (← q) p

pub target_at : {x : stat.Target} {ts us vs : List Lexeme} → us ≡ vs → st.Target x ts us → st.Target x ts vs
target_at q p = rw (← q) p

pub test_at : {x : stat.Test} {ts us vs : List Lexeme} → us ≡ vs → st.Test x ts us → st.Test x ts vs
test_at q p = rw (← q) p

pub step_at : {es : List Tree} {ts us vs : List Lexeme} → us ≡ vs → st.Stepped es ts us → st.Stepped es ts vs
step_at q p = rw (← q) p

-- an expression and a condition
pub expr_explained : {most : ℕ} (d room : ℕ) (ts : List Lexeme) → d + room ≡ most + 0
    → Explains most (λ e rest. st.Expression e ts rest) os.expr d 0 ts (expression room 0 ts)
expr_explained d room ts sum = explain_as (expression room 0 ts) (expression_explained room 0 d ts sum (omega arith))
    (λ e rest v. st.Expression.expression v.spelled)

pub cond_explained : {most : ℕ} (d room : ℕ) (ts : List Lexeme) → d + room ≡ most + 0
    → Explains most (λ e rest. st.Condition e ts rest) os.cond d 0 ts (condition room 0 ts)
cond_explained d room ts sum = explain_as (condition room 0 ts) (condition_explained room 0 d ts sum (omega arith))
    (λ e rest v. st.Condition.condition v.spelled)

-- A statement that was read. Where ELSE stands behind it, no ELSE can belong to it.
pub record StatementGot (x : stat.Statement) (ts rest : List Lexeme) : Type 0 where
  pub spelled : st.Statement x ts rest
  pub ends : (t : Lexeme) (us : List Lexeme) → rest ≡ t ∷ us → Is (s.Word w.Else) t → closed x ≡ true

pub got_at : {x : stat.Statement} {ts us vs : List Lexeme} → us ≡ vs → StatementGot x ts us → StatementGot x ts vs
got_at q p = rw (← q) p

pub got_closed : {x : stat.Statement} {ts rest : List Lexeme} → closed x ≡ true → st.Statement x ts rest
    → StatementGot x ts rest
got_closed e v = record { spelled = v; ends = λ t us q i. e }

pub got_assign : {to : stat.Target} {e : Tree} {at : At} {ts rest : List Lexeme}
    → st.Statement (stat.Statement.assign to e at) ts rest → StatementGot (stat.Statement.assign to e at) ts rest
unfolding closed
got_assign v = got_closed refl v

pub got_assign_effect : {to : stat.Target} {e : stat.Effect} {at : At} {ts rest : List Lexeme}
    → st.Statement (stat.Statement.assign_effect to e at) ts rest
    → StatementGot (stat.Statement.assign_effect to e at) ts rest
unfolding closed
got_assign_effect v = got_closed refl v

pub got_call : {l : List ℕ} {es : Trees} {at : At} {ts rest : List Lexeme}
    → st.Statement (stat.Statement.call l es at) ts rest → StatementGot (stat.Statement.call l es at) ts rest
unfolding closed
got_call v = got_closed refl v

-- WHILE or UNTIL, by the flag
pub data ScanWord : List Lexeme → Bool → List Lexeme → Type 0 where
  until_word : {t : Lexeme} {ts : List Lexeme} → Is (s.Word w.Until) t → ScanWord (t ∷ ts) true ts
  while_word : {t : Lexeme} {ts : List Lexeme} → Is (s.Word w.While) t → ScanWord (t ∷ ts) false ts

module _ (most d room : ℕ) (sum : d + room ≡ most + 0) where
  pub fine : nesting d 0 ≤ most
  fine = few d room 0 sum (omega arith)

  -- a reference, behind its name
  pub indexed_explained : (t : Lexeme) (us : List Lexeme) → Is s.Name t
      → Explains most (λ r rest. st.Reference r (t ∷ us) rest) part.reference d 0 (t ∷ us) (indexed room t us)
  unfolding indexed
  indexed_explained t us i = explain_symbol _ us (chain (os.whole_reference (st.Reference.name i))) fine
      (λ u rest q. rw q (explain_if (is s.Open u.symbol) _ _ (u ∷ rest)
      (λ e. explain_next _ _ (u ∷ rest)
      (enclosed_explained d room 0 refuse (within room 0) (u ∷ rest) sum
      (λ more ok. within_explained room 0 d more sum ok)
      (chain (os.whole_reference (st.Reference.name i))) fine
      (λ o more r k. rw r (op.of_statement (os.index i k)))
      (λ o more r k e f v. rw r (op.of_statement (os.index_close i k (st.Expression.expression v.spelled)))))
      (λ f more v. explain_pure _ more (element f (u ∷ rest) more v)))
      (λ e. explain_pure _ (u ∷ rest) (st.Reference.name i))))
    where
      element : (e : Tree) (us more : List Lexeme) → Enclosed e us more
          → st.Reference (tree.Tree.named t.letters (trees (e ∷ [])) t.at) (t ∷ us) more
      element e _ more (enclosed_by o v z) = st.Reference.element i o (st.Expression.expression v.spelled) z

  pub reference_explained : (ts : List Lexeme)
      → Explains most (λ r rest. st.Reference r ts rest) part.reference d 0 ts (reference room ts)
  unfolding reference
  reference_explained ts = explain_expect s.Name _ ts (at_here _ _ _ _) fine
      (λ t rest q i. rw q (indexed_explained t rest i))

  pub source_behind_explained : (r : Tree) (ts us : List Lexeme) → st.Reference r ts us
      → Explains most (λ x rest. st.Source x ts rest) part.source d 0 ts (source_behind room r us)
  unfolding source_behind followed take and_then
  source_behind_explained r ts us v = explain_symbol _ us (chain (os.source_mark v)) fine
      (λ k rest q. explain_if (is s.Comma k.symbol) _ _ (k ∷ rest)
      (λ e. let i = is_it s.Comma k e in let v1 = ref_at q v in
      explain_next (enclosed room refuse (within room 0) 0) _ rest
      (enclosed_explained d room 0 refuse (within room 0) rest sum
      (λ more ok. within_explained room 0 d more sum ok)
      (chain (os.source_open v1 i)) fine
      (λ o more r j. op.of_statement (os.source_count (ref_at (ap (λ vs. k ∷ vs) r) v1) i j))
      (λ o more r j e f x. op.of_statement
      (os.source_close (ref_at (ap (λ vs. k ∷ vs) r) v1) i j (st.Expression.expression x.spelled))))
      (λ f more x. explain_pure _ more (count v1 i x)))
      (λ e. explain_expect (s.Word w.While) _ (k ∷ rest) (chain (os.source_mark (ref_at q v))) fine
      (λ l more r j. let v2 = ref_at (q ∙ r) v in
      explain_named class_of _ more (chain (os.source_class v2 j)) fine
      (λ n t final y a b. explain_pure _ final (st.Source.while_class (ref_at (ap (λ vs. l ∷ vs) y) v2) j a b)))))
    where
      count : {k : Lexeme} {e : Tree} {rest more : List Lexeme} → st.Reference r ts (k ∷ rest) → Is s.Comma k
          → Enclosed e rest more → st.Source (stat.Source.counted r e) ts more
      count v i (enclosed_by o x z) = st.Source.counted v i o (st.Expression.expression x.spelled) z

  -- what a MOVE moves
  pub source_explained : (ts : List Lexeme)
      → Explains most (λ x rest. st.Source x ts rest) part.source d 0 ts (source room ts)
  unfolding source followed take and_then
  source_explained ts = explain_symbol _ ts (at_here _ _ _ _) fine
      (λ k rest q. rw q (explain_if (is s.Text k.symbol) _ _ (k ∷ rest)
      (λ e. explain_pure _ rest (st.Source.text (is_it s.Text k e)))
      (λ e. explain_then (reference room) _ (op.of_statement os.source_reference) (reference_explained (k ∷ rest))
      (λ r more v. source_behind_explained r (k ∷ rest) more v))))

  -- a MOVE
  pub move_explained : (ts : List Lexeme) → Explains most (λ x rest. st.Effect x ts rest) part.effect d 0 ts (move room ts)
  unfolding move
  move_explained ts = explain_expect (s.Word w.Move) _ ts (at_here _ _ _ _) fine (λ m rest q i. rw q (
      explain_then (reference room) _ (op.of_statement (os.move_reference i)) (reference_explained rest) (λ r after v.
      explain_expect s.Assign _ after (chain (os.move_assign i v)) fine (λ k more q2 j.
      explain_then (source room) _ (op.of_statement (os.move_source i (ref_at q2 v) j)) (source_explained more)
      (λ x final y.
      explain_pure _ final (st.Effect.move i (ref_at q2 v) j y))))))

  -- WHILE or UNTIL, and the test word of a SCAN
  pub scanned_explained : (m : Lexeme) (rest : List Lexeme) → Is (s.Word w.Scan) m → (r : Tree) (after : List Lexeme)
      → st.Reference r rest after
      → Explains most (λ x final. st.Effect x (m ∷ rest) final) part.effect d 0 (m ∷ rest)
      ((while_or_until >>= (λ until. expression room 0 >>= (λ e. pure (stat.Effect.scan r until e)))) after)
  unfolding while_or_until
  scanned_explained m rest i r after v = explain_next _ _ after
      (explain_symbol {W = ScanWord after} _ after (chain (os.scan_mark i v)) fine
      (λ k more q. rw q (explain_if (is (s.Word w.Until) k.symbol) _ _ (k ∷ more)
      (λ e. er.taken_explained _ (explain_pure true more (until_word (is_it (s.Word w.Until) k e))))
      (λ e. explain_expect (s.Word w.While) _ (k ∷ more) (chain (os.scan_mark i (ref_at q v))) fine
      (λ l final q2 j. explain_pure false final (rw q2 (while_word j)))))))
      (λ until more word. go until after more v word)
    where
      go : (until : Bool) (after more : List Lexeme) → st.Reference r rest after → ScanWord after until more
          → Explains most (λ x final. st.Effect x (m ∷ rest) final) part.effect d 0 (m ∷ rest)
          ((expression room 0 >>= (λ e. pure (stat.Effect.scan r until e))) more)
      go _ _ more v (until_word j) = explain_then (expression room 0) _ (op.of_statement (os.scan_until i v j))
          (expr_explained d room more sum) (λ e final x. explain_pure _ final (st.Effect.scan_until i v j x))
      go _ _ more v (while_word j) = explain_then (expression room 0) _ (op.of_statement (os.scan_while i v j))
          (expr_explained d room more sum) (λ e final x. explain_pure _ final (st.Effect.scan_while i v j x))

  -- a SCAN
  pub scan_explained : (ts : List Lexeme) → Explains most (λ x rest. st.Effect x ts rest) part.effect d 0 ts (scan room ts)
  unfolding scan
  scan_explained ts = explain_expect (s.Word w.Scan) _ ts (at_here _ _ _ _) fine (λ m rest q i. rw q (
      explain_then (reference room) _ (op.of_statement (os.scan_reference i)) (reference_explained rest) (λ r after v.
      scanned_explained m rest i r after v)))

  pub effect_explained : (ts : List Lexeme)
      → Explains most (λ x rest. st.Effect x ts rest) part.effect d 0 ts (effect room ts)
  unfolding effect
  effect_explained ts = explain_symbol _ ts (at_here _ _ _ _) fine
      (λ k rest q. rw q (explain_if (is (s.Word w.Scan) k.symbol) _ _ (k ∷ rest)
      (λ e. scan_explained (k ∷ rest)) (λ e. move_explained (k ∷ rest))))

  -- behind ":="
  pub value_explained : (x : stat.Target) (ts us : List Lexeme) (k : Lexeme) → st.Target x ts (k ∷ us) → Is s.Assign k
      → Explains most (λ y rest. StatementGot y ts rest) part.statement d 0 ts (value room x (g.place ts) us)
  unfolding value
  value_explained x ts us k v i = explain_symbol _ us (chain (os.value v i)) fine
      (λ u rest q. explain_if (begins_effect u.symbol) _ _ (u ∷ rest)
      (λ e. explain_then (effect room) _ (op.of_statement (os.value_effect (target_at (ap (λ vs. k ∷ vs) q) v) i))
      (effect_explained (u ∷ rest)) (λ y more z.
      explain_pure _ more (got_assign_effect (st.Statement.assign_effect (target_at (ap (λ vs. k ∷ vs) q) v) i z))))
      (λ e. explain_then (expression room 0) _ (op.of_statement (os.value (target_at (ap (λ vs. k ∷ vs) q) v) i))
      (expr_explained d room (u ∷ rest) sum) (λ y more z.
      explain_pure _ more (got_assign (st.Statement.assign (target_at (ap (λ vs. k ∷ vs) q) v) i z)))))

  pub assigned_explained : (x : stat.Target) (ts us : List Lexeme) → st.Target x ts us
      → Explains most (λ y rest. StatementGot y ts rest) part.statement d 0 ts (assigned room x (g.place ts) us)
  unfolding assigned
  assigned_explained x ts us v = explain_expect s.Assign _ us (chain (os.target_assign v)) fine
      (λ k rest q i. value_explained x ts rest k (target_at q v) i)

  -- a bit field as a target, from its dot on
  pub field_explained : (r : Tree) (ts us : List Lexeme) (b : Lexeme) → st.Reference r ts (b ∷ us) → Is s.Dot b
      → Explains most (λ y rest. StatementGot y ts rest) part.statement d 0 ts
      (field_assigned room r (g.place ts) (b ∷ us))
  unfolding field_assigned
  field_explained r ts us b p i = explain_expect s.Dot _ (b ∷ us)
      (er.stepped (op.of_statement os.target_reference) (chain (os.whole_reference p))) fine (λ l after_dot q j.
      let p1 = ref_at q p in
      explain_expect s.Open _ after_dot (chain (os.target_dot p1 j)) fine (λ o after_open q2 j2.
      let p2 = ref_at (ap (λ vs. l ∷ vs) q2) p1 in
      explain_then constant _ (op.of_statement (os.target_start p2 j j2)) (constant_explained d 0 after_open fine)
      (λ v after_start c1.
      explain_expect s.Colon _ after_start (chain (os.target_colon p2 j j2 c1)) fine (λ k after_colon q3 j3.
      let c2 = constant_at q3 c1 in
      explain_then constant _ (op.of_statement (os.target_length p2 j j2 c2 j3))
      (constant_explained d 0 after_colon fine) (λ w after_length c3.
      explain_expect s.Close _ after_length (chain (os.target_close p2 j j2 c2 j3 c3)) fine (λ z rest q4 j4.
      assigned_explained (stat.Target.field r v w) ts rest (st.Target.field p2 j j2 c2 j3 (constant_at q4 c3) j4)))))))

  -- behind a reference at the front of a statement
  pub behind_explained : (r : Tree) (x : stat.Statement) (ts us : List Lexeme) → st.Reference r ts us → StatementGot x ts us
      → Explains most (λ y rest. StatementGot y ts rest) part.statement d 0 ts
      (behind_reference room r (g.place ts) x us)
  unfolding behind_reference
  behind_explained r x ts us v c = explain_symbol _ us (chain (os.whole_statement c.spelled)) fine (λ k rest q.
      explain_if (is s.Dot k.symbol) _ _ (k ∷ rest) (λ e. field_explained r ts rest k (ref_at q v) (is_it s.Dot k e))
      (λ _.
      explain_if (is s.Assign k.symbol) _ _ (k ∷ rest)
      (λ e. assigned_explained (stat.Target.plain r) ts (k ∷ rest) (st.Target.plain (ref_at q v))) (λ _.
      explain_pure x (k ∷ rest) (got_at q c))))
