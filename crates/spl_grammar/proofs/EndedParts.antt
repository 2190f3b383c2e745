-- No part of an expression or a statement has the end of the text in it: where what follows ends, so does the list from
-- the part on.
use Rattle.std.proofs.Common.{ℕ, ◌≡◌, Bool, false, List, ◌∷◌, Option, refl, ap, ◌∙◌}
use Rattle.spl_reading.specs.spl_tree.declared.names_and_places.At.{At}
use Rattle.spl_reading.specs.spl_tree.declared.symbols.Symbol.{Symbol}
use Rattle.spl_reading.specs.spl_tree.Symbols.{Lexeme, Is}
use Rattle.spl_reading.specs.spl_tree.Operators.{Form}
use Rattle.spl_reading.specs.spl_tree.Expressions as g
use Rattle.spl_reading.specs.spl_tree.Trees as tree
use Rattle.spl_reading.specs.spl_tree.Trees.{Tree}
use Rattle.spl_reading.specs.spl_tree.StatementTrees as stat
use Rattle.spl_reading.specs.spl_tree.Statements as st
use Rattle.spl_grammar.specs.Ends.{is_stop, Ended, before}

-- a token that is not the end
pub token : {k : Symbol} {t : Lexeme} {ts : List Lexeme} → Is k t → is_stop k ≡ false → Ended ts → Ended (t ∷ ts)
token i f e = before (ap is_stop i ∙ f) e

-- Expressions.

pub ended_constant : {v : tree.Constant} {ts rest : List Lexeme} → g.Constant v ts rest → Ended rest → Ended ts
ended_constant (g.Constant.number i) e = token i refl e
ended_constant (g.Constant.wide i) e = token i refl e
ended_constant (g.Constant.signed_number i _ j) e = token i refl (token j refl e)
ended_constant (g.Constant.signed_wide i _ j) e = token i refl (token j refl e)
ended_constant (g.Constant.text i) e = token i refl e
ended_constant (g.Constant.truth i) e = token i refl e
ended_constant (g.Constant.name i) e = token i refl e

mutual
  pub ended_level : {c : Bool} {f : Option At} {h n : ℕ} {x : Form} {e : tree.Tree} {ts rest : List Lexeme}
      → g.Level c f h n x e ts rest → Ended rest → Ended ts
  ended_level (g.Level.operand u) e = ended_unary u e
  ended_level (g.Level.up _ l) e = ended_level l e
  ended_level (g.Level.unsigned _ l) e = ended_level l e
  ended_level (g.Level.signed _ i _ _ l) e = token i refl (ended_level l e)
  ended_level (g.Level.negative _ i l) e = token i refl (ended_level l e)
  ended_level (g.Level.joined _ l i _ r) e = ended_level l (token i refl (ended_level r e))
  ended_level (g.Level.related _ l i _ r _) e = ended_level l (token i refl (ended_level r e))
  ended_level (g.Level.shifted _ l i j _ o v z) e = ended_level l
      (token i refl (token j refl (token o refl (ended_constant v (token z refl e)))))
  ended_level (g.Level.bytes _ l i o r z) e = ended_level l
      (token i refl (token o refl (ended_level r (token z refl e))))

  ended_unary : {f : Option At} {x : Form} {e : tree.Tree} {ts rest : List Lexeme} → g.Unary f x e ts rest
      → Ended rest → Ended ts
  ended_unary (g.Unary.inverse i u) e = token i refl (ended_unary u e)
  ended_unary (g.Unary.plain p) e = ended_primary p e
  ended_unary (g.Unary.bits p i o a k b z) e = ended_primary p
      (token i refl (token o refl (ended_constant a (token k refl (ended_constant b (token z refl e))))))

  ended_primary : {f : Option At} {x : Form} {e : tree.Tree} {ts rest : List Lexeme} → g.Primary f x e ts rest
      → Ended rest → Ended ts
  ended_primary (g.Primary.number i) e = token i refl e
  ended_primary (g.Primary.wide i) e = token i refl e
  ended_primary (g.Primary.negative_number i) e = token i refl e
  ended_primary (g.Primary.negative_wide i) e = token i refl e
  ended_primary (g.Primary.text i) e = token i refl e
  ended_primary (g.Primary.truth i) e = token i refl e
  ended_primary (g.Primary.name i) e = token i refl e
  ended_primary (g.Primary.call i o a z) e = token i refl (token o refl (ended_arguments a (token z refl e)))
  ended_primary (g.Primary.address i j) e = token i refl (token j refl e)
  ended_primary (g.Primary.address_of i j o l z) e = token i refl
      (token j refl (token o refl (ended_level l (token z refl e))))
  ended_primary (g.Primary.parens o l z) e = token o refl (ended_level l (token z refl e))
  ended_primary (g.Primary.transfer i o l z) e = token i refl (token o refl (ended_level l (token z refl e)))

  ended_arguments : {es : List tree.Tree} {ts rest : List Lexeme} → g.Arguments es ts rest → Ended rest → Ended ts
  ended_arguments (g.Arguments.one l) e = ended_level l e
  ended_arguments (g.Arguments.several l k r) e = ended_level l (token k refl (ended_arguments r e))

-- Statements.

ended_expression : {a : Tree} {ts rest : List Lexeme} → st.Expression a ts rest → Ended rest → Ended ts
ended_expression (st.Expression.expression l) e = ended_level l e

ended_condition : {a : Tree} {ts rest : List Lexeme} → st.Condition a ts rest → Ended rest → Ended ts
ended_condition (st.Condition.condition l) e = ended_level l e

ended_reference : {a : Tree} {ts rest : List Lexeme} → st.Reference a ts rest → Ended rest → Ended ts
ended_reference (st.Reference.name i) e = token i refl e
ended_reference (st.Reference.element i o x z) e = token i refl (token o refl (ended_expression x (token z refl e)))

ended_target : {x : stat.Target} {ts rest : List Lexeme} → st.Target x ts rest → Ended rest → Ended ts
ended_target (st.Target.plain r) e = ended_reference r e
ended_target (st.Target.field r i o v k w z) e = ended_reference r
    (token i refl (token o refl (ended_constant v (token k refl (ended_constant w (token z refl e))))))
ended_target (st.Target.address i j) e = token i refl (token j refl e)

ended_source : {x : stat.Source} {ts rest : List Lexeme} → st.Source x ts rest → Ended rest → Ended ts
ended_source (st.Source.counted r k o x z) e = ended_reference r
    (token k refl (token o refl (ended_expression x (token z refl e))))
ended_source (st.Source.text i) e = token i refl e
ended_source (st.Source.while_class r i j _) e = ended_reference r (token i refl (token j refl e))

ended_effect : {x : stat.Effect} {ts rest : List Lexeme} → st.Effect x ts rest → Ended rest → Ended ts
ended_effect (st.Effect.move i r k x) e = token i refl (ended_reference r (token k refl (ended_source x e)))
ended_effect (st.Effect.scan_while i r k x) e = token i refl (ended_reference r (token k refl (ended_expression x e)))
ended_effect (st.Effect.scan_until i r k x) e = token i refl (ended_reference r (token k refl (ended_expression x e)))

ended_test : {x : stat.Test} {ts rest : List Lexeme} → st.Test x ts rest → Ended rest → Ended ts
ended_test (st.Test.condition c) e = ended_condition c e
ended_test (st.Test.code i _) e = token i refl e

ended_step : {es : List Tree} {ts rest : List Lexeme} → st.Stepped es ts rest → Ended rest → Ended ts
ended_step st.Stepped.absent e = e
ended_step (st.Stepped.step i x) e = token i refl (ended_expression x e)

mutual
  pub ended_statement : {x : stat.Statement} {ts rest : List Lexeme} → st.Statement x ts rest → Ended rest → Ended ts
  ended_statement st.Statement.empty e = e
  ended_statement (st.Statement.labelled i j x) e = token i refl (token j refl (ended_statement x e))
  ended_statement (st.Statement.block i x z) e = token i refl (ended_statements x (token z refl e))
  ended_statement (st.Statement.if_then i q t x) e = token i refl (ended_test q (token t refl (ended_statement x e)))
  ended_statement (st.Statement.if_else i q t x _ l y) e = token i refl
      (ended_test q (token t refl (ended_statement x (token l refl (ended_statement y e)))))
  ended_statement (st.Statement.while_do i c k x) e = token i refl
      (ended_condition c (token k refl (ended_statement x e)))
  ended_statement (st.Statement.do_until i x k c) e = token i refl
      (ended_statement x (token k refl (ended_condition c e)))
  ended_statement (st.Statement.for_do i t k a p u b d x) e = token i refl (token t refl (token k refl
      (ended_expression a (ended_step p (token u refl (ended_expression b (token d refl (ended_statement x e))))))))
  ended_statement (st.Statement.case_of i a o b x z) e = token i refl
      (ended_expression a (token o refl (token b refl (ended_statements x (token z refl e)))))
  ended_statement (st.Statement.go i j) e = token i refl (token j refl e)
  ended_statement (st.Statement.go_to i k j) e = token i refl (token k refl (token j refl e))
  ended_statement (st.Statement.goto i j) e = token i refl (token j refl e)
  ended_statement (st.Statement.return i) e = token i refl e
  ended_statement (st.Statement.assign x k a) e = ended_target x (token k refl (ended_expression a e))
  ended_statement (st.Statement.assign_effect x k a) e = ended_target x (token k refl (ended_effect a e))
  ended_statement (st.Statement.effect a) e = ended_effect a e
  ended_statement (st.Statement.call i) e = token i refl e
  ended_statement (st.Statement.call_with i o a z) e = token i refl
      (token o refl (ended_arguments a (token z refl e)))

  pub ended_statements : {xs : List stat.Statement} {ts rest : List Lexeme} → st.Statements xs ts rest → Ended rest
      → Ended ts
  ended_statements (st.Statements.one x) e = ended_statement x e
  ended_statements (st.Statements.more x k y) e = ended_statement x (token k refl (ended_statements y e))
