-- The tokens of statements and of their parts; no more is open in them than there are tokens before.
use Rattle.std.proofs.Common.{ℕ, ◌+◌, ◌<◌, ◌≤◌, List, length, arith}
use Rattle.spl_reading.specs.spl_tree.Symbols.{Lexeme}
use Rattle.spl_reading.specs.spl_tree.Trees.{Tree}
use Rattle.spl_reading.specs.spl_tree.StatementTrees as stat
use Rattle.spl_reading.specs.spl_tree.Statements as st
use Rattle.spl_reading.specs.spl_tree.Parts.{Part}
use Rattle.spl_reading.specs.spl_tree.OpenStatements as op
use Rattle.spl_reading.specs.spl_tree.OpenStatements.{StatementStep}
use Rattle.spl_grammar.proofs.PartTokens as pt

pub shorter_expression : {e : Tree} {ts rest : List Lexeme} → st.Expression e ts rest → length rest < length ts
shorter_expression (st.Expression.expression l) = pt.shorter l

pub shorter_condition : {e : Tree} {ts rest : List Lexeme} → st.Condition e ts rest → length rest < length ts
shorter_condition (st.Condition.condition l) = pt.shorter l

pub shorter_reference : {e : Tree} {ts rest : List Lexeme} → st.Reference e ts rest → length rest < length ts
shorter_reference (st.Reference.name _) = omega arith
shorter_reference (st.Reference.element _ _ e _) = let a = shorter_expression e in omega arith

pub shorter_target : {x : stat.Target} {ts rest : List Lexeme} → st.Target x ts rest → length rest < length ts
shorter_target (st.Target.plain r) = shorter_reference r
shorter_target (st.Target.field r _ _ v _ w _) = let a = shorter_reference r in let b = pt.shorter_constant v in let
    c = pt.shorter_constant w in omega arith
shorter_target (st.Target.address _ _) = omega arith

pub shorter_source : {x : stat.Source} {ts rest : List Lexeme} → st.Source x ts rest → length rest < length ts
shorter_source (st.Source.counted r _ _ e _) = let a = shorter_reference r in let b = shorter_expression e in omega
    arith
shorter_source (st.Source.text _) = omega arith
shorter_source (st.Source.while_class r _ _ _) = let a = shorter_reference r in omega arith

pub shorter_effect : {x : stat.Effect} {ts rest : List Lexeme} → st.Effect x ts rest → length rest < length ts
shorter_effect (st.Effect.move _ r _ x) = let a = shorter_reference r in let b = shorter_source x in omega arith
shorter_effect (st.Effect.scan_while _ r _ e) = let a = shorter_reference r in let b = shorter_expression e in omega
    arith
shorter_effect (st.Effect.scan_until _ r _ e) = let a = shorter_reference r in let b = shorter_expression e in omega
    arith

pub shorter_test : {x : stat.Test} {ts rest : List Lexeme} → st.Test x ts rest → length rest < length ts
shorter_test (st.Test.condition e) = shorter_condition e
shorter_test (st.Test.code _ _) = omega arith

pub no_longer_step : {es : List Tree} {ts rest : List Lexeme} → st.Stepped es ts rest → length rest ≤ length ts
no_longer_step st.Stepped.absent = omega arith
no_longer_step (st.Stepped.step _ e) = let a = shorter_expression e in omega arith

mutual
  -- a statement may be empty
  pub no_longer : {x : stat.Statement} {ts rest : List Lexeme} → st.Statement x ts rest → length rest ≤ length ts
  no_longer st.Statement.empty = omega arith
  no_longer (st.Statement.labelled _ _ x) = let a = no_longer x in omega arith
  no_longer (st.Statement.block _ x _) = let a = no_longer_list x in omega arith
  no_longer (st.Statement.if_then _ q _ x) = let a = shorter_test q in let b = no_longer x in omega arith
  no_longer (st.Statement.if_else _ q _ x _ _ y) = let a = shorter_test q in let b = no_longer x in let c = no_longer y
      in omega arith
  no_longer (st.Statement.while_do _ e _ x) = let a = shorter_condition e in let b = no_longer x in omega arith
  no_longer (st.Statement.do_until _ x _ e) = let a = shorter_condition e in let b = no_longer x in omega arith
  no_longer (st.Statement.for_do _ _ _ a e _ b _ x) = let j = shorter_expression a in let k = no_longer_step e in let
      l = shorter_expression b in let m = no_longer x in omega arith
  no_longer (st.Statement.case_of _ e _ _ x _) = let a = shorter_expression e in let b = no_longer_list x in omega arith
  no_longer (st.Statement.go _ _) = omega arith
  no_longer (st.Statement.go_to _ _ _) = omega arith
  no_longer (st.Statement.goto _ _) = omega arith
  no_longer (st.Statement.return _) = omega arith
  no_longer (st.Statement.assign x _ e) = let a = shorter_target x in let b = shorter_expression e in omega arith
  no_longer (st.Statement.assign_effect x _ e) = let a = shorter_target x in let b = shorter_effect e in omega arith
  no_longer (st.Statement.effect e) = let a = shorter_effect e in omega arith
  no_longer (st.Statement.call _) = omega arith
  no_longer (st.Statement.call_with _ _ a _) = let b = pt.shorter_arguments a in omega arith

  pub no_longer_list : {xs : List stat.Statement} {ts rest : List Lexeme} → st.Statements xs ts rest
      → length rest ≤ length ts
  no_longer_list (st.Statements.one x) = no_longer x
  no_longer_list (st.Statements.more x _ y) = let a = no_longer x in let b = no_longer_list y in omega arith

pub statement_step_bound : {p q : Part} {d j : ℕ} {ts mid : List Lexeme} → StatementStep p d ts q j mid
    → j + length mid ≤ d + length ts
statement_step_bound (op.index _ _) = omega arith
statement_step_bound (op.index_close _ _ c) = let lc = shorter_expression c in omega arith
statement_step_bound (op.whole_reference a) = let la = shorter_reference a in omega arith
statement_step_bound op.source_reference = omega arith
statement_step_bound (op.source_mark a) = let la = shorter_reference a in omega arith
statement_step_bound (op.source_open a _) = let la = shorter_reference a in omega arith
statement_step_bound (op.source_count a _ _) = let la = shorter_reference a in omega arith
statement_step_bound (op.source_close a _ _ e) = let la = shorter_reference a in let le = shorter_expression e in omega
    arith
statement_step_bound (op.source_class a _) = let la = shorter_reference a in omega arith
statement_step_bound (op.move_reference _) = omega arith
statement_step_bound (op.move_assign _ b) = let lb = shorter_reference b in omega arith
statement_step_bound (op.move_source _ b _) = let lb = shorter_reference b in omega arith
statement_step_bound (op.scan_reference _) = omega arith
statement_step_bound (op.scan_mark _ b) = let lb = shorter_reference b in omega arith
statement_step_bound (op.scan_while _ b _) = let lb = shorter_reference b in omega arith
statement_step_bound (op.scan_until _ b _) = let lb = shorter_reference b in omega arith
statement_step_bound op.test_condition = omega arith
statement_step_bound (op.label _ _) = omega arith
statement_step_bound (op.begin _) = omega arith
statement_step_bound (op.begin_end _ b) = let lb = no_longer_list b in omega arith
statement_step_bound (op.if_test _) = omega arith
statement_step_bound (op.if_then _ b) = let lb = shorter_test b in omega arith
statement_step_bound (op.then_branch _ b _) = let lb = shorter_test b in omega arith
statement_step_bound (op.else_mark _ b _ e _) = let lb = shorter_test b in let le = no_longer e in omega arith
statement_step_bound (op.else_branch _ b _ e _ _) = let lb = shorter_test b in let le = no_longer e in omega arith
statement_step_bound (op.while_condition _) = omega arith
statement_step_bound (op.while_do _ b) = let lb = shorter_condition b in omega arith
statement_step_bound (op.while_body _ b _) = let lb = shorter_condition b in omega arith
statement_step_bound (op.do_body _) = omega arith
statement_step_bound (op.do_until _ b) = let lb = no_longer b in omega arith
statement_step_bound (op.do_condition _ b _) = let lb = no_longer b in omega arith
statement_step_bound (op.for_name _) = omega arith
statement_step_bound (op.for_assign _ _) = omega arith
statement_step_bound (op.for_first _ _ _) = omega arith
statement_step_bound (op.for_step _ _ _ e) = let le = shorter_expression e in omega arith
statement_step_bound (op.for_step_value _ _ _ e _) = let le = shorter_expression e in omega arith
statement_step_bound (op.for_until _ _ _ e f) = let le = shorter_expression e in let lf = no_longer_step f in omega
    arith
statement_step_bound (op.for_last _ _ _ e f _) = let le = shorter_expression e in let lf = no_longer_step f in omega
    arith
statement_step_bound (op.for_do _ _ _ e f _ h) = let le = shorter_expression e in let lf = no_longer_step f in let lh =
    shorter_expression h in omega arith
statement_step_bound (op.for_body _ _ _ e f _ h _) = let le = shorter_expression e in let lf = no_longer_step f in let
    lh = shorter_expression h in omega arith
statement_step_bound (op.case_value _) = omega arith
statement_step_bound (op.case_of _ b) = let lb = shorter_expression b in omega arith
statement_step_bound (op.case_begin _ b _) = let lb = shorter_expression b in omega arith
statement_step_bound (op.case_arms _ b _ _) = let lb = shorter_expression b in omega arith
statement_step_bound (op.case_end _ b _ _ f) = let lb = shorter_expression b in let lf = no_longer_list f in omega arith
statement_step_bound (op.go _) = omega arith
statement_step_bound (op.go_to _ _) = omega arith
statement_step_bound (op.goto _) = omega arith
statement_step_bound op.target_reference = omega arith
statement_step_bound (op.target_dot a _) = let la = shorter_reference a in omega arith
statement_step_bound (op.target_start a _ _) = let la = shorter_reference a in omega arith
statement_step_bound (op.target_colon a _ _ e) = let la = shorter_reference a in let le = pt.shorter_constant e in
    omega arith
statement_step_bound (op.target_length a _ _ e _) = let la = shorter_reference a in let le = pt.shorter_constant e in
    omega arith
statement_step_bound (op.target_close a _ _ e _ g) = let la = shorter_reference a in let le = pt.shorter_constant e in
    let lg = pt.shorter_constant g in omega arith
statement_step_bound (op.target_address _) = omega arith
statement_step_bound (op.target_assign a) = let la = shorter_target a in omega arith
statement_step_bound (op.value a _) = let la = shorter_target a in omega arith
statement_step_bound (op.value_effect a _) = let la = shorter_target a in omega arith
statement_step_bound op.effect_of = omega arith
statement_step_bound (op.call_arguments _ _) = omega arith
statement_step_bound (op.call_close _ _ c) = let lc = pt.shorter_arguments c in omega arith
statement_step_bound (op.whole_statement a) = let la = no_longer a in omega arith
statement_step_bound op.first_statement = omega arith
statement_step_bound (op.semicolon a) = let la = no_longer a in omega arith
statement_step_bound (op.next_statement a _) = let la = no_longer a in omega arith
