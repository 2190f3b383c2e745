-- No step of a chain goes back.
use Rattle.std.proofs.Common.{ℕ, ◌≤◌, List, length, arith}
use Rattle.spl_reading.specs.spl_tree.Symbols.{Lexeme}
use Rattle.spl_reading.specs.spl_tree.Parts.{Part}
use Rattle.spl_reading.specs.spl_tree.OpenStatements as op
use Rattle.spl_reading.specs.spl_tree.OpenStatements.{StatementStep}
use Rattle.spl_grammar.proofs.PartTokens as pt
use Rattle.spl_reading.specs.spl_tree.OpenExpressions as oe
use Rattle.spl_reading.specs.spl_tree.OpenExpressions.{Part, Step, Opens, OpensAt}
use Rattle.spl_grammar.proofs.DeclarationTokens.{declaration_step_bound}
use Rattle.spl_grammar.proofs.StatementTokens.{no_longer, no_longer_list, no_longer_step, shorter_condition, shorter_expression, shorter_reference, shorter_target, shorter_test}
use Rattle.spl_grammar.proofs.ChainBounds.{operators_bound}

-- a step in a statement
pub statement_step_shorter : {p q : Part} {d j : ℕ} {ts mid : List Lexeme} → StatementStep p d ts q j mid
    → length mid ≤ length ts
statement_step_shorter (op.index _ _) = omega arith
statement_step_shorter (op.index_close _ _ c) = let lc = shorter_expression c in omega arith
statement_step_shorter (op.whole_reference a) = let la = shorter_reference a in omega arith
statement_step_shorter op.source_reference = omega arith
statement_step_shorter (op.source_mark a) = let la = shorter_reference a in omega arith
statement_step_shorter (op.source_open a _) = let la = shorter_reference a in omega arith
statement_step_shorter (op.source_count a _ _) = let la = shorter_reference a in omega arith
statement_step_shorter (op.source_close a _ _ e) = let la = shorter_reference a in let le = shorter_expression e in omega
    arith
statement_step_shorter (op.source_class a _) = let la = shorter_reference a in omega arith
statement_step_shorter (op.move_reference _) = omega arith
statement_step_shorter (op.move_assign _ b) = let lb = shorter_reference b in omega arith
statement_step_shorter (op.move_source _ b _) = let lb = shorter_reference b in omega arith
statement_step_shorter (op.scan_reference _) = omega arith
statement_step_shorter (op.scan_mark _ b) = let lb = shorter_reference b in omega arith
statement_step_shorter (op.scan_while _ b _) = let lb = shorter_reference b in omega arith
statement_step_shorter (op.scan_until _ b _) = let lb = shorter_reference b in omega arith
statement_step_shorter op.test_condition = omega arith
statement_step_shorter (op.label _ _) = omega arith
statement_step_shorter (op.begin _) = omega arith
statement_step_shorter (op.begin_end _ b) = let lb = no_longer_list b in omega arith
statement_step_shorter (op.if_test _) = omega arith
statement_step_shorter (op.if_then _ b) = let lb = shorter_test b in omega arith
statement_step_shorter (op.then_branch _ b _) = let lb = shorter_test b in omega arith
statement_step_shorter (op.else_mark _ b _ e _) = let lb = shorter_test b in let le = no_longer e in omega arith
statement_step_shorter (op.else_branch _ b _ e _ _) = let lb = shorter_test b in let le = no_longer e in omega arith
statement_step_shorter (op.while_condition _) = omega arith
statement_step_shorter (op.while_do _ b) = let lb = shorter_condition b in omega arith
statement_step_shorter (op.while_body _ b _) = let lb = shorter_condition b in omega arith
statement_step_shorter (op.do_body _) = omega arith
statement_step_shorter (op.do_until _ b) = let lb = no_longer b in omega arith
statement_step_shorter (op.do_condition _ b _) = let lb = no_longer b in omega arith
statement_step_shorter (op.for_name _) = omega arith
statement_step_shorter (op.for_assign _ _) = omega arith
statement_step_shorter (op.for_first _ _ _) = omega arith
statement_step_shorter (op.for_step _ _ _ e) = let le = shorter_expression e in omega arith
statement_step_shorter (op.for_step_value _ _ _ e _) = let le = shorter_expression e in omega arith
statement_step_shorter (op.for_until _ _ _ e f) = let le = shorter_expression e in let lf = no_longer_step f in omega
    arith
statement_step_shorter (op.for_last _ _ _ e f _) = let le = shorter_expression e in let lf = no_longer_step f in omega
    arith
statement_step_shorter (op.for_do _ _ _ e f _ h) = let le = shorter_expression e in let lf = no_longer_step f in let lh =
    shorter_expression h in omega arith
statement_step_shorter (op.for_body _ _ _ e f _ h _) = let le = shorter_expression e in let lf = no_longer_step f in let
    lh = shorter_expression h in omega arith
statement_step_shorter (op.case_value _) = omega arith
statement_step_shorter (op.case_of _ b) = let lb = shorter_expression b in omega arith
statement_step_shorter (op.case_begin _ b _) = let lb = shorter_expression b in omega arith
statement_step_shorter (op.case_arms _ b _ _) = let lb = shorter_expression b in omega arith
statement_step_shorter (op.case_end _ b _ _ f) = let lb = shorter_expression b in let lf = no_longer_list f in omega arith
statement_step_shorter (op.go _) = omega arith
statement_step_shorter (op.go_to _ _) = omega arith
statement_step_shorter (op.goto _) = omega arith
statement_step_shorter op.target_reference = omega arith
statement_step_shorter (op.target_dot a _) = let la = shorter_reference a in omega arith
statement_step_shorter (op.target_start a _ _) = let la = shorter_reference a in omega arith
statement_step_shorter (op.target_colon a _ _ e) = let la = shorter_reference a in let le = pt.shorter_constant e in
    omega arith
statement_step_shorter (op.target_length a _ _ e _) = let la = shorter_reference a in let le = pt.shorter_constant e in
    omega arith
statement_step_shorter (op.target_close a _ _ e _ g) = let la = shorter_reference a in let le = pt.shorter_constant e in
    let lg = pt.shorter_constant g in omega arith
statement_step_shorter (op.target_address _) = omega arith
statement_step_shorter (op.target_assign a) = let la = shorter_target a in omega arith
statement_step_shorter (op.value a _) = let la = shorter_target a in omega arith
statement_step_shorter (op.value_effect a _) = let la = shorter_target a in omega arith
statement_step_shorter op.effect_of = omega arith
statement_step_shorter (op.call_arguments _ _) = omega arith
statement_step_shorter (op.call_close _ _ c) = let lc = pt.shorter_arguments c in omega arith
statement_step_shorter (op.whole_statement a) = let la = no_longer a in omega arith
statement_step_shorter op.first_statement = omega arith
statement_step_shorter (op.semicolon a) = let la = no_longer a in omega arith
statement_step_shorter (op.next_statement a _) = let la = no_longer a in omega arith

-- a step in an expression
step_shorter : {p q : Part} {d n j k : ℕ} {ts mid : List Lexeme} → Step p d n ts q j k mid
    → length mid ≤ length ts
step_shorter (oe.constant_sign _ _) = omega arith
step_shorter (oe.whole l) = let a = operators_bound l in omega arith
step_shorter oe.operand = omega arith
step_shorter (oe.below _) = omega arith
step_shorter (oe.unsigned _) = omega arith
step_shorter (oe.signed _ _ _ _) = omega arith
step_shorter (oe.negative _ _) = omega arith
step_shorter (oe.right _ l _ _) = let a = operators_bound l in omega arith
step_shorter (oe.right_of_relation _ l _ _) = let a = operators_bound l in omega arith
step_shorter (oe.shift_mark _ l _) = let a = operators_bound l in omega arith
step_shorter (oe.shift_name _ l _ _ _) = let a = operators_bound l in omega arith
step_shorter (oe.shift_count _ l _ _ _ _) = let a = operators_bound l in omega arith
step_shorter (oe.shift_close _ l _ _ _ _ v) = let a = operators_bound l in let b = pt.shorter_constant v in omega arith
step_shorter (oe.bytes_comma _ l _) = let a = operators_bound l in omega arith
step_shorter (oe.bytes_count _ l _ _) = let a = operators_bound l in omega arith
step_shorter (oe.bytes_close _ l _ _ r) = let a = operators_bound l in let b = pt.shorter r in omega arith
step_shorter (oe.whole_primary p) = let a = pt.shorter_primary p in omega arith
step_shorter (oe.inverse _) = omega arith
step_shorter oe.primary_of = omega arith
step_shorter (oe.bits_dot p _) = let a = pt.shorter_primary p in omega arith
step_shorter (oe.bits_start p _ _) = let a = pt.shorter_primary p in omega arith
step_shorter (oe.bits_colon p _ _ v) = let a = pt.shorter_primary p in let b = pt.shorter_constant v in omega arith
step_shorter (oe.bits_length p _ _ v _) = let a = pt.shorter_primary p in let b = pt.shorter_constant v in omega arith
step_shorter (oe.bits_close p _ _ v _ w) = let a = pt.shorter_primary p in let b = pt.shorter_constant v in let c =
    pt.shorter_constant w in omega arith
step_shorter (oe.call_arguments _ _) = omega arith
step_shorter (oe.call_close _ _ a) = let b = pt.shorter_arguments a in omega arith
step_shorter (oe.address_name _) = omega arith
step_shorter (oe.address_index _ _ _) = omega arith
step_shorter (oe.address_close _ _ _ l) = let b = pt.shorter l in omega arith
step_shorter (oe.inside _) = omega arith
step_shorter (oe.close _ l) = let b = pt.shorter l in omega arith
step_shorter (oe.transfer_open _) = omega arith
step_shorter (oe.transfer_inside _ _) = omega arith
step_shorter (oe.transfer_close _ _ l) = let b = pt.shorter l in omega arith
step_shorter oe.argument = omega arith
step_shorter (oe.argument_whole l) = let b = pt.shorter l in omega arith
step_shorter (oe.next_argument l _) = let b = pt.shorter l in omega arith
step_shorter (oe.of_statement step) = let a = statement_step_shorter step in omega arith
step_shorter (oe.of_declaration step) = let a = declaration_step_bound step in omega arith

-- and so no chain does
pub chain_shorter : {p q : Part} {d n j k : ℕ} {ts mid : List Lexeme} → Opens p d n ts q j k mid
    → length mid ≤ length ts
chain_shorter oe.here = omega arith
chain_shorter (oe.inner step c) = let a = step_shorter step in let b = chain_shorter c in omega arith
