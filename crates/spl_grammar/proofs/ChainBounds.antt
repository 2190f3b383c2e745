-- No more is open than there are tokens before.
use Rattle.std.proofs.Common.{ℕ, ◌+◌, ◌<◌, ◌≤◌, Bool, List, length, Option, arith}
use Rattle.spl_reading.specs.spl_tree.declared.names_and_places.At.{At}
use Rattle.spl_reading.specs.spl_tree.Symbols.{Lexeme}
use Rattle.spl_reading.specs.spl_tree.Operators.{Form}
use Rattle.spl_reading.specs.spl_tree.Expressions as g
use Rattle.spl_reading.specs.spl_tree.OpenExpressions as op
use Rattle.spl_reading.specs.spl_tree.OpenExpressions.{Part, Step, Opens, OpensAt}
use Rattle.spl_reading.specs.spl_tree.Trees as tree
use Rattle.spl_grammar.proofs.PartTokens as pt
use Rattle.spl_grammar.proofs.StatementTokens.{statement_step_bound}
use Rattle.spl_grammar.proofs.DeclarationTokens.{declaration_step_bound}

-- each operator of a part is a token of it
pub operators_bound : {c : Bool} {f : Option At} {h n : ℕ} {x : Form} {e : tree.Tree} {ts rest : List Lexeme}
    → g.Level c f h n x e ts rest → n + length rest < length ts
operators_bound (g.Level.operand u) = let a = pt.shorter_unary u in omega arith
operators_bound (g.Level.up _ l) = operators_bound l
operators_bound (g.Level.unsigned _ l) = operators_bound l
operators_bound (g.Level.signed _ _ _ _ l) = let a = operators_bound l in omega arith
operators_bound (g.Level.negative _ _ l) = let a = operators_bound l in omega arith
operators_bound (g.Level.joined _ l _ _ r) = let a = operators_bound l in let b = operators_bound r in omega arith
operators_bound (g.Level.related _ l _ _ r _) = let a = operators_bound l in let b = operators_bound r in omega arith
operators_bound (g.Level.shifted _ l _ _ _ _ v _) = let a = operators_bound l in let b = pt.shorter_constant v in omega
    arith
operators_bound (g.Level.bytes _ l _ _ r _) = let a = operators_bound l in let b = pt.shorter r in omega arith

step_bound : {p q : Part} {d n j k : ℕ} {ts mid : List Lexeme} → Step p d n ts q j k mid
    → j + k + length mid ≤ d + n + length ts
step_bound (op.constant_sign _ _) = omega arith
step_bound (op.whole l) = let a = operators_bound l in omega arith
step_bound op.operand = omega arith
step_bound (op.below _) = omega arith
step_bound (op.unsigned _) = omega arith
step_bound (op.signed _ _ _ _) = omega arith
step_bound (op.negative _ _) = omega arith
step_bound (op.right _ l _ _) = let a = operators_bound l in omega arith
step_bound (op.right_of_relation _ l _ _) = let a = operators_bound l in omega arith
step_bound (op.shift_mark _ l _) = let a = operators_bound l in omega arith
step_bound (op.shift_name _ l _ _ _) = let a = operators_bound l in omega arith
step_bound (op.shift_count _ l _ _ _ _) = let a = operators_bound l in omega arith
step_bound (op.shift_close _ l _ _ _ _ v) = let a = operators_bound l in let b = pt.shorter_constant v in omega arith
step_bound (op.bytes_comma _ l _) = let a = operators_bound l in omega arith
step_bound (op.bytes_count _ l _ _) = let a = operators_bound l in omega arith
step_bound (op.bytes_close _ l _ _ r) = let a = operators_bound l in let b = pt.shorter r in omega arith
step_bound (op.whole_primary p) = let a = pt.shorter_primary p in omega arith
step_bound (op.inverse _) = omega arith
step_bound op.primary_of = omega arith
step_bound (op.bits_dot p _) = let a = pt.shorter_primary p in omega arith
step_bound (op.bits_start p _ _) = let a = pt.shorter_primary p in omega arith
step_bound (op.bits_colon p _ _ v) = let a = pt.shorter_primary p in let b = pt.shorter_constant v in omega arith
step_bound (op.bits_length p _ _ v _) = let a = pt.shorter_primary p in let b = pt.shorter_constant v in omega arith
step_bound (op.bits_close p _ _ v _ w) = let a = pt.shorter_primary p in let b = pt.shorter_constant v in let c =
    pt.shorter_constant w in omega arith
step_bound (op.call_arguments _ _) = omega arith
step_bound (op.call_close _ _ a) = let b = pt.shorter_arguments a in omega arith
step_bound (op.address_name _) = omega arith
step_bound (op.address_index _ _ _) = omega arith
step_bound (op.address_close _ _ _ l) = let b = pt.shorter l in omega arith
step_bound (op.inside _) = omega arith
step_bound (op.close _ l) = let b = pt.shorter l in omega arith
step_bound (op.transfer_open _) = omega arith
step_bound (op.transfer_inside _ _) = omega arith
step_bound (op.transfer_close _ _ l) = let b = pt.shorter l in omega arith
step_bound op.argument = omega arith
step_bound (op.argument_whole l) = let b = pt.shorter l in omega arith
step_bound (op.next_argument l _) = let b = pt.shorter l in omega arith
step_bound (op.of_statement step) = let a = statement_step_bound step in omega arith
step_bound (op.of_declaration step) = let a = declaration_step_bound step in omega arith

pub chain_bound : {p q : Part} {d n j k : ℕ} {ts mid : List Lexeme} → Opens p d n ts q j k mid
    → j + k + length mid ≤ d + n + length ts
chain_bound op.here = omega arith
chain_bound (op.inner step c) = let a = step_bound step in let b = chain_bound c in omega arith
