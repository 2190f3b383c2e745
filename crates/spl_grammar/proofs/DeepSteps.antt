-- What is open behind a chain is read, or it is too deep before: one step of the chain after another.
use Rattle.std.proofs.Common.{ℕ, ◌+◌, ◌/◌, ◌≡◌, ◌≤◌, Bool, false, List, length, Option, None, arith}
use Rattle.spl_reading.specs.spl_tree.declared.names_and_places.At.{At}
use Rattle.spl_reading.specs.spl_tree.Symbols.{Lexeme}
use Rattle.spl_reading.specs.spl_tree.Expressions as g
use Rattle.spl_reading.specs.spl_tree.OpenExpressions as op
use Rattle.spl_reading.specs.spl_tree.OpenExpressions.{Step, limit, nesting}
use Rattle.spl_reading.specs.spl_tree.Parts as of_kind
use Rattle.spl_reading.specs.spl_tree.Parts.{Part}
use Rattle.spl_reading.specs.ReadExpressions.{level, whole, expression, within}
use Rattle.spl_grammar.proofs.PartTokens as pt
use Rattle.spl_grammar.proofs.CompleteLevels.{not_three}
use Rattle.spl_grammar.proofs.CompleteExpressions.{primary_reader}
use Rattle.spl_grammar.proofs.LevelFacts as lf
use Rattle.spl_grammar.proofs.CompletedParts.{Inside, free, minus, a_constant, an_operand, a_primary, some_arguments, a_mark, inside_below}
use Rattle.spl_grammar.proofs.DeepReaders.{Sinks, sink_then}
use Rattle.spl_grammar.proofs.DeepExpressions.{full, of_level, SinksIn, over, whole_sinks, below_case, unsigned_case, signed_case, negative_case, right_case, relation_case, shift_case, bytes_case, not_case, operand_case, named_case, sink_arguments, arguments_of, address_case, parens_case, transfer_case, next_case}
use Rattle.spl_grammar.proofs.DeepStatements.{statement_sinks}
use Rattle.spl_grammar.proofs.CompletedExpressions.{not_declared}

-- a primary
by_primary : {n d : ℕ} {f : Option At} {ts : List Lexeme}
    → ((room taken : ℕ) → d + room ≡ limit + taken → Sinks n (primary_reader f room taken) ts)
    → SinksIn n (of_kind.primary f) d 0 ts
by_primary h = record { claim = λ room taken sum fits. h room taken sum }

-- at a mark of an operand no more is open than around it
no_unary : {n d : ℕ} {f : Option At} {ts us : List Lexeme} → SinksIn n of_kind.mark d 0 us → SinksIn n (of_kind.unary f) d 0 ts
no_unary {d = d} o = record { claim = λ room taken sum fits. over d 0 room taken o.claim sum fits }

-- at a constant of an operand neither
no_unary_constant : {n d : ℕ} {f : Option At} {ts us : List Lexeme} → SinksIn n of_kind.constant d 0 us
    → SinksIn n (of_kind.unary f) d 0 ts
no_unary_constant {d = d} o = record { claim = λ room taken sum fits. over d 0 room taken o.claim sum fits }

-- at a mark of a primary neither
no_primary : {n d : ℕ} {f : Option At} {ts us : List Lexeme} → SinksIn n of_kind.mark d 0 us
    → SinksIn n (of_kind.primary f) d 0 ts
no_primary {d = d} o = record { claim = λ room taken sum fits. over d 0 room taken o.claim sum fits }

-- the first of some arguments
argument_case : {n d : ℕ} {ts : List Lexeme} → SinksIn n (of_kind.level false None 10) d 0 ts
    → SinksIn n of_kind.arguments d 0 ts
unfolding within expression whole
argument_case o = record { claim = λ room taken inner so_far sum fits. sink_then _ (sink_then _ (o.claim room taken sum fits)) }

-- behind the sign of a constant
constant_case : {n d k : ℕ} {ts us : List Lexeme} → SinksIn n of_kind.mark d k us → SinksIn n of_kind.constant d k ts
constant_case o = record { claim = o.claim }

-- the operand of a level
operand_level : {n d k : ℕ} {c : Bool} {f : Option At} {ts : List Lexeme} → SinksIn n (of_kind.unary f) (d + k / 8) 0 ts
    → SinksIn n (of_kind.level c f 0) d k ts
unfolding level
operand_level {k = k} o = record { claim = λ room taken sum fits. sink_then _ (o.claim room (taken + k / 8) (omega arith) (omega arith)) }

-- behind an argument
arguments_whole : {n d : ℕ} {ts us : List Lexeme} → SinksIn n of_kind.mark d 0 us → SinksIn n of_kind.arguments d 0 ts
arguments_whole {d = d} o = record { claim = λ room taken inner so_far sum fits. over d 0 room taken o.claim sum fits }

-- by the step
pub step_sinks : {n d k j m : ℕ} {p q : Part} {ts mid : List Lexeme} → Inside p → Step p d k ts q j m mid → n ≤ length mid
    → (Inside q → SinksIn n q j m mid) → SinksIn n p d k ts
step_sinks v (op.constant_sign i e) w o = constant_case (o a_mark)
step_sinks v (op.whole l) w o = whole_sinks v l w (o a_mark).claim
step_sinks v op.operand w o = operand_level (o an_operand)
step_sinks v (op.below q) w o = below_case q (o (inside_below v))
step_sinks v (op.unsigned q) w o = unsigned_case q (o free)
step_sinks v (op.signed q i b z) w o = signed_case q i b z (o free)
step_sinks v (op.negative q i) w o = negative_case q i (o (minus (lf.below_three _ q)))
step_sinks v (op.right q l i e) w o = right_case q l i e w (o free)
step_sinks v (op.right_of_relation q l i e) w o = relation_case q l i e w (o free)
step_sinks v (op.shift_mark q l i) w o = shift_case q l i w (o a_mark).claim
step_sinks v (op.shift_name q l i j t) w o = shift_case q l i (omega arith) (o a_mark).claim
step_sinks v (op.shift_count q l i j t p) w o = shift_case q l i (omega arith) (o a_constant).claim
step_sinks v (op.shift_close q l i j t p x) w o = shift_case q l i (let a = pt.shorter_constant x in omega arith) (o a_mark).claim
step_sinks v (op.bytes_comma q l i) w o = whole_sinks v (g.Level.up (not_three _ q) l) (omega arith) (o a_mark).claim
step_sinks v (op.bytes_count q l i j) w o = bytes_case q l i j w (λ room taken sum ok. of_level room taken (o free) sum ok)
step_sinks v (op.bytes_close q l i j r) w o = bytes_case q l i j (let a = pt.shorter r in omega arith)
    (λ room taken sum ok. full room taken (o a_mark) sum ok)
step_sinks v (op.whole_primary p) w o = no_primary (o a_mark)
step_sinks v (op.inverse i) w o = not_case i w (o an_operand)
step_sinks v op.primary_of w o = operand_case (o a_primary)
step_sinks v (op.bits_dot p i) w o = no_unary (o a_mark)
step_sinks v (op.bits_start p i j) w o = no_unary_constant (o a_constant)
step_sinks v (op.bits_colon p i j x) w o = no_unary (o a_mark)
step_sinks v (op.bits_length p i j x y) w o = no_unary_constant (o a_constant)
step_sinks v (op.bits_close p i j x y z) w o = no_unary (o a_mark)
step_sinks v (op.call_arguments i j) w o = by_primary (λ room taken sum. named_case room taken i j
    (sink_arguments room taken _ j w (λ ok. arguments_of room taken _ (o some_arguments) sum ok)))
step_sinks v (op.call_close i j x) w o = by_primary (λ room taken sum. named_case room taken i j
    (sink_arguments room taken _ j (let a = pt.shorter_arguments x in omega arith) (λ ok. full room taken (o a_mark) sum ok)))
step_sinks v (op.address_name i) w o = no_primary (o a_mark)
step_sinks v (op.address_index i j k) w o = by_primary (λ room taken sum. address_case room taken i j k w
    (λ ok. of_level room taken (o free) sum ok))
step_sinks v (op.address_close i j k l) w o = by_primary (λ room taken sum. address_case room taken i j k
    (let a = pt.shorter l in omega arith) (λ ok. full room taken (o a_mark) sum ok))
step_sinks v (op.inside i) w o = by_primary (λ room taken sum. parens_case room taken i w
    (λ ok. of_level room taken (o free) sum ok))
step_sinks v (op.close i l) w o = by_primary (λ room taken sum. parens_case room taken i
    (let a = pt.shorter l in omega arith) (λ ok. full room taken (o a_mark) sum ok))
step_sinks v (op.transfer_open i) w o = no_primary (o a_mark)
step_sinks v (op.transfer_inside i j) w o = by_primary (λ room taken sum. transfer_case room taken i j w
    (λ ok. of_level room taken (o free) sum ok))
step_sinks v (op.transfer_close i j l) w o = by_primary (λ room taken sum. transfer_case room taken i j
    (let a = pt.shorter l in omega arith) (λ ok. full room taken (o a_mark) sum ok))
step_sinks v op.argument w o = argument_case (o free)
step_sinks v (op.argument_whole l) w o = arguments_whole (o a_mark)
step_sinks v (op.next_argument l i) w o = next_case l i w (o some_arguments)
step_sinks v (op.of_statement step) w o = statement_sinks step w o
step_sinks v (op.of_declaration step) w o = not_declared v step
