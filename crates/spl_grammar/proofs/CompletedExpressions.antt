-- Each open prefix of an expression or a condition can be completed, one production at a time.
use Rattle.std.proofs.Common.{ℕ, suc, ◌≡◌, ◌==◌, ◌&&◌, ◌<◌, ◌≤◌, Bool, true, false, List, [], ◌∷◌, length, Some, None, refl, arith, ◌⊎◌, inl, inr}
use Rattle.std.proofs.lemmas.Bool.Decides.{nat_tests}
use Rattle.spl_reading.specs.spl_tree.declared.symbols.Symbol.TheVariants as s
use Rattle.spl_reading.specs.spl_tree.Symbols.{Lexeme, Is}
use Rattle.spl_reading.specs.spl_tree.Operators.{is_sign, shift_of}
use Rattle.spl_reading.specs.spl_tree.Expressions as g
use Rattle.spl_reading.specs.spl_tree.OpenExpressions as op
use Rattle.spl_reading.specs.spl_tree.OpenExpressions.{Step}
use Rattle.spl_reading.specs.spl_tree.OpenDeclarations.{DeclarationStep}
use Rattle.spl_reading.specs.spl_tree.Parts as part
use Rattle.spl_reading.specs.spl_tree.Parts.{Part}
use Rattle.spl_grammar.proofs.MovedParts.{Swap, same, behind, along, swap_longer, move, move_constant, move_primary, move_arguments}
use Rattle.spl_grammar.proofs.CompletedParts.{any_level, any_unary, any_primary, any_constant, any_arguments, Inside, free, minus, a_constant, an_operand, a_primary, some_arguments, a_reference, a_source, an_effect, a_test, a_statement, some_statements, a_mark, inside_below, Refilled, filled, Completed, around, open_at, token, a_name, a_number, a_shift, one_level, one_expression, not_begun}
use Rattle.spl_grammar.proofs.CompletedStatements.{statement_completed}

-- a sum is of level 3
below_sum : (h : ℕ) → (suc h == 3) ≡ true → h ≤ 2
below_sum h e = grind (arith, nat_tests, e)

-- What a sign stands before: if nothing of it stands there yet, a name completes it, which no minus negates.
sign_kept : (op : ℕ) {ts rest next us : List Lexeme} → Swap rest next ts us → length rest < length ts
    → g.negates op ts ≡ false → g.negates op us ≡ false
sign_kept op same l e = absurd (omega arith)
sign_kept op (behind a) l e = e

-- a part of which nothing stands there, or some token
pub nothing_or : {ts rest next us : List Lexeme} → Swap rest next ts us → (ts ≡ rest) ⊎ (length rest < length ts)
nothing_or same = inl refl
nothing_or (behind a) = inr (let l = swap_longer a in omega arith)

-- the name of a shift is one
a_shift_is : shift_of a_shift.letters ≡ Some 0
unfolding shift_of
a_shift_is = refl

-- a part of an expression or a statement is none of a declaration
pub not_declared : {A : Type 0} {p q : Part} {ts mid : List Lexeme} → Inside p → DeclarationStep p ts q mid → A
not_declared free e = elim e [ ]
not_declared (minus l) e = elim e [ ]
not_declared a_constant e = elim e [ ]
not_declared an_operand e = elim e [ ]
not_declared a_primary e = elim e [ ]
not_declared some_arguments e = elim e [ ]
not_declared a_reference e = elim e [ ]
not_declared a_source e = elim e [ ]
not_declared an_effect e = elim e [ ]
not_declared a_test e = elim e [ ]
not_declared a_statement e = elim e [ ]
not_declared some_statements e = elim e [ ]
not_declared a_mark e = elim e [ ]

-- behind a sign some of the term stands
signed_whole : {c : Bool} {h op : ℕ} {t : Lexeme} {ts rest next more : List Lexeme} → (suc h == 3) ≡ true
    → Is (s.Operator op) t → is_sign op ≡ true → g.negates op ts ≡ false → length rest < length ts
    → Refilled (part.level c None h) ts rest next more → Refilled (part.level c None (suc h)) (t ∷ ts) rest next more
signed_whole q i b z l a = filled (behind a.swap)
    (any_level (g.Level.signed q i b (sign_kept _ a.swap l z) a.whole.spelled))

-- a name behind a sign
signed_name : {c : Bool} {h op : ℕ} {t : Lexeme} (rest : List Lexeme) → (suc h == 3) ≡ true
    → Is (s.Operator op) t → is_sign op ≡ true → Completed (part.level c None (suc h)) (t ∷ rest) rest
signed_name {c = c} {h = h} {op = op} rest q i b = record {
  tail = a_name ∷ [];
  whole = λ more. let a = one_level c None h free more in
      filled (behind same) (any_level (g.Level.signed q i b (no_number (op == 12)) a.spelled));
}
  where
    no_number : (b : Bool) → (b && false) ≡ false
    no_number true = refl
    no_number false = refl

-- behind a sign, whether some of the term stands there or not
signed_completed : {c : Bool} {h op : ℕ} {t : Lexeme} {ts rest : List Lexeme} → (suc h == 3) ≡ true
    → Is (s.Operator op) t → is_sign op ≡ true → g.negates op ts ≡ false → Completed (part.level c None h) ts rest
    → Completed (part.level c None (suc h)) (t ∷ ts) rest
signed_completed {c = c} {h = h} {t = t} {ts = ts} {rest = rest} q i b z o = go (begun (o.whole []).swap)
  where
    begun : {next us : List Lexeme} → Swap rest next ts us → (ts ≡ rest) ⊎ (length rest < length ts)
    begun a = nothing_or a

    go : (ts ≡ rest) ⊎ (length rest < length ts) → Completed (part.level c None (suc h)) (t ∷ ts) rest
    go (inl e) = rw e (signed_name rest q i b)
    go (inr l) = record { tail = o.tail; whole = λ more. signed_whole q i b z l (o.whole more) }

-- one step, and the part that is open behind it
pub step_completed : {p q : Part} {d n j k : ℕ} {ts mid rest : List Lexeme} → Inside p → Step p d n ts q j k mid
    → (Inside q → Completed q mid rest) → Completed p ts rest
step_completed v (op.constant_sign i e) o = open_at (a_number ∷ []) o (λ more.
    filled (behind same) (any_constant (g.Constant.signed_number i e refl)))
step_completed v (op.whole l) o = open_at [] o (λ more. let a = move l more in filled a.swap (any_level a.whole.spelled))
step_completed v op.operand o = around an_operand [] o (λ us next more sw w. filled sw (any_level (g.Level.operand w.spelled)))
step_completed v (op.below q) o = around (inside_below v) [] o (λ us next more sw w.
    filled sw (any_level (g.Level.up q w.spelled)))
step_completed v (op.unsigned q) o = around free [] o (λ us next more sw w.
    filled sw (any_level (g.Level.unsigned q w.spelled)))
step_completed v (op.signed q i b z) o = signed_completed q i b z (o free)
step_completed v (op.negative q i) o = around (minus (below_sum _ q)) [] o (λ us next more sw w.
    filled (behind sw) (any_level (g.Level.negative q i w.spelled)))
step_completed v (op.right {o = m} q l i e) o = around free [] o (λ us next more sw w. let a = move l (m ∷ us) in
    filled (along a.swap (behind sw)) (any_level (g.Level.joined q a.whole.spelled i e w.spelled)))
step_completed v (op.right_of_relation {o = m} q l i e) o = around free [] o (λ us next more sw w.
    let a = move l (m ∷ us) in
    filled (along a.swap (behind sw)) (any_level (g.Level.related q a.whole.spelled i e w.spelled refl)))
step_completed v (op.shift_mark {a = m} q l i) o = open_at (a_shift ∷ token s.Open ∷ a_number ∷ token s.Close ∷ []) o
    (λ more. let a = move l (m ∷ a_shift ∷ token s.Open ∷ a_number ∷ token s.Close ∷ more) in
    filled (along a.swap (behind same))
    (any_level (g.Level.shifted q a.whole.spelled i refl a_shift_is refl (g.Constant.number refl) refl)))
step_completed v (op.shift_name {a = m} {w = u} q l i j t) o = open_at (token s.Open ∷ a_number ∷ token s.Close ∷ []) o
    (λ more. let a = move l (m ∷ u ∷ token s.Open ∷ a_number ∷ token s.Close ∷ more) in
    filled (along a.swap (behind (behind same)))
    (any_level (g.Level.shifted q a.whole.spelled i j t refl (g.Constant.number refl) refl)))
step_completed v (op.shift_count {a = m} {w = u} {o = k} q l i j t p) o = around a_constant (token s.Close ∷ []) o
    (λ us next more sw w. let a = move l (m ∷ u ∷ k ∷ us) in
    filled (along a.swap (behind (behind (behind sw))))
    (any_level (g.Level.shifted q a.whole.spelled i j t p w.spelled refl)))
step_completed v (op.shift_close {a = m} {w = u} {o = k} q l i j t p x) o = open_at (token s.Close ∷ []) o
    (λ more. let b = move_constant x (token s.Close ∷ more) in let a = move l (m ∷ u ∷ k ∷ b.to) in
    filled (along a.swap (behind (behind (behind b.swap))))
    (any_level (g.Level.shifted q a.whole.spelled i j t p b.whole.spelled refl)))
step_completed v (op.bytes_comma {k = m} q l i) o = open_at (token s.Open ∷ a_name ∷ token s.Close ∷ []) o
    (λ more. let b = one_expression (token s.Close ∷ more) in
    let a = move l (m ∷ token s.Open ∷ a_name ∷ token s.Close ∷ more) in
    filled (along a.swap (behind same)) (any_level (g.Level.bytes q a.whole.spelled i refl b.spelled refl)))
step_completed v (op.bytes_count {k = m} {o = k} q l i j) o = around free (token s.Close ∷ []) o
    (λ us next more sw w. let a = move l (m ∷ k ∷ us) in
    filled (along a.swap (behind (behind sw))) (any_level (g.Level.bytes q a.whole.spelled i j w.spelled refl)))
step_completed v (op.bytes_close {k = m} {o = k} q l i j r) o = open_at (token s.Close ∷ []) o
    (λ more. let b = move r (token s.Close ∷ more) in let a = move l (m ∷ k ∷ b.to) in
    filled (along a.swap (behind (behind b.swap)))
    (any_level (g.Level.bytes q a.whole.spelled i j b.whole.spelled refl)))
step_completed v (op.whole_primary p) o = open_at [] o
    (λ more. let a = move_primary p more in filled a.swap (any_primary a.whole.spelled))
step_completed v (op.inverse i) o = around an_operand [] o (λ us next more sw w.
    filled (behind sw) (any_unary (g.Unary.inverse i w.spelled)))
step_completed v op.primary_of o = around a_primary [] o (λ us next more sw w.
    filled sw (any_unary (g.Unary.plain w.spelled)))
step_completed v (op.bits_dot {b = m} p i) o = open_at
    (token s.Open ∷ a_number ∷ token s.Colon ∷ a_number ∷ token s.Close ∷ []) o
    (λ more. let a = move_primary p (m ∷ token s.Open ∷ a_number ∷ token s.Colon ∷ a_number ∷ token s.Close ∷ more) in
    filled (along a.swap (behind same))
    (any_unary (g.Unary.bits a.whole.spelled i refl (g.Constant.number refl) refl (g.Constant.number refl) refl)))
step_completed v (op.bits_start {b = m} {o = k} p i j) o = around a_constant
    (token s.Colon ∷ a_number ∷ token s.Close ∷ []) o (λ us next more sw w. let a = move_primary p (m ∷ k ∷ us) in
    filled (along a.swap (behind (behind sw)))
    (any_unary (g.Unary.bits a.whole.spelled i j w.spelled refl (g.Constant.number refl) refl)))
step_completed v (op.bits_colon {b = m} {o = k} p i j x) o = open_at
    (token s.Colon ∷ a_number ∷ token s.Close ∷ []) o
    (λ more. let b = move_constant x (token s.Colon ∷ a_number ∷ token s.Close ∷ more) in
    let a = move_primary p (m ∷ k ∷ b.to) in
    filled (along a.swap (behind (behind b.swap)))
    (any_unary (g.Unary.bits a.whole.spelled i j b.whole.spelled refl (g.Constant.number refl) refl)))
step_completed v (op.bits_length {b = m} {o = k} {k = u} p i j x y) o = around a_constant (token s.Close ∷ []) o
    (λ us next more sw w. let b = move_constant x (u ∷ us) in let a = move_primary p (m ∷ k ∷ b.to) in
    filled (along a.swap (behind (behind (along b.swap (behind sw)))))
    (any_unary (g.Unary.bits a.whole.spelled i j b.whole.spelled y w.spelled refl)))
step_completed v (op.bits_close {b = m} {o = k} {k = u} p i j x y z) o = open_at (token s.Close ∷ []) o
    (λ more. let r = move_constant z (token s.Close ∷ more) in let b = move_constant x (u ∷ r.to) in
    let a = move_primary p (m ∷ k ∷ b.to) in
    filled (along a.swap (behind (behind (along b.swap (behind r.swap)))))
    (any_unary (g.Unary.bits a.whole.spelled i j b.whole.spelled y r.whole.spelled refl)))
step_completed v (op.call_arguments i j) o = around some_arguments (token s.Close ∷ []) o (λ us next more sw w.
    filled (behind (behind sw)) (any_primary (g.Primary.call i j w.spelled refl)))
step_completed v (op.call_close i j x) o = open_at (token s.Close ∷ []) o
    (λ more. let a = move_arguments x (token s.Close ∷ more) in
    filled (behind (behind a.swap)) (any_primary (g.Primary.call i j a.whole.spelled refl)))
step_completed v (op.address_name i) o = open_at (a_name ∷ []) o (λ more.
    filled (behind same) (any_primary (g.Primary.address i refl)))
step_completed v (op.address_index i j k) o = around free (token s.Close ∷ []) o (λ us next more sw w.
    filled (behind (behind (behind sw))) (any_primary (g.Primary.address_of i j k w.spelled refl)))
step_completed v (op.address_close i j k l) o = open_at (token s.Close ∷ []) o
    (λ more. let a = move l (token s.Close ∷ more) in
    filled (behind (behind (behind a.swap))) (any_primary (g.Primary.address_of i j k a.whole.spelled refl)))
step_completed v (op.inside i) o = around free (token s.Close ∷ []) o (λ us next more sw w.
    filled (behind sw) (any_primary (g.Primary.parens i w.spelled refl)))
step_completed v (op.close i l) o = open_at (token s.Close ∷ []) o (λ more. let a = move l (token s.Close ∷ more) in
    filled (behind a.swap) (any_primary (g.Primary.parens i a.whole.spelled refl)))
step_completed v (op.transfer_open i) o = open_at (token s.Open ∷ a_name ∷ token s.Close ∷ []) o
    (λ more. let b = one_expression (token s.Close ∷ more) in
    filled (behind same) (any_primary (g.Primary.transfer i refl b.spelled refl)))
step_completed v (op.transfer_inside i j) o = around free (token s.Close ∷ []) o (λ us next more sw w.
    filled (behind (behind sw)) (any_primary (g.Primary.transfer i j w.spelled refl)))
step_completed v (op.transfer_close i j l) o = open_at (token s.Close ∷ []) o
    (λ more. let a = move l (token s.Close ∷ more) in
    filled (behind (behind a.swap)) (any_primary (g.Primary.transfer i j a.whole.spelled refl)))
step_completed v op.argument o = around free [] o (λ us next more sw w.
    filled sw (any_arguments (g.Arguments.one w.spelled)))
step_completed v (op.argument_whole l) o = open_at [] o
    (λ more. let a = move l more in filled a.swap (any_arguments (g.Arguments.one a.whole.spelled)))
step_completed v (op.next_argument {k = m} l i) o = around some_arguments [] o (λ us next more sw w.
    let a = move l (m ∷ us) in
    filled (along a.swap (behind sw)) (any_arguments (g.Arguments.several a.whole.spelled i w.spelled)))
step_completed v (op.of_statement step) o = statement_completed step o
step_completed v (op.of_declaration step) o = not_declared v step

-- along the whole chain
pub completed : {p q : Part} {d n j k : ℕ} {ts rest : List Lexeme} → Inside p → op.Opens p d n ts q j k rest
    → Completed p ts rest
completed {ts = ts} v op.here = not_begun ts v
completed v (op.inner step c) = step_completed v step (λ w. completed w c)
