-- Operators of one operand, whatever is wanted of them: NOT, signs, shifts, fields and transfers.
use Rattle.std.proofs.Common.{◌≡◌, ℕ, ◌+◌, ◌≤◌, ◌<◌, Bool, true, List, [], ◌∷◌, refl, sym, subst}
use Rattle.std.specs.Prelude.{◌==◌, ◌&&◌, ◌||◌, nat_le, if◌then◌else◌}
use Rattle.std.proofs.lemmas.Bool.{eqb-true, false≢true}
use Rattle.std.proofs.Math.Logic.{⊎_elim}
use Rattle.spl_doubles.specs.spl_tree.declared.expressions.Kind.{Kind}
use Rattle.spl_doubles.specs.spl_tree.declared.expressions.Kind.TheVariants as kind
use Rattle.spl_doubles.specs.spl_meaning.Kinds.{Operand, of, const, unknown, positive, negative, complement, minus_operand, unary_operand}
use Rattle.spl_doubles.specs.spl_meaning.Operations.{signed_done, shift_done, field_done, transferred}
use Rattle.spl_doubles.specs.spl_meaning.States.{State, Outcome, then_go}
use Rattle.spl_doubles.specs.spl_code.Parts.{Part, pieces, ◌⨟◌}
use Rattle.spl_doubles.specs.spl_code.Operators.{minus_operator, sign_operator, shift_operator, field_operator, transfer}
use Rattle.spl_doubles.specs.spl_code.Code.{Aim, as_value, closing}
use Rattle.spl_doubles.specs.spl_code.Instructions.{EXF}
use Rattle.spl_doubles.specs.spl_follow.Standing.{IsClosed}
use Rattle.spl_doubles.specs.spl_follow.Simulating.{Surroundings, Simulates}
use Rattle.spl_doubles.specs.spl_values.Reached.{IsWhole}
use Rattle.spl_doubles.proofs.spl_values_proofs.WholeLemmas.{whole_last, whole_behind}
use Rattle.spl_doubles.proofs.spl_conditions_proofs.ConditionLemmas.{closed_values}
use Rattle.spl_doubles.proofs.spl_conditions_proofs.ComplementLemmas.{complements}
use Rattle.spl_doubles.specs.spl_operators.Laws.{is_word_operand, is_single}
use Rattle.spl_doubles.proofs.spl_operators_proofs.SingleLemmas.{sign_cases, signs, shifts, fields, transfers}
use Rattle.spl_word_operators.specs.Operators.{is_covered_sign}
use Rattle.spl_word_operators.proofs.OperatorLemmas.{closing_whole, either}

-- ---- signs

-- minus of what has one word has one word, and its code closes
minus_word : (x : Operand) → is_word_operand x ≡ true → is_word_operand (minus_operand x) ≡ true
minus_word (of kind.Integer) e = refl
minus_word (of kind.Logical) e = refl
minus_word (of kind.Byte) e = refl
minus_word (of kind.Double) e = absurd (false≢true e)
minus_word const e = refl
minus_word unknown e = absurd (false≢true e)

minus_closes : (x : Operand) → is_word_operand x ≡ true → IsClosed (minus_operator x)
minus_closes (of kind.Integer) e = refl
minus_closes (of kind.Logical) e = refl
minus_closes (of kind.Byte) e = refl
minus_closes (of kind.Double) e = absurd (false≢true e)
minus_closes const e = refl
minus_closes unknown e = absurd (false≢true e)

-- what holds of NOT, + and - holds of each sign
sign_all : (P : ℕ → Type 0) → P complement → P positive → P negative → (o : ℕ) → is_covered_sign o ≡ true → P o
sign_all P p1 p2 p3 o e =
    ⊎_elim (λ i. subst P (sym (eqb-true o complement i)) p1) (λ i. ⊎_elim (λ is. subst P (sym is) p2) (λ is. subst P (sym is) p3) (sign_cases o i))
    (either (o == complement) ((o == positive) || (o == negative)) e)

-- the result has one word
pub sign_word : (o : ℕ) (x : Operand) → is_covered_sign o ≡ true → is_word_operand x ≡ true → is_word_operand (unary_operand o x) ≡ true
sign_word o x e one = sign_all (λ n. is_word_operand (unary_operand n x) ≡ true) refl one (minus_word x one) o e

-- the code behind the operand
sign_part : (o : ℕ) (x : Operand) (a : Part) → is_covered_sign o ≡ true → is_word_operand x ≡ true → IsWhole a → IsWhole (a ⨟ pieces (sign_operator o x))
sign_part o x a e one whole =
    sign_all (λ n. IsWhole (a ⨟ pieces (sign_operator n x))) (whole_behind a (sign_operator complement x) whole refl) (whole_last a whole)
    (whole_behind a (minus_operator x) whole (minus_closes x one)) o e

pub sign_whole : (o : ℕ) (x : Operand) (aim : Aim) (a : Part) → is_covered_sign o ≡ true → is_word_operand x ≡ true → IsWhole a
    → IsWhole (a ⨟ pieces (sign_operator o x) ⨟ closing aim)
sign_whole o x aim a e one whole = closing_whole (a ⨟ pieces (sign_operator o x)) aim (sign_part o x a e one whole)

pub sign_simulates : (z : Surroundings) (d k need o : ℕ) (x : Operand) (aim : Aim) (a : Part) (meaning : State → Outcome (List ℕ)) → is_covered_sign o ≡ true
    → is_word_operand x ≡ true → 2 ≤ need → IsWhole a → Simulates z d as_value 1 k need a meaning
    → Simulates z d aim 1 k need (a ⨟ pieces (sign_operator o x) ⨟ closing aim) (λ s. then_go (meaning s) (λ vs t. signed_done o x vs t))
sign_simulates z d k need o x aim a meaning e one enough whole sa =
    closed_values z d k need aim (a ⨟ pieces (sign_operator o x)) (λ s. then_go (meaning s) (λ vs t. signed_done o x vs t)) (sign_part o x a e one whole)
    (sign_all (λ n. Simulates z d as_value 1 k need (a ⨟ pieces (sign_operator n x)) (λ s. then_go (meaning s) (λ vs t. signed_done n x vs t)))
    (complements z d k need x a meaning whole sa) (signs z d k need positive x a meaning refl one enough whole sa)
    (signs z d k need negative x a meaning refl one enough whole sa) o e)

-- ---- shifts

pub shift_whole : (o count : ℕ) (aim : Aim) (a : Part) → IsWhole a → IsWhole (a ⨟ pieces (shift_operator o count) ⨟ closing aim)
shift_whole o count aim a whole =
    closing_whole (a ⨟ pieces (shift_operator o count)) aim (whole_behind a (shift_operator o count) whole refl)

pub shift_simulates : (z : Surroundings) (d k need o count : ℕ) (aim : Aim) (a : Part) (meaning : State → Outcome (List ℕ)) → o < 6 → count < 64 → IsWhole a
    → Simulates z d as_value 1 k need a meaning
    → Simulates z d aim 1 k need (a ⨟ pieces (shift_operator o count) ⨟ closing aim) (λ s. then_go (meaning s) (λ vs t. shift_done o count vs t))
shift_simulates z d k need o count aim a meaning low few whole x =
    closed_values z d k need aim (a ⨟ pieces (shift_operator o count)) (λ s. then_go (meaning s) (λ vs t. shift_done o count vs t))
    (whole_behind a (shift_operator o count) whole refl) (shifts z d k need o count a meaning low few whole x)

-- ---- fields

field_part : (start size : ℕ) (a : Part) → (nat_le 1 size && nat_le (start + size) 16) ≡ true → IsWhole a → IsWhole (a ⨟ pieces (field_operator start size))
field_part start size a e whole =
    subst (λ (b : Bool). IsWhole (a ⨟ pieces (if b then EXF start size ∷ [] else []))) (sym e) (whole_behind a (EXF start size ∷ []) whole refl)

pub field_whole : (start size : ℕ) (aim : Aim) (a : Part) → (nat_le 1 size && nat_le (start + size) 16) ≡ true → IsWhole a
    → IsWhole (a ⨟ pieces (field_operator start size) ⨟ closing aim)
field_whole start size aim a e whole = closing_whole (a ⨟ pieces (field_operator start size)) aim (field_part start size a e whole)

pub field_simulates : (z : Surroundings) (d k need start size : ℕ) (aim : Aim) (a : Part) (meaning : State → Outcome (List ℕ))
    → (nat_le 1 size && nat_le (start + size) 16) ≡ true → IsWhole a → Simulates z d as_value 1 k need a meaning
    → Simulates z d aim 1 k need (a ⨟ pieces (field_operator start size) ⨟ closing aim) (λ s. then_go (meaning s) (λ vs t. field_done start size vs t))
field_simulates z d k need start size aim a meaning e whole x =
    closed_values z d k need aim (a ⨟ pieces (field_operator start size)) (λ s. then_go (meaning s) (λ vs t. field_done start size vs t))
    (field_part start size a e whole) (fields z d k need start size a meaning e whole x)

-- ---- transfers

-- the code behind the operand: nothing, or the right eight bits
transfer_part : (to : Kind) (x : Operand) (a : Part) → is_single to ≡ true → is_word_operand x ≡ true → IsWhole a → IsWhole (a ⨟ pieces (transfer to x))
transfer_part kind.Integer (of kind.Integer) a one word whole = whole_last a whole
transfer_part kind.Integer (of kind.Logical) a one word whole = whole_last a whole
transfer_part kind.Integer (of kind.Byte) a one word whole = whole_last a whole
transfer_part kind.Integer const a one word whole = whole_last a whole
transfer_part kind.Logical (of kind.Integer) a one word whole = whole_last a whole
transfer_part kind.Logical (of kind.Logical) a one word whole = whole_last a whole
transfer_part kind.Logical (of kind.Byte) a one word whole = whole_last a whole
transfer_part kind.Logical const a one word whole = whole_last a whole
transfer_part kind.Byte (of kind.Integer) a one word whole = whole_behind a (transfer kind.Byte (of kind.Integer)) whole refl
transfer_part kind.Byte (of kind.Logical) a one word whole = whole_behind a (transfer kind.Byte (of kind.Logical)) whole refl
transfer_part kind.Byte (of kind.Byte) a one word whole = whole_behind a (transfer kind.Byte (of kind.Byte)) whole refl
transfer_part kind.Byte const a one word whole = whole_behind a (transfer kind.Byte const) whole refl
transfer_part kind.Integer (of kind.Double) a one word whole = absurd (false≢true word)
transfer_part kind.Logical (of kind.Double) a one word whole = absurd (false≢true word)
transfer_part kind.Byte (of kind.Double) a one word whole = absurd (false≢true word)
transfer_part kind.Integer unknown a one word whole = absurd (false≢true word)
transfer_part kind.Logical unknown a one word whole = absurd (false≢true word)
transfer_part kind.Byte unknown a one word whole = absurd (false≢true word)
transfer_part kind.Double x a one word whole = absurd (false≢true one)

pub transfer_whole : (to : Kind) (x : Operand) (aim : Aim) (a : Part) → is_single to ≡ true → is_word_operand x ≡ true → IsWhole a
    → IsWhole (a ⨟ pieces (transfer to x) ⨟ closing aim)
transfer_whole to x aim a one word whole = closing_whole (a ⨟ pieces (transfer to x)) aim (transfer_part to x a one word whole)

pub transfer_simulates : (z : Surroundings) (d k need : ℕ) (to : Kind) (x : Operand) (aim : Aim) (a : Part) (meaning : State → Outcome (List ℕ))
    → is_single to ≡ true → is_word_operand x ≡ true → IsWhole a → Simulates z d as_value 1 k need a meaning
    → Simulates z d aim 1 k need (a ⨟ pieces (transfer to x) ⨟ closing aim) (λ s. then_go (meaning s) (λ vs t. transferred to x vs t))
transfer_simulates z d k need to x aim a meaning one word whole sa =
    closed_values z d k need aim (a ⨟ pieces (transfer to x)) (λ s. then_go (meaning s) (λ vs t. transferred to x vs t)) (transfer_part to x a one word whole)
    (transfers z d k need to x a meaning one word whole sa)
