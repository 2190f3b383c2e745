-- What operators make of words is known.
use Rattle.std.proofs.Common.{ℕ, zero, suc, ◌≡◌, ◌<◌, ◌≤◌, ◌+◌, ◌-◌, ◌*◌, ◌/◌, ◌%◌, ◌==◌, Bool, true, false, List, [], ◌∷◌, Option, Some, None, refl, subst, arith}
use Rattle.std.specs.Prelude.{int_div, int_rem, if◌then◌else◌, nat_lt}
use Rattle.spl_meaning.specs.hp_word.declared.arithmetic.Arith.{Arith}
use Rattle.spl_meaning.specs.hp_word.declared.arithmetic.Wide.{Wide}
use Rattle.spl_meaning.specs.hp_word.declared.arithmetic.Quotient.{Quotient}
use Rattle.spl_meaning.specs.hp_word.declared.arithmetic.Code.{Code}
use Rattle.spl_meaning.specs.hp_word.declared.endings.Trap.TheVariants.{IntegerOverflow, DivideByZero}
use Rattle.spl_meaning.specs.hp_word.Words.{signed, word_of, is_out_of_word, word_result, double_result, added, subtracted, multiplied, negated, divided, logically_added, logically_subtracted, logically_multiplied, logically_divided, double_added, double_subtracted, double_negated, words_compared, logically_compared, doubles_compared}
use Rattle.spl_meaning.specs.hp_word.Bits.{bit, shifted, field}
use Rattle.spl_meaning.specs.hp_word.Bytes.{double, high_word, low_word}
use Rattle.spl_meaning.proofs.hp_word_proofs.WordLaws.{word_of-below, double_of-below}
use Rattle.std.proofs.Math.Nat.{mod-le}
use Rattle.spl_meaning.proofs.hp_word_proofs.BitLemmas.{bit-small, number_of-below}
use Rattle.spl_meaning.proofs.hp_word_proofs.ShiftLemmas.{shifted-below}
use Rattle.spl_meaning.specs.spl_tree.declared.expressions.Kind.{Kind}
use Rattle.spl_meaning.specs.spl_tree.declared.expressions.Kind.TheVariants as kind
use Rattle.spl_meaning.specs.Names.{truth_word}
use Rattle.spl_meaning.specs.Kinds.{Operand, of, const, unknown, Class, integers, logicals, doubles, mixed, class_of, is_relation, relation_number, works_on_bits, plus, minus, times, modulo, positive, negative, lor_operator, xor_operator}
use Rattle.spl_meaning.specs.States.{trapped, done}
use Rattle.spl_meaning.specs.Operations.{word_done, double_done, quotient_done, relation_done, on_integers, on_logicals, on_doubles, by_class, bit_of, on_bits, bits_done, joined, minus_done, not_done, signed_done, shift_numbered, shift_done, field_done, double_words, related, with_single, extended, transferred, kept, passed, result_value}
use Rattle.spl_frames.specs.Words.{AllOf}
use Rattle.spl_frames.proofs.Steady.{Knowledge, Steady, steady_give, steady_word_of, steady_ends, steady_lost, steady_if, all_double}

-- ---- results are below 65,536, and doubles below 4,294,967,296

unfoldable results : ℕ
unfolding word_result double_result added subtracted multiplied negated logically_added logically_subtracted double_added double_subtracted double_negated
results = 0

added_below : (b a : ℕ) → (added b a).value < 65536
unfolding results
added_below b a = word_of-below _

subtracted_below : (b a : ℕ) → (subtracted b a).value < 65536
unfolding results
subtracted_below b a = word_of-below _

multiplied_below : (b a : ℕ) → (multiplied b a).value < 65536
unfolding results
multiplied_below b a = word_of-below _

negated_below : (a : ℕ) → (negated a).value < 65536
unfolding results
negated_below a = word_of-below _

logical_sum_below : (b a : ℕ) → (logically_added b a).value < 65536
unfolding results
logical_sum_below b a = word_of-below _

logical_difference_below : (b a : ℕ) → (logically_subtracted b a).value < 65536
unfolding results
logical_difference_below b a = word_of-below _

double_sum_below : (b a : ℕ) → (double_added b a).value < 4294967296
unfolding results
double_sum_below b a = double_of-below _

double_difference_below : (b a : ℕ) → (double_subtracted b a).value < 4294967296
unfolding results
double_difference_below b a = double_of-below _

double_negated_below : (a : ℕ) → (double_negated a).value < 4294967296
unfolding results
double_negated_below a = double_of-below _

truth_below : (b : Bool) → truth_word b < 65536
truth_below true = omega arith
truth_below false = omega arith

-- ---- parts

pub steady_truth : (v : Knowledge) (b : Bool) → Steady v (AllOf v.W) (λ s. done (truth_word b ∷ []) s)
steady_truth v b = steady_word_of v (truth_word b) (truth_below b)

pub steady_double : (v : Knowledge) (d : ℕ) → d < 4294967296 → Steady v (AllOf v.W) (λ s. done (double_words d) s)
unfolding high_word low_word
steady_double v d l = steady_give v (d / 65536 ∷ d % 65536 ∷ []) (all_double v d l)

pub steady_word_done : (v : Knowledge) (r : Arith) → r.value < 65536 → Steady v (AllOf v.W) (word_done r)
steady_word_done v r l = steady_if r.overflow (steady_ends v (trapped IntegerOverflow)) (steady_word_of v r.value l)

pub steady_added : (v : Knowledge) (b a : ℕ) → Steady v (AllOf v.W) (word_done (added b a))
steady_added v b a = steady_word_done v (added b a) (added_below b a)

steady_double_done : (v : Knowledge) (r : Wide) → r.value < 4294967296 → Steady v (AllOf v.W) (double_done r)
steady_double_done v r l = steady_if r.overflow (steady_ends v (trapped IntegerOverflow)) (steady_double v r.value l)

steady_quotient : (v : Knowledge) (rest : Bool) (o : Option Quotient)
    → ((q : Quotient) → o ≡ Some q → v.W q.quotient × v.W q.remainder) → Steady v (AllOf v.W) (quotient_done rest o)
steady_quotient v rest None h = steady_ends v (trapped DivideByZero)
steady_quotient v rest (Some q) h =
    steady_if q.overflow (steady_ends v (trapped IntegerOverflow)) (steady_give v ((if rest then q.remainder else q.quotient) ∷ []) (by rest, tt))
  where
    by : (t : Bool) → v.W (if t then q.remainder else q.quotient)
    by true = (h q refl).1
    by false = (h q refl).0

divided_known : (v : Knowledge) (b a : ℕ) (q : Quotient) → divided b a ≡ Some q → v.W q.quotient × v.W q.remainder
unfolding divided
divided_known v b a q e = by (a == 0) e
  where
    by : (t : Bool)
        → (if t then None else Some (record { quotient = word_of (int_div (signed b) (signed a)); remainder = word_of (int_rem (signed b) (signed a)); overflow = is_out_of_word (int_div (signed b) (signed a)) }))
        ≡ Some q → v.W q.quotient × v.W q.remainder
    by true e = cc
    by false e =
        let x : record { quotient = word_of (int_div (signed b) (signed a)); remainder = word_of (int_rem (signed b) (signed a)); overflow = is_out_of_word (int_div (signed b) (signed a)) } ≡ q = cc in
        subst (λ (q : Quotient). v.W q.quotient × v.W q.remainder) x
        (v.small _ (word_of-below (int_div (signed b) (signed a))), v.small _ (word_of-below (int_rem (signed b) (signed a))))

logically_divided_known : (v : Knowledge) (b a : ℕ) (q : Quotient) → v.W b → logically_divided b a ≡ Some q → v.W q.quotient × v.W q.remainder
unfolding logically_divided
logically_divided_known v b a q p e = by (a == 0) e
  where
    by : (t : Bool) → (if t then None else Some (record { quotient = b / a % 65536; remainder = b % a; overflow = false })) ≡ Some q
        → v.W q.quotient × v.W q.remainder
    by true e = cc
    by false e =
        let x : record { quotient = b / a % 65536; remainder = b % a; overflow = false } ≡ q = cc in
        subst (λ (q : Quotient). v.W q.quotient × v.W q.remainder) x (v.small (b / a % 65536) (omega arith), v.less b (b % a) p (mod-le b a))

steady_relation : (v : Knowledge) (op : ℕ) (c : Code) → Steady v (AllOf v.W) (relation_done op c)
steady_relation v op c = steady_truth v (related op c)

steady_integers : (v : Knowledge) (op x y : ℕ) → Steady v (AllOf v.W) (on_integers op x y)
steady_integers v op x y =
    steady_if (is_relation op) (steady_relation v (relation_number op) (words_compared x y))
    (steady_if (op == plus) (steady_added v x y)
    (steady_if (op == minus) (steady_word_done v (subtracted x y) (subtracted_below x y))
    (steady_if (op == times) (steady_word_done v (multiplied x y) (multiplied_below x y))
    (steady_quotient v (op == modulo) (divided x y) (λ q e. divided_known v x y q e)))))

steady_logicals : (v : Knowledge) (op x y : ℕ) → v.W x → Steady v (AllOf v.W) (on_logicals op x y)
steady_logicals v op x y p =
    steady_if (is_relation op) (steady_relation v (relation_number op) (logically_compared x y))
    (steady_if (op == plus) (steady_word_of v (logically_added x y).value (logical_sum_below x y))
    (steady_if (op == minus) (steady_word_of v (logically_subtracted x y).value (logical_difference_below x y))
    (steady_if (op == times) (steady_word_of v ((logically_multiplied x y).value % 65536) (omega arith))
    (steady_quotient v (op == modulo) (logically_divided x y) (λ q e. logically_divided_known v x y q p e)))))

steady_doubles : (v : Knowledge) (op x y : ℕ) → Steady v (AllOf v.W) (on_doubles op x y)
steady_doubles v op x y =
    steady_if (is_relation op) (steady_relation v (relation_number op) (doubles_compared x y))
    (steady_if (op == plus) (steady_double_done v (double_added x y) (double_sum_below x y))
    (steady_double_done v (double_subtracted x y) (double_difference_below x y)))

steady_by_class : (v : Knowledge) (c : Class) (op : ℕ) (xs ys : List ℕ) → AllOf v.W xs → Steady v (AllOf v.W) (by_class c op xs ys)
steady_by_class v integers op [] ys p = steady_lost v
steady_by_class v integers op (x ∷ []) [] p = steady_lost v
steady_by_class v integers op (x ∷ []) (y ∷ []) p = steady_integers v op x y
steady_by_class v integers op (x ∷ []) (y ∷ z ∷ ys) p = steady_lost v
steady_by_class v integers op (x ∷ w ∷ xs) ys p = steady_lost v
steady_by_class v logicals op [] ys p = steady_lost v
steady_by_class v logicals op (x ∷ []) [] p = steady_lost v
steady_by_class v logicals op (x ∷ []) (y ∷ []) p = steady_logicals v op x y p.0
steady_by_class v logicals op (x ∷ []) (y ∷ z ∷ ys) p = steady_lost v
steady_by_class v logicals op (x ∷ w ∷ xs) ys p = steady_lost v
steady_by_class v doubles op [] ys p = steady_lost v
steady_by_class v doubles op (h ∷ []) ys p = steady_lost v
steady_by_class v doubles op (h ∷ l ∷ []) [] p = steady_lost v
steady_by_class v doubles op (h ∷ l ∷ []) (k ∷ []) p = steady_lost v
steady_by_class v doubles op (h ∷ l ∷ []) (k ∷ m ∷ []) p = steady_doubles v op (double h l) (double k m)
steady_by_class v doubles op (h ∷ l ∷ []) (k ∷ m ∷ z ∷ ys) p = steady_lost v
steady_by_class v doubles op (h ∷ l ∷ w ∷ xs) ys p = steady_lost v
steady_by_class v mixed op xs ys p = steady_lost v

-- a bit of two bits is one
bit_of_below : (op b a : ℕ) → b ≤ 1 → a ≤ 1 → bit_of op b a ≤ 1
bit_of_below op b a p q = by (op == lor_operator) (op == xor_operator) (b + a == 0)
  where
    product : (b a : ℕ) → b ≤ 1 → a ≤ 1 → b * a ≤ 1
    product zero a p q = omega arith
    product (suc zero) a p q = omega (arith, q)
    product (suc (suc b)) a p q = absurd (omega (arith, p))

    by : (s t u : Bool) → (if s then (if u then 0 else 1) else if t then (b + a) % 2 else b * a) ≤ 1
    by true t true = omega arith
    by true t false = omega arith
    by false true u = omega arith
    by false false u = product b a p q

bits_below : (op b a : ℕ) → on_bits op b a < 65536
bits_below op b a = number_of-below 16 (λ i. bit_of op (bit i b) (bit i a)) (λ i. bit_of_below op (bit i b) (bit i a) (bit-small i b) (bit-small i a))

steady_bits : (v : Knowledge) (op : ℕ) (xs ys : List ℕ) → Steady v (AllOf v.W) (bits_done op xs ys)
steady_bits v op [] ys = steady_lost v
steady_bits v op (x ∷ []) [] = steady_lost v
steady_bits v op (x ∷ []) (y ∷ []) = steady_word_of v (on_bits op x y) (bits_below op x y)
steady_bits v op (x ∷ []) (y ∷ z ∷ ys) = steady_lost v
steady_bits v op (x ∷ w ∷ xs) ys = steady_lost v

pub steady_joined : (v : Knowledge) (op : ℕ) (l r : Operand) (xs ys : List ℕ) → AllOf v.W xs → Steady v (AllOf v.W) (joined op l r xs ys)
steady_joined v op l r xs ys p = steady_if (works_on_bits op) (steady_bits v op xs ys) (steady_by_class v (class_of l r) op xs ys p)

steady_minus : (v : Knowledge) (k : Operand) (vs : List ℕ) → Steady v (AllOf v.W) (minus_done k vs)
steady_minus v (of kind.Integer) [] = steady_lost v
steady_minus v (of kind.Integer) (a ∷ []) = steady_word_done v (negated a) (negated_below a)
steady_minus v (of kind.Integer) (a ∷ c ∷ vs) = steady_lost v
steady_minus v const [] = steady_lost v
steady_minus v const (a ∷ []) = steady_word_done v (negated a) (negated_below a)
steady_minus v const (a ∷ c ∷ vs) = steady_lost v
steady_minus v (of kind.Logical) [] = steady_lost v
steady_minus v (of kind.Logical) (a ∷ []) = steady_word_of v (logically_subtracted 0 a).value (logical_difference_below 0 a)
steady_minus v (of kind.Logical) (a ∷ c ∷ vs) = steady_lost v
steady_minus v (of kind.Byte) [] = steady_lost v
steady_minus v (of kind.Byte) (a ∷ []) = steady_word_of v (logically_subtracted 0 a).value (logical_difference_below 0 a)
steady_minus v (of kind.Byte) (a ∷ c ∷ vs) = steady_lost v
steady_minus v (of kind.Double) [] = steady_lost v
steady_minus v (of kind.Double) (h ∷ []) = steady_lost v
steady_minus v (of kind.Double) (h ∷ l ∷ []) = steady_double_done v (double_negated (double h l)) (double_negated_below (double h l))
steady_minus v (of kind.Double) (h ∷ l ∷ c ∷ vs) = steady_lost v
steady_minus v unknown vs = steady_lost v

steady_not : (v : Knowledge) (vs : List ℕ) → Steady v (AllOf v.W) (not_done vs)
steady_not v [] = steady_lost v
steady_not v (a ∷ []) = steady_word_of v (65535 - a) (omega arith)
steady_not v (a ∷ c ∷ vs) = steady_lost v

pub steady_signed : (v : Knowledge) (op : ℕ) (k : Operand) (vs : List ℕ) → AllOf v.W vs → Steady v (AllOf v.W) (signed_done op k vs)
steady_signed v op k vs p = steady_if (op == positive) (steady_give v vs p) (steady_if (op == negative) (steady_minus v k vs) (steady_not v vs))

pub steady_shift : (v : Knowledge) (op count : ℕ) (vs : List ℕ) → Steady v (AllOf v.W) (shift_done op count vs)
steady_shift v op count [] = steady_lost v
steady_shift v op count (w ∷ []) = steady_word_of v (shifted (shift_numbered op) w count) (shifted-below (shift_numbered op) w count)
steady_shift v op count (w ∷ x ∷ vs) = steady_lost v

pub steady_field : (v : Knowledge) (start size : ℕ) (vs : List ℕ) → Steady v (AllOf v.W) (field_done start size vs)
steady_field v start size [] = steady_lost v
steady_field v start size (w ∷ []) = steady_word_of v (field w start size % 65536) (omega arith)
steady_field v start size (w ∷ x ∷ vs) = steady_lost v

-- ---- transfers, and what is kept and passed

steady_single : (v : Knowledge) (vs : List ℕ) (f : ℕ → ℕ) → ((w : ℕ) → v.W w → v.W (f w)) → AllOf v.W vs
    → Steady v (AllOf v.W) (λ s. with_single vs s (λ w. done (f w ∷ []) s))
steady_single v [] f h p = steady_lost v
steady_single v (w ∷ []) f h p = steady_give v (f w ∷ []) (h w p.0, tt)
steady_single v (x ∷ w ∷ []) f h p = steady_give v (f w ∷ []) (h w p.1.0, tt)
steady_single v (x ∷ w ∷ y ∷ vs) f h p = steady_lost v

sign_known : (v : Knowledge) (w : ℕ) → v.W w → AllOf v.W ((if nat_lt w 32768 then 0 else 65535) ∷ w ∷ [])
sign_known v w p = (by (nat_lt w 32768), (p, tt))
  where
    by : (t : Bool) → v.W (if t then 0 else 65535)
    by true = v.small 0 (omega arith)
    by false = v.small 65535 (omega arith)

zero_known : (v : Knowledge) (w : ℕ) → v.W w → AllOf v.W (0 ∷ w ∷ [])
zero_known v w p = (v.small 0 (omega arith), (p, tt))

steady_extended : (v : Knowledge) (k : Operand) (vs : List ℕ) → AllOf v.W vs → Steady v (AllOf v.W) (extended k vs)
steady_extended v (of kind.Integer) [] p = steady_lost v
steady_extended v (of kind.Integer) (w ∷ []) p = steady_give v ((if nat_lt w 32768 then 0 else 65535) ∷ w ∷ []) (sign_known v w p.0)
steady_extended v (of kind.Integer) (w ∷ x ∷ vs) p = steady_lost v
steady_extended v const [] p = steady_lost v
steady_extended v const (w ∷ []) p = steady_give v ((if nat_lt w 32768 then 0 else 65535) ∷ w ∷ []) (sign_known v w p.0)
steady_extended v const (w ∷ x ∷ vs) p = steady_lost v
steady_extended v (of kind.Double) [] p = steady_lost v
steady_extended v (of kind.Double) (h ∷ []) p = steady_lost v
steady_extended v (of kind.Double) (h ∷ l ∷ []) p = steady_give v (h ∷ l ∷ []) p
steady_extended v (of kind.Double) (h ∷ l ∷ w ∷ vs) p = steady_lost v
steady_extended v (of kind.Logical) [] p = steady_lost v
steady_extended v (of kind.Logical) (w ∷ []) p = steady_give v (0 ∷ w ∷ []) (zero_known v w p.0)
steady_extended v (of kind.Logical) (w ∷ x ∷ vs) p = steady_lost v
steady_extended v (of kind.Byte) [] p = steady_lost v
steady_extended v (of kind.Byte) (w ∷ []) p = steady_give v (0 ∷ w ∷ []) (zero_known v w p.0)
steady_extended v (of kind.Byte) (w ∷ x ∷ vs) p = steady_lost v
steady_extended v unknown vs p = steady_lost v

pub steady_transferred : (v : Knowledge) (k : Kind) (from : Operand) (vs : List ℕ) → AllOf v.W vs → Steady v (AllOf v.W) (transferred k from vs)
steady_transferred v kind.Integer from vs p = steady_single v vs (λ w. w) (λ w q. q) p
steady_transferred v kind.Logical from vs p = steady_single v vs (λ w. w) (λ w q. q) p
steady_transferred v kind.Byte from vs p = steady_single v vs (λ w. w % 256) (λ w q. v.small (w % 256) (omega arith)) p
steady_transferred v kind.Double from vs p = steady_extended v from vs p

pub steady_passed_value : (v : Knowledge) (k : Option Kind) (vs : List ℕ) → AllOf v.W vs → Steady v (AllOf v.W) (passed k vs)
steady_passed_value v None vs p = steady_lost v
steady_passed_value v (Some kind.Integer) [] p = steady_lost v
steady_passed_value v (Some kind.Integer) (w ∷ []) p = steady_give v (w ∷ []) p
steady_passed_value v (Some kind.Integer) (w ∷ x ∷ vs) p = steady_lost v
steady_passed_value v (Some kind.Logical) [] p = steady_lost v
steady_passed_value v (Some kind.Logical) (w ∷ []) p = steady_give v (w ∷ []) p
steady_passed_value v (Some kind.Logical) (w ∷ x ∷ vs) p = steady_lost v
steady_passed_value v (Some kind.Byte) [] p = steady_lost v
steady_passed_value v (Some kind.Byte) (w ∷ []) p = steady_word_of v (256 * (w % 256)) (omega arith)
steady_passed_value v (Some kind.Byte) (w ∷ x ∷ vs) p = steady_lost v
steady_passed_value v (Some kind.Double) [] p = steady_lost v
steady_passed_value v (Some kind.Double) (h ∷ []) p = steady_lost v
steady_passed_value v (Some kind.Double) (h ∷ l ∷ []) p = steady_give v (h ∷ l ∷ []) p
steady_passed_value v (Some kind.Double) (h ∷ l ∷ w ∷ vs) p = steady_lost v

pub kept_known : (v : Knowledge) (k : Kind) (vs : List ℕ) → AllOf v.W vs → AllOf v.W (kept k vs)
kept_known v kind.Integer vs p = p
kept_known v kind.Logical vs p = p
kept_known v kind.Double vs p = p
kept_known v kind.Byte [] p = p
kept_known v kind.Byte (w ∷ []) p = (v.small (w % 256) (omega arith), tt)
kept_known v kind.Byte (w ∷ x ∷ vs) p = p

pub result_known : (v : Knowledge) (k : Kind) (vs : List ℕ) → AllOf v.W vs → AllOf v.W (result_value k vs)
result_known v kind.Integer vs p = p
result_known v kind.Logical vs p = p
result_known v kind.Double vs p = p
result_known v kind.Byte [] p = p
result_known v kind.Byte (w ∷ []) p = (v.less w (w / 256) p.0 (omega arith), tt)
result_known v kind.Byte (w ∷ x ∷ vs) p = p
