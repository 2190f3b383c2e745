-- What operators make of values, which are lists of words: one word, or two of a DOUBLE, its high word first.
use Rattle.std.specs.Prelude.{ℕ, ◌+◌, ◌-◌, ◌*◌, ◌/◌, ◌%◌, ◌==◌, not, Bool, true, false, if◌then◌else◌, nat_lt, List, [], ◌∷◌, Option, Some, None}
use Rattle.hp_word.specs.declared.arithmetic.Arith.{Arith}
use Rattle.hp_word.specs.declared.arithmetic.Wide.{Wide}
use Rattle.hp_word.specs.declared.arithmetic.Quotient.{Quotient}
use Rattle.hp_word.specs.declared.arithmetic.Code.{Code}
use Rattle.hp_word.specs.declared.arithmetic.Code.TheVariants.{Greater, Less, Equal}
use Rattle.hp_word.specs.declared.endings.Trap.TheVariants.{IntegerOverflow, DivideByZero}
use Rattle.hp_word.specs.declared.shifts.Shift.{Shift}
use Rattle.hp_word.specs.declared.shifts.Shift.TheVariants as shift
use Rattle.hp_word.specs.Words.{added, subtracted, multiplied, negated, divided, logically_added, logically_subtracted, logically_multiplied, logically_divided, double_added, double_subtracted, double_negated, words_compared, logically_compared, doubles_compared}
use Rattle.hp_word.specs.Bits.{bit, number_of, shifted, field}
use Rattle.hp_word.specs.Bytes.{double, high_word, low_word}
use Rattle.spl_tree.specs.declared.expressions.Kind.{Kind}
use Rattle.spl_tree.specs.declared.expressions.Kind.TheVariants as kind
use Rattle.spl_meaning.specs.Names.{truth_word}
use Rattle.spl_meaning.specs.Kinds.{Operand, of, const, Class, integers, logicals, doubles, class_of, is_relation, relation_number, works_on_bits, lor_operator, xor_operator, plus, minus, times, modulo, positive, negative}
use Rattle.spl_meaning.specs.States.{State, trapped, Outcome, done, ends, has_no_meaning}

-- a double as two words
abbrev pub double_words : ℕ → List ℕ
double_words d = high_word d ∷ low_word d ∷ []

-- the lowest bit of a word, which a condition tests
abbrev pub is_odd : ℕ → Bool
is_odd w = w % 2 == 1

-- ---- results

-- a result on words, or the trap where it is out of range
abbrev pub word_done : Arith → State → Outcome (List ℕ)
word_done r s = if r.overflow then ends (trapped IntegerOverflow) s else done (r.value ∷ []) s

-- the same of doubles
abbrev pub double_done : Wide → State → Outcome (List ℕ)
double_done r s = if r.overflow then ends (trapped IntegerOverflow) s else done (double_words r.value) s

-- a quotient, or its remainder; there is none where the divisor is zero
abbrev pub quotient_done : Bool → Option Quotient → State → Outcome (List ℕ)
quotient_done remainder None s = ends (trapped DivideByZero) s
quotient_done remainder (Some q) s =
    if q.overflow then ends (trapped IntegerOverflow) s else done ((if remainder then q.remainder else q.quotient) ∷ []) s

-- how a relation is answered by a comparison: = <> < > <= >= by their numbers
abbrev pub is_greater : Code → Bool
is_greater Greater = true
is_greater _ = false

-- the lower operand is the less
abbrev pub is_less : Code → Bool
is_less Less = true
is_less _ = false

-- the operands are equal
abbrev pub is_equal : Code → Bool
is_equal Equal = true
is_equal _ = false

-- a relation by its number holds
abbrev pub related : ℕ → Code → Bool
related op c =
    if op == 0 then is_equal c else if op == 1 then not (is_equal c) else if op == 2 then is_less c
    else if op == 3 then is_greater c else if op == 4 then not (is_greater c) else not (is_less c)

-- the answer of a relation: all ones, or zero
abbrev pub relation_done : ℕ → Code → State → Outcome (List ℕ)
relation_done op c s = done (truth_word (related op c) ∷ []) s

-- ---- + - * / MOD and the relations, by their numbers, on words and on doubles

-- two INTEGERs
abbrev pub on_integers : ℕ → ℕ → ℕ → State → Outcome (List ℕ)
on_integers op b a s =
    if is_relation op then relation_done (relation_number op) (words_compared b a) s
    else if op == plus then word_done (added b a) s
    else if op == minus then word_done (subtracted b a) s
    else if op == times then word_done (multiplied b a) s
    else quotient_done (op == modulo) (divided b a) s

-- two LOGICALs
abbrev pub on_logicals : ℕ → ℕ → ℕ → State → Outcome (List ℕ)
on_logicals op b a s =
    if is_relation op then relation_done (relation_number op) (logically_compared b a) s
    else if op == plus then done ((logically_added b a).value ∷ []) s
    else if op == minus then done ((logically_subtracted b a).value ∷ []) s
    else if op == times then done ((logically_multiplied b a).value % 65536 ∷ []) s
    else quotient_done (op == modulo) (logically_divided b a) s

-- two DOUBLEs
abbrev pub on_doubles : ℕ → ℕ → ℕ → State → Outcome (List ℕ)
on_doubles op b a s =
    if is_relation op then relation_done (relation_number op) (doubles_compared b a) s
    else if op == plus then double_done (double_added b a) s
    else double_done (double_subtracted b a) s

-- two operands of a class
abbrev pub by_class : Class → ℕ → List ℕ → List ℕ → State → Outcome (List ℕ)
by_class integers op (b ∷ []) (a ∷ []) s = on_integers op b a s
by_class logicals op (b ∷ []) (a ∷ []) s = on_logicals op b a s
by_class doubles op (h ∷ l ∷ []) (k ∷ m ∷ []) s = on_doubles op (double h l) (double k m) s
by_class _ op bs as' s = has_no_meaning s

-- ---- bits

-- LOR, XOR, LAND of two bits, by their numbers
abbrev pub bit_of : ℕ → ℕ → ℕ → ℕ
bit_of op b a =
    if op == lor_operator then (if b + a == 0 then 0 else 1)
    else if op == xor_operator then (b + a) % 2
    else b * a

-- all bits of two words
abbrev pub on_bits : ℕ → ℕ → ℕ → ℕ
on_bits op b a = number_of 16 (λ i. bit_of op (bit i b) (bit i a))

-- two single words
abbrev pub bits_done : ℕ → List ℕ → List ℕ → State → Outcome (List ℕ)
bits_done op (b ∷ []) (a ∷ []) s = done (on_bits op b a ∷ []) s
bits_done op bs as' s = has_no_meaning s

-- two operands of an operator but AND and OR, with the operation that their kinds take
abbrev pub joined : ℕ → Operand → Operand → List ℕ → List ℕ → State → Outcome (List ℕ)
joined op left right bs as' s = if works_on_bits op then bits_done op bs as' s else by_class (class_of left right) op bs as' s

-- ---- operators of one operand

-- minus: an integer operation for INTEGER and constants; 0 less the value, modulo 65,536, for LOGICAL and BYTE
abbrev pub minus_done : Operand → List ℕ → State → Outcome (List ℕ)
minus_done (of kind.Integer) (a ∷ []) s = word_done (negated a) s
minus_done const (a ∷ []) s = word_done (negated a) s
minus_done (of kind.Logical) (a ∷ []) s = done ((logically_subtracted 0 a).value ∷ []) s
minus_done (of kind.Byte) (a ∷ []) s = done ((logically_subtracted 0 a).value ∷ []) s
minus_done (of kind.Double) (h ∷ l ∷ []) s = double_done (double_negated (double h l)) s
minus_done _ vs s = has_no_meaning s

-- NOT: each bit turned
abbrev pub not_done : List ℕ → State → Outcome (List ℕ)
not_done (a ∷ []) s = done ((65535 - a) ∷ []) s
not_done vs s = has_no_meaning s

-- + - NOT, by their numbers
abbrev pub signed_done : ℕ → Operand → List ℕ → State → Outcome (List ℕ)
signed_done op k vs s = if op == positive then done vs s else if op == negative then minus_done k vs s else not_done vs s

-- the shifts by their numbers
abbrev pub shift_numbered : ℕ → Shift
shift_numbered op =
    if op == 0 then shift.Asl else if op == 1 then shift.Asr else if op == 2 then shift.Lsl else if op == 3 then shift.Lsr
    else if op == 4 then shift.Csl else shift.Csr

-- a shift of a single word
abbrev pub shift_done : ℕ → ℕ → List ℕ → State → Outcome (List ℕ)
shift_done op count (w ∷ []) s = done (shifted (shift_numbered op) w count ∷ []) s
shift_done op count vs s = has_no_meaning s

-- a bit field of a single word
abbrev pub field_done : ℕ → ℕ → List ℕ → State → Outcome (List ℕ)
field_done start size (w ∷ []) s = done (field w start size % 65536 ∷ []) s
field_done start size vs s = has_no_meaning s

-- ---- transfers

-- the right eight bits
abbrev pub right_byte : List ℕ → List ℕ
right_byte (w ∷ []) = w % 256 ∷ []
right_byte vs = vs

-- the single word of a value: itself, or the low word of a DOUBLE
abbrev pub with_single : List ℕ → State → (ℕ → Outcome (List ℕ)) → Outcome (List ℕ)
with_single (w ∷ []) s go = go w
with_single (h ∷ l ∷ []) s go = go l
with_single vs s go = has_no_meaning s

-- a word as a double: INTEGER and constants by their sign, LOGICAL and BYTE by zero; a DOUBLE is one
abbrev pub extended : Operand → List ℕ → State → Outcome (List ℕ)
extended (of kind.Integer) (w ∷ []) s = done ((if nat_lt w 32768 then 0 else 65535) ∷ w ∷ []) s
extended const (w ∷ []) s = done ((if nat_lt w 32768 then 0 else 65535) ∷ w ∷ []) s
extended (of kind.Double) (h ∷ l ∷ []) s = done (h ∷ l ∷ []) s
extended (of kind.Logical) (w ∷ []) s = done (0 ∷ w ∷ []) s
extended (of kind.Byte) (w ∷ []) s = done (0 ∷ w ∷ []) s
extended _ vs s = has_no_meaning s

-- a value of some kind taken as one of another
abbrev pub transferred : Kind → Operand → List ℕ → State → Outcome (List ℕ)
transferred kind.Integer from vs s = with_single vs s (λ w. done (w ∷ []) s)
transferred kind.Logical from vs s = with_single vs s (λ w. done (w ∷ []) s)
transferred kind.Byte from vs s = with_single vs s (λ w. done (w % 256 ∷ []) s)
transferred kind.Double from vs s = extended from vs s

-- what is kept of a value by a variable or a result of a kind: a BYTE keeps the right eight bits
abbrev pub kept : Kind → List ℕ → List ℕ
kept kind.Byte vs = right_byte vs
kept _ vs = vs

-- a value as a parameter of a kind holds it: a BYTE stands in the left half of its word
abbrev pub passed : Option Kind → List ℕ → State → Outcome (List ℕ)
passed (Some kind.Integer) (w ∷ []) s = done (w ∷ []) s
passed (Some kind.Logical) (w ∷ []) s = done (w ∷ []) s
passed (Some kind.Byte) (w ∷ []) s = done (256 * (w % 256) ∷ []) s
passed (Some kind.Double) (h ∷ l ∷ []) s = done (h ∷ l ∷ []) s
passed _ vs s = has_no_meaning s

-- the value of a result whose words these are
abbrev pub left_half : List ℕ → List ℕ
left_half (w ∷ []) = w / 256 ∷ []
left_half vs = vs

-- a result of a kind as its value
abbrev pub result_value : Kind → List ℕ → List ℕ
result_value kind.Byte vs = left_half vs
result_value _ vs = vs
