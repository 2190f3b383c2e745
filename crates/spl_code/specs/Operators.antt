-- What operators are in the code, behind the values of their operands.
use Rattle.std.specs.Prelude.{ℕ, ◌+◌, ◌%◌, ◌==◌, ◌&&◌, nat_le, min, if◌then◌else◌, List, [], ◌∷◌, ◌++◌, Option, Some}
use Rattle.spl_meaning.specs.spl_tree.declared.expressions.Kind.{Kind}
use Rattle.spl_meaning.specs.spl_tree.declared.expressions.Kind.TheVariants as kind
use Rattle.spl_meaning.specs.Kinds.{Operand, of, const, unknown, Class, integers, logicals, doubles, mixed, plus, minus, times, modulo, works_on_bits, lor_operator, xor_operator, positive, negative}
use Rattle.spl_branch.specs.declared.pieces.Piece.{Piece}
use Rattle.spl_code.specs.Instructions.{operate, shift, ZERO, DEL, DELB, DUP, XCH, CAB, LSL, ASR, ANDI, EXF}

-- ---- two operands

-- what is kept of quotient and remainder, the remainder on top
abbrev pub quotient_or_rest : ℕ → Piece
quotient_or_rest op = if op == modulo then DELB else DEL

-- + - * / MOD of INTEGERs: ADD, SUB, MPY, DIV
abbrev pub integer_operator : ℕ → List Piece
integer_operator op =
    if op == plus then operate 0o20 ∷ []
    else if op == minus then operate 0o21 ∷ []
    else if op == times then operate 0o22 ∷ []
    else operate 0o23 ∷ quotient_or_rest op ∷ []

-- of LOGICALs: LADD, LSUB, LMPY of which the low word stays, LDIV of the word with a zero as its high word
abbrev pub logical_operator : ℕ → List Piece
logical_operator op =
    if op == plus then operate 0o61 ∷ []
    else if op == minus then operate 0o62 ∷ []
    else if op == times then operate 0o63 ∷ DELB ∷ []
    else ZERO ∷ CAB ∷ CAB ∷ operate 0o64 ∷ quotient_or_rest op ∷ []

-- + - of DOUBLEs: DADD, DSUB
abbrev pub double_operator : ℕ → List Piece
double_operator op = if op == plus then operate 0o11 ∷ [] else operate 0o12 ∷ []

-- LOR, XOR, LAND: OR, XOR, AND
abbrev pub bit_operator : ℕ → List Piece
bit_operator op =
    if op == lor_operator then operate 0o66 ∷ [] else if op == xor_operator then operate 0o67 ∷ [] else operate 0o70 ∷ []

-- an operator on operands of a class
abbrev pub class_operator : Class → ℕ → List Piece
class_operator integers op = integer_operator op
class_operator logicals op = logical_operator op
class_operator doubles op = double_operator op
class_operator mixed op = []

-- an operator that is neither AND nor OR nor a relation
abbrev pub operator : Class → ℕ → List Piece
operator class op = if works_on_bits op then bit_operator op else class_operator class op

-- ---- relations

-- what compares two operands of a class: CMP, LCMP, DCMP
abbrev pub comparison : Class → List Piece
comparison integers = operate 0o17 ∷ []
comparison logicals = operate 0o60 ∷ []
comparison doubles = operate 0o10 ∷ []
comparison mixed = []

-- the codes in which a relation by its number does not hold, of = <> < > <= >=: 4 for CCG, 2 for CCE, 1 for CCL
abbrev pub failing_codes : ℕ → ℕ
failing_codes op =
    if op == 0 then 5 else if op == 1 then 2 else if op == 2 then 6
    else if op == 3 then 3 else if op == 4 then 4 else 1

-- ---- one operand

-- minus: NEG, DNEG, or the difference from zero
abbrev pub minus_operator : Operand → List Piece
minus_operator (of kind.Integer) = operate 0o24 ∷ []
minus_operator (of kind.Logical) = ZERO ∷ XCH ∷ operate 0o62 ∷ []
minus_operator (of kind.Byte) = ZERO ∷ XCH ∷ operate 0o62 ∷ []
minus_operator (of kind.Double) = operate 0o15 ∷ []
minus_operator const = operate 0o24 ∷ []
minus_operator unknown = []

-- + is nothing, NOT turns each bit
abbrev pub sign_operator : ℕ → Operand → List Piece
sign_operator op k = if op == positive then [] else if op == negative then minus_operator k else operate 0o65 ∷ []

-- a shift by its number: ASL ASR LSL LSR CSL CSR
abbrev pub shift_operator : ℕ → ℕ → List Piece
shift_operator op count = shift (min op 5) (count % 64) ∷ []

-- a field that lies within a word
abbrev pub field_operator : ℕ → ℕ → List Piece
field_operator start size = if nat_le 1 size && nat_le (start + size) 16 then EXF start size ∷ [] else []

-- the word of a value: of a DOUBLE its low one
abbrev pub single : Operand → List Piece
single (of kind.Double) = DELB ∷ []
single _ = []

-- a word as a double: INTEGERs and constants by their sign, LOGICALs and BYTEs by zero
abbrev pub extension : Operand → List Piece
extension (of kind.Integer) = DUP ∷ ASR 15 ∷ XCH ∷ []
extension const = DUP ∷ ASR 15 ∷ XCH ∷ []
extension (of kind.Logical) = ZERO ∷ XCH ∷ []
extension (of kind.Byte) = ZERO ∷ XCH ∷ []
extension (of kind.Double) = []
extension unknown = []

-- a value of some kind taken as one of another
abbrev pub transfer : Kind → Operand → List Piece
transfer kind.Integer from = single from
transfer kind.Logical from = single from
transfer kind.Byte from = single from ++ ANDI 255 ∷ []
transfer kind.Double from = extension from

-- a value as a parameter of a kind holds it: a BYTE in the left half of its word
abbrev pub as_parameter : Option Kind → List Piece
as_parameter (Some kind.Byte) = LSL 8 ∷ []
as_parameter _ = []
