-- How operators bind. Levels count from an operand: 0 operand, 1 shift, 2 term, 3 sum, 4 relation, 5 LAND, 6 XOR,
-- 7 LOR, 8 comparison of bytes, 9 AND, 10 OR, which is a whole expression or condition.
use Rattle.std.specs.Prelude.{ℕ, suc, ◌-◌, ◌==◌, ◌||◌, Bool, true, false, if◌then◌else◌, nat_lt, List, [], ◌∷◌, Option, Some, None}
use Rattle.spl_tree.specs.declared.symbols.Symbol.{Symbol}
use Rattle.spl_tree.specs.declared.symbols.Symbol.TheVariants as s
use Rattle.spl_tree.specs.Symbols.{is_word}
use Rattle.spl_tree.specs.Trees as tree
use Prim.Native.String.{String}

-- the level of a whole expression or condition
abbrev pub whole_level : ℕ
whole_level = 10

-- The level of the operator with this number: OR 10, AND 9, LOR 7, XOR 6, LAND 5, the six relations 4, + and - 3,
-- * / MOD 2; 0 of a number that is no operator's.
unfoldable pub binds : ℕ → ℕ
binds op =
    if op == 0 then 10 else if op == 1 then 9 else if op == 2 then 7 else if op == 3 then 6 else if op == 4 then 5
    else if nat_lt op 11 then 4 else if nat_lt op 13 then 3 else if nat_lt op 16 then 2 else 0

-- + or -
abbrev pub is_sign : ℕ → Bool
is_sign op = op == 11 || op == 12

-- the number of a sign as an operator of one operand
abbrev pub sign_number : ℕ → ℕ
sign_number op = op - 11

-- A number token, which a minus at the front of a sum negates.
abbrev pub is_number : Symbol → Bool
is_number (s.Number v) = true
is_number (s.Wide v) = true
is_number _ = false

-- the value with its sign turned, in this many values
abbrev pub negated : ℕ → ℕ → ℕ
negated values v = if v == 0 then 0 else values - v

-- the number of a word in a list
abbrev pub number_among : List String → ℕ → List ℕ → Option ℕ
number_among [] n letters = None
number_among (w ∷ ws) n letters = if is_word letters w then Some n else number_among ws (suc n) letters

-- the number of a shift
unfoldable pub shift_of : List ℕ → Option ℕ
shift_of letters = number_among ("ASL" ∷ "ASR" ∷ "LSL" ∷ "LSR" ∷ "CSL" ∷ "CSR" ∷ []) 0 letters

-- What a part of an expression is, beside its tree: a reference as it stands, two of them with a relation between, or
-- anything else. A comparison of bytes wants the second; parentheses leave no trace in a tree.
pub data Form : Type 0 where
  reference : Form
  comparison : Form
  other : Form

-- what two operands of a relation make
abbrev pub compared : Form → Form → Form
compared reference reference = comparison
compared _ _ = other

-- a name with at most one expression in parentheses is a reference
abbrev pub form_of_call : List tree.Tree → Form
form_of_call (e ∷ []) = reference
form_of_call _ = other

-- the comparison of so many bytes that a relation of two references begins; its relation's number is 5 less
abbrev pub bytes_of : tree.Tree → tree.Tree → tree.Tree
bytes_of (tree.binary op a b at) count = tree.bytes (op - 5) a b count at
bytes_of e count = e
