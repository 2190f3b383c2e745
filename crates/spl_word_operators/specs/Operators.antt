-- Which operators over values of one word are proved. A further one makes it larger.
use Rattle.std.specs.Prelude.{ℕ, ◌==◌, ◌||◌, Bool}
use Rattle.spl_doubles.specs.spl_meaning.Kinds.{positive, negative, complement, times, is_relation}
use Rattle.spl_doubles.specs.spl_values.Reached.{is_sum}
use Rattle.spl_doubles.specs.spl_operators.Laws.{is_quotient, is_bitwise}

-- an operator of two operands by its number, none of AND and OR, and no relation: + - * / MOD, LOR, XOR and LAND
abbrev pub is_plain : ℕ → Bool
is_plain op = is_sum op || (op == times) || is_quotient op || is_bitwise op

-- such an operator, or a relation
abbrev pub is_covered_operator : ℕ → Bool
is_covered_operator op = is_relation op || is_plain op

-- one of one operand: NOT, + or -
abbrev pub is_covered_sign : ℕ → Bool
is_covered_sign op = (op == complement) || ((op == positive) || (op == negative))
