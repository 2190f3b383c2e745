-- Kinds of expressions, and what operators do with them.
use Rattle.std.specs.Prelude.{ℕ, ◌-◌, ◌==◌, ◌&&◌, Bool, true, false, nat_lt, nat_le, if◌then◌else◌, length, Option, Some, None}
use Rattle.spl_tree.specs.declared.expressions.Kind.{Kind}
use Rattle.spl_tree.specs.declared.expressions.Kind.TheVariants as kind
use Rattle.spl_tree.specs.Trees as tree
use Rattle.spl_tree.specs.Trees.{Tree, Trees}
use Rattle.spl_meaning.specs.Names as n
use Rattle.spl_meaning.specs.Names.{Names, Sort, Profile, intrinsic_profile}

-- what an expression is: a value of a kind, a constant of one word, or nothing known, where a part of it is wrong
pub data Operand : Type 0 where
  of : Kind → Operand
  const : Operand
  unknown : Operand

-- what a call gives
abbrev pub result_of : Option Kind → Operand
result_of (Some k) = of k
result_of None = unknown

-- a name in an expression
abbrev pub named_operand : Option Sort → Operand
named_operand (Some (n.simple k own)) = of k
named_operand (Some (n.array k own low high)) = of k
named_operand (Some (n.view k own base)) = of k
named_operand (Some (n.pointer k own)) = of k
named_operand (Some (n.value k)) = of k
named_operand (Some (n.by_reference k)) = of k
named_operand (Some (n.array_parameter k)) = of k
named_operand (Some (n.equate v)) = const
named_operand (Some (n.intrinsic i)) = result_of (intrinsic_profile i).result
named_operand (Some (n.procedure p)) = result_of p.result
named_operand (Some (n.subroutine p)) = result_of p.result
named_operand _ = unknown

-- INTEGER, or a constant
abbrev pub is_integer : Operand → Bool
is_integer (of kind.Integer) = true
is_integer const = true
is_integer _ = false

-- LOGICAL or BYTE
abbrev pub is_logical : Operand → Bool
is_logical (of kind.Logical) = true
is_logical (of kind.Byte) = true
is_logical _ = false

-- a constant of one word
abbrev pub is_constant : Operand → Bool
is_constant const = true
is_constant _ = false

-- DOUBLE
abbrev pub is_double : Operand → Bool
is_double (of kind.Double) = true
is_double _ = false

-- nothing is known of it
abbrev pub is_unknown : Operand → Bool
is_unknown unknown = true
is_unknown _ = false

-- which operation two operands of + - * / MOD or a relation take
pub data Class : Type 0 where
  integers : Class
  logicals : Class
  doubles : Class
  mixed : Class

-- integers with integers or constants; LOGICAL or BYTE with these or constants; doubles with doubles
abbrev pub class_of : Operand → Operand → Class
class_of a b =
    if is_integer a && is_integer b then integers
    else if is_logical a && is_logical b then logicals
    else if is_logical a && is_constant b then logicals
    else if is_constant a && is_logical b then logicals
    else if is_double a && is_double b then doubles
    else mixed

-- the kind of the result of an operation
abbrev pub class_operand : Class → Operand
class_operand integers = of kind.Integer
class_operand logicals = of kind.Logical
class_operand doubles = of kind.Double
class_operand mixed = unknown

-- ---- operators by their numbers: OR AND LOR XOR LAND = <> < > <= >= + - * / MOD from 0 on

-- OR
abbrev pub or_operator : ℕ
or_operator = 0

-- LOR
abbrev pub lor_operator : ℕ
lor_operator = 2

-- XOR
abbrev pub xor_operator : ℕ
xor_operator = 3

-- +
abbrev pub plus : ℕ
plus = 11

-- -
abbrev pub minus : ℕ
minus = 12

-- *
abbrev pub times : ℕ
times = 13

-- MOD
abbrev pub modulo : ℕ
modulo = 15

-- of operators of one operand: + that leaves a value
abbrev pub positive : ℕ
positive = 0

-- - that negates it
abbrev pub negative : ℕ
negative = 1

-- NOT
abbrev pub complement : ℕ
complement = 2

-- OR and AND
abbrev pub is_connective : ℕ → Bool
is_connective op = nat_lt op 2

-- OR, AND, LOR, XOR and LAND
abbrev pub works_on_bits : ℕ → Bool
works_on_bits op = nat_lt op 5

-- the six relations
abbrev pub is_relation : ℕ → Bool
is_relation op = nat_le 5 op && nat_lt op 11

-- the number of a relation among relations
abbrev pub relation_number : ℕ → ℕ
relation_number op = op - 5

-- those that give a LOGICAL: all but + - * / MOD
abbrev pub gives_logical : ℕ → Bool
gives_logical op = nat_lt op 11

-- * / MOD
abbrev pub multiplies : ℕ → Bool
multiplies op = nat_le 13 op

-- the kind of what an operator makes of two operands
abbrev pub binary_operand : ℕ → Operand → Operand → Operand
binary_operand op a b = if gives_logical op then of kind.Logical else class_operand (class_of a b)

-- minus: a LOGICAL or BYTE gives LOGICAL, a constant INTEGER
abbrev pub minus_operand : Operand → Operand
minus_operand (of kind.Integer) = of kind.Integer
minus_operand (of kind.Logical) = of kind.Logical
minus_operand (of kind.Byte) = of kind.Logical
minus_operand (of kind.Double) = of kind.Double
minus_operand const = of kind.Integer
minus_operand unknown = unknown

-- + keeps the kind, NOT gives LOGICAL
abbrev pub unary_operand : ℕ → Operand → Operand
unary_operand op a = if op == positive then a else if op == negative then minus_operand a else of kind.Logical

-- the kind of an expression
abbrev pub kind_of : Names → Tree → Operand
kind_of names (tree.Tree.number v) = const
kind_of names (tree.Tree.wide v) = of kind.Double
kind_of names (tree.Tree.text bytes) = const
kind_of names (tree.Tree.truth b) = const
kind_of names (tree.Tree.named x es at) = named_operand (names x)
kind_of names (tree.Tree.address x es at) = of kind.Logical
kind_of names (tree.Tree.unary op e at) = unary_operand op (kind_of names e)
kind_of names (tree.Tree.binary op a b at) = binary_operand op (kind_of names a) (kind_of names b)
kind_of names (tree.Tree.shift op e by at) = of kind.Logical
kind_of names (tree.Tree.field e start size at) = of kind.Logical
kind_of names (tree.Tree.transfer k e at) = of k
kind_of names (tree.Tree.bytes op a b count at) = of kind.Logical

-- ---- widths, in words

-- the words of a value of a kind
abbrev pub width : Kind → ℕ
width kind.Double = 2
width _ = 1

-- the words of an operand
abbrev pub operand_width : Operand → ℕ
operand_width (of k) = width k
operand_width _ = 1

-- the words of a result that may be none
abbrev pub result_width : Option Kind → ℕ
result_width None = 0
result_width (Some k) = width k

-- ---- references and comparisons of bytes

-- the kind of a variable, an element or a pointer that an expression names by itself
abbrev pub variable_kind : Option Sort → Option Kind
variable_kind (Some (n.simple k own)) = Some k
variable_kind (Some (n.array k own low high)) = Some k
variable_kind (Some (n.view k own base)) = Some k
variable_kind (Some (n.pointer k own)) = Some k
variable_kind (Some (n.value k)) = Some k
variable_kind (Some (n.by_reference k)) = Some k
variable_kind (Some (n.array_parameter k)) = Some k
variable_kind _ = None

-- the kind of what an expression names by itself
abbrev pub reference_kind : Names → Tree → Option Kind
reference_kind names (tree.Tree.named x es at) = variable_kind (names x)
reference_kind names _ = None

-- a kind that is BYTE
abbrev pub is_byte : Option Kind → Bool
is_byte (Some kind.Byte) = true
is_byte _ = false

-- a string of two or more characters
abbrev pub is_long_text : Tree → Bool
is_long_text (tree.Tree.text bytes) = nat_le 2 (length bytes)
is_long_text _ = false

-- a relation that compares a string's bytes with those from a BYTE variable, element or pointer on
abbrev pub compares_text : Names → ℕ → Tree → Tree → Bool
compares_text names op a b = is_relation op && is_byte (reference_kind names a) && is_long_text b

-- what a name takes and gives, where it can be called
abbrev pub callable : Option Sort → Option Profile
callable (Some (n.intrinsic i)) = Some (intrinsic_profile i)
callable (Some (n.procedure p)) = Some p
callable (Some (n.subroutine p)) = Some p
callable _ = None
