-- The rules that expressions and references may break. A constant has no place of its own; it has that of the part around it.
use Rattle.std.specs.Prelude.{ℕ, ◌+◌, ◌==◌, ◌&&◌, ◌||◌, not, Bool, true, false, nat_le, ℤ, pos, ◌+ℤ◌, int_le, if◌then◌else◌, List, [], ◌∷◌, ◌++◌, length, Option, Some, None, is_some}
use Rattle.spl_tree.specs.declared.names_and_places.At.{At}
use Rattle.spl_tree.specs.declared.expressions.Kind.{Kind}
use Rattle.spl_tree.specs.declared.expressions.Kind.TheVariants as kind
use Rattle.spl_tree.specs.Trees as tree
use Rattle.spl_tree.specs.Trees.{Tree, Trees, Constant}
use Rattle.spl_meaning.specs.Names as n
use Rattle.spl_meaning.specs.Names.{Names, Sort, Formal, Profile, text_value, constant_value}
use Rattle.spl_meaning.specs.Kinds.{Operand, Class, mixed, class_of, unknown, is_double, is_logical, is_constant, is_unknown, is_byte, is_relation, is_long_text, unary_operand, binary_operand, named_operand, kind_of, reference_kind, variable_kind, compares_text, callable, works_on_bits, multiplies, complement}
use Rattle.spl_meaning.specs.Pending.{by_value, first_formal, other_formals, profile_formals}
use Rattle.spl_meaning.specs.Faults.{Fault, fault, unless}

-- What a part of a body may use: its names; those that are declared in the procedure around it; the bodies around it that have a
-- result; whether that procedure is split; and whether it is the main body.
pub record Scope : Type 0 where
  pub names : Names
  pub is_local : List ℕ → Bool
  pub results : List (List ℕ)
  pub split : Bool
  pub is_main : Bool

-- ---- places

-- the place of an expression, or that of the part around it
abbrev pub place_in : At → Tree → At
place_in around (tree.Tree.number v) = around
place_in around (tree.Tree.wide v) = around
place_in around (tree.Tree.text bytes) = around
place_in around (tree.Tree.truth b) = around
place_in around (tree.Tree.named x es at) = at
place_in around (tree.Tree.address x es at) = at
place_in around (tree.Tree.unary op e at) = at
place_in around (tree.Tree.binary op a b at) = at
place_in around (tree.Tree.shift op e by at) = at
place_in around (tree.Tree.field e start size at) = at
place_in around (tree.Tree.transfer k e at) = at
place_in around (tree.Tree.bytes op a b count at) = at

-- the place of a constant, or that of the part around it
abbrev pub constant_place : At → Constant → At
constant_place around (tree.Constant.name x at) = at
constant_place around _ = around

-- ---- kinds

-- the value fits a variable, a parameter or a result: a DOUBLE fits a DOUBLE alone
abbrev pub fits : Kind → Operand → Bool
fits kind.Double e = is_double e || is_unknown e
fits _ e = not (is_double e)

-- a value whose bits are worked on: LOGICAL, BYTE or a constant
abbrev pub is_bits : Operand → Bool
is_bits e = is_logical e || is_constant e || is_unknown e

-- kinds that have no operation
abbrev pub is_mixed : Class → Bool
is_mixed mixed = true
is_mixed _ = false

-- two operands have an operation, or one of them is not known
abbrev pub mixes : Operand → Operand → Bool
mixes a b = is_unknown a || is_unknown b || not (is_mixed (class_of a b))

-- * / MOD are no operations of doubles
abbrev pub is_operation : ℕ → Operand → Operand → Bool
is_operation op a b = not (is_double a && is_double b && multiplies op)

-- a reference fits a parameter by reference: BYTE with BYTE, DOUBLE with DOUBLE, INTEGER and LOGICAL with each other
abbrev pub same_sort : Kind → Kind → Bool
same_sort kind.Byte kind.Byte = true
same_sort kind.Byte k = false
same_sort kind.Double kind.Double = true
same_sort kind.Double k = false
same_sort _ kind.Byte = false
same_sort _ kind.Double = false
same_sort _ _ = true

-- a reference that may be none fits a parameter whose kind may be none
abbrev pub passes : Option Kind → Option Kind → Bool
passes None k = true
passes (Some p) None = false
passes (Some p) (Some k) = same_sort p k

-- ---- constants

-- 1: a name is not declared. 3: it is of the wrong sort.
abbrev pub constant_name : Option Sort → At → List Fault
constant_name None at = fault 1 at ∷ []
constant_name (Some (n.equate v)) at = []
constant_name (Some n.unknown) at = []
constant_name (Some s) at = fault 3 at ∷ []

-- 14: a string without one or two characters has no value
abbrev pub constant_faults : Names → At → Constant → List Fault
constant_faults names around (tree.Constant.name x at) = constant_name (names x) at
constant_faults names around (tree.Constant.text bytes) = unless (is_some (text_value bytes)) 14 around
constant_faults names around _ = []

-- whether a constant is in a range, where it has a value
abbrev pub in_range : ℤ → ℤ → Option ℤ → Bool
in_range low high None = true
in_range low high (Some v) = int_le low v && int_le v high

-- a bit field: its first bit, and a length of at least 1, within the word; where one of them has no value, the other by itself
unfoldable pub is_field : Option ℤ → Option ℤ → Bool
is_field (Some start) (Some size) = int_le (pos 0) start && int_le (pos 1) size && int_le (start +ℤ size) (pos 16)
is_field (Some start) None = int_le (pos 0) start && int_le start (pos 15)
is_field None (Some size) = int_le (pos 1) size && int_le size (pos 16)
is_field None None = true

-- 13: a bit field is out of range
abbrev pub field_faults : Names → Constant → Constant → At → List Fault
field_faults names start size at =
    constant_faults names at start ++ constant_faults names at size
    ++ unless (is_field (constant_value names start) (constant_value names size)) 13 at

-- ---- names

-- an array, a view or a pointer has elements
abbrev pub has_elements : Option Sort → Bool
has_elements (Some (n.array k own low high)) = true
has_elements (Some (n.view k own base)) = true
has_elements (Some (n.pointer k own)) = true
has_elements (Some (n.array_parameter k)) = true
has_elements _ = false

-- whether a name is an EQUATE name
abbrev pub is_equate : Option Sort → Bool
is_equate (Some (n.equate v)) = true
is_equate _ = false

-- whether a name is a pointer
abbrev pub is_pointer : Option Sort → Bool
is_pointer (Some (n.pointer k own)) = true
is_pointer _ = false

-- whether a name is a label
abbrev pub is_label : Option Sort → Bool
is_label (Some n.label) = true
is_label _ = false

-- whether a name is a subroutine
abbrev pub is_subroutine : Option Sort → Bool
is_subroutine (Some (n.subroutine p)) = true
is_subroutine _ = false

-- how many arguments or indices there are
abbrev pub count : Trees → ℕ
count tree.Trees.none = 0
count (tree.Trees.and e es) = 1 + count es

-- how many indices a name may have: none, or at most one
abbrev pub index_fits : Option Sort → ℕ → Bool
index_fits s n = if has_elements s then nat_le n 1 else n == 0

-- ---- kinds as far as rules go

-- a name that may not stand where a value has to be: it is not declared, it is a label, or its index has no sense. Of one that is wrongly
-- declared nothing is said, and a call's arguments have rules of their own.
unfoldable pub is_misused : Option Sort → ℕ → Bool
is_misused None given = true
is_misused (Some n.unknown) given = false
is_misused (Some n.label) given = true
is_misused (Some (n.intrinsic i)) given = false
is_misused (Some (n.procedure p)) given = false
is_misused (Some (n.subroutine p)) given = false
is_misused s given = not (index_fits s given)

-- what a name in an expression is: nothing is known of one that is misused
abbrev pub rule_operand : Option Sort → ℕ → Operand
rule_operand s given = if is_misused s given then unknown else named_operand s

-- The kind of an expression that rules go by. A name that is misused breaks 1 or 3, so it has none, and no rule on kinds is broken besides.
abbrev pub rule_kind : Names → Tree → Operand
rule_kind names (tree.Tree.named x es at) = rule_operand (names x) (count es)
rule_kind names (tree.Tree.unary op e at) = unary_operand op (rule_kind names e)
rule_kind names (tree.Tree.binary op a b at) = binary_operand op (rule_kind names a) (rule_kind names b)
rule_kind names e = kind_of names e

-- the kind of what an expression names by itself, where it is not misused
abbrev pub rule_reference : Names → Tree → Option Kind
rule_reference names (tree.Tree.named x es at) = if is_misused (names x) (count es) then None else variable_kind (names x)
rule_reference names _ = None

-- whether an expression is a name that is misused
abbrev pub is_misused_name : Names → Tree → Bool
is_misused_name names (tree.Tree.named x es at) = is_misused (names x) (count es)
is_misused_name names _ = false

-- a relation of a name that is misused with a string, which may be meant to compare bytes
abbrev pub may_compare_text : Names → ℕ → Tree → Tree → Bool
may_compare_text names op a b = is_relation op && is_misused_name names a && is_long_text b

-- 27: in a split procedure a global variable
abbrev pub split_use : Scope → List ℕ → At → List Fault
split_use sc x at = unless (not sc.split || sc.is_local x) 27 at

-- a name where a variable, an element, an array or a pointer has to be
-- 1: it is not declared. 3: it is of the wrong sort, or its index has no sense. 27: it is global, in a split procedure.
abbrev pub variable_by : Scope → List ℕ → Option Kind → Option Sort → ℕ → At → List Fault
variable_by sc x (Some k) s indices at = unless (index_fits s indices) 3 at ++ split_use sc x at
variable_by sc x None None indices at = fault 1 at ∷ []
variable_by sc x None (Some n.unknown) indices at = []
variable_by sc x None (Some s) indices at = fault 3 at ∷ []

-- a name where a variable has to be
abbrev pub variable_faults : Scope → List ℕ → ℕ → At → List Fault
variable_faults sc x indices at = variable_by sc x (variable_kind (sc.names x)) (sc.names x) indices at

-- a call
-- 8: the number of arguments is wrong. 11: what has no value is called in an expression. 27: a call of a procedure or an intrinsic,
-- in a split procedure.
abbrev pub call_faults : Scope → Option Sort → Profile → ℕ → Bool → At → List Fault
call_faults sc s p given wants_value at =
    unless (given == length p.formals) 8 at ++ unless (is_some p.result || not wants_value) 11 at
    ++ unless (not sc.split || is_subroutine s) 27 at

-- a name in an expression that is not called: an EQUATE name has no index
abbrev pub uncalled_by : Scope → List ℕ → Option Sort → ℕ → At → List Fault
uncalled_by sc x (Some (n.equate v)) given at = unless (given == 0) 3 at
uncalled_by sc x _ given at = variable_faults sc x given at

-- a name in an expression
abbrev pub name_by : Scope → List ℕ → Option Profile → ℕ → At → List Fault
name_by sc x (Some p) given at = call_faults sc (sc.names x) p given true at
name_by sc x None given at = uncalled_by sc x (sc.names x) given at

-- whether a name can be called
abbrev pub is_callable : Option Profile → Bool
is_callable (Some p) = true
is_callable None = false

-- ---- values for a place

-- a value of one word: 14: it is a wide constant. 23: it is a DOUBLE.
abbrev pub single_faults : Names → At → Tree → List Fault
single_faults names around (tree.Tree.wide v) = fault 14 around ∷ []
single_faults names around e = unless (not (is_double (rule_kind names e))) 23 (place_in around e)

-- 7: a condition or an operand is INTEGER or DOUBLE
abbrev pub bits_faults : Names → At → Tree → List Fault
bits_faults names around e = unless (is_bits (rule_kind names e)) 7 (place_in around e)

-- a name that is not declared, or wrongly
abbrev pub is_open_sort : Option Sort → Bool
is_open_sort None = true
is_open_sort (Some n.unknown) = true
is_open_sort _ = false

-- whether an expression is a name that is not declared, or wrongly
abbrev pub is_open : Names → Tree → Bool
is_open names (tree.Tree.named x es at) = is_open_sort (names x)
is_open names _ = false

-- a value fits a parameter whose kind may be none
abbrev pub value_fits : Option Kind → Operand → Bool
value_fits None e = true
value_fits (Some k) e = fits k e

-- a parameter by reference
abbrev pub is_reference_formal : Option Formal → Bool
is_reference_formal None = false
is_reference_formal (Some f) = not (by_value f)

-- an expression that is a label
abbrev pub is_label_name : Names → Tree → Bool
is_label_name names (tree.Tree.named x es at) = is_label (names x)
is_label_name names _ = false

-- 9: a value argument does not fit. 10: a reference argument is no reference, or does not match.
abbrev pub argument_faults : Names → Option Formal → Tree → At → List Fault
argument_faults names None e at = []
argument_faults names (Some f) e at =
    if by_value f then unless (value_fits f.kind (rule_kind names e)) 9 (place_in at e)
    else unless (is_open names e || passes f.kind (reference_kind names e)) 10 (place_in at e)

-- an argument's own faults: where a reference has to be, a label is only that
abbrev pub own_faults : Names → Option Formal → Tree → List Fault → List Fault
own_faults names f e fs = if is_reference_formal f && is_label_name names e then [] else fs

-- 27: in a split procedure a MOVE, a SCAN or a comparison of bytes of anything but a pointer's elements
abbrev pub far_faults : Scope → Tree → List Fault
far_faults sc (tree.Tree.named x es at) = unless (not sc.split || is_pointer (sc.names x) || is_open_sort (sc.names x)) 27 at
far_faults sc _ = []

-- the kind of a reference, where it has one, is BYTE
abbrev pub may_be_byte : Option Kind → Bool
may_be_byte None = true
may_be_byte k = is_byte k

-- an operator with its operands
abbrev pub binary_faults : Names → ℕ → Tree → Tree → At → List Fault
binary_faults names op a b at =
    if works_on_bits op then bits_faults names at a ++ bits_faults names at b
    else unless (mixes (rule_kind names a) (rule_kind names b)) 4 at ++ unless (is_operation op (rule_kind names a) (rule_kind names b)) 5 at

-- ---- expressions

abbrev mutual
  -- an expression, in a scope and in a part with this place
  pub faults : Scope → At → Tree → List Fault
  faults sc around (tree.Tree.number v) = []
  faults sc around (tree.Tree.wide v) = []
  -- 14: a string without one or two characters stands for a word
  faults sc around (tree.Tree.text bytes) = unless (is_some (text_value bytes)) 14 around
  faults sc around (tree.Tree.truth b) = []
  faults sc around (tree.Tree.named x es at) =
      name_by sc x (callable (sc.names x)) (count es) at
      ++ (if is_callable (callable (sc.names x)) then arguments_faults sc (profile_formals (callable (sc.names x))) es at else indices_faults sc es at)
  -- 27: `@` of anything but a pointer, in a split procedure
  faults sc around (tree.Tree.address x es at) =
      variable_faults sc x (count es) at ++ unless (not sc.split || is_pointer (sc.names x)) 27 at ++ indices_faults sc es at
  faults sc around (tree.Tree.unary op e at) = faults sc at e ++ (if op == complement then bits_faults sc.names at e else [])
  -- 4: kinds are mixed. 5: the operation is not one of this kind.
  faults sc around (tree.Tree.binary op a b at) =
      if compares_text sc.names op a b then faults sc at a ++ far_faults sc a
      else if may_compare_text sc.names op a b then faults sc at a
      else faults sc at a ++ faults sc at b ++ binary_faults sc.names op a b at
  -- 5: a shift of a DOUBLE. 13: a count out of range.
  faults sc around (tree.Tree.shift op e by at) =
      faults sc at e ++ unless (not (is_double (rule_kind sc.names e))) 5 at ++ constant_faults sc.names at by
      ++ unless (in_range (pos 0) (pos 15) (constant_value sc.names by)) 13 (constant_place at by)
  faults sc around (tree.Tree.field e start size at) =
      faults sc at e ++ unless (not (is_double (rule_kind sc.names e))) 5 at ++ field_faults sc.names start size at
  faults sc around (tree.Tree.transfer k e at) = faults sc at e
  -- 24: a comparison of bytes of anything but BYTEs
  faults sc around (tree.Tree.bytes op a b size at) =
      located_faults sc a ++ far_faults sc a ++ located_faults sc b ++ far_faults sc b
      ++ unless (may_be_byte (rule_reference sc.names a) && may_be_byte (rule_reference sc.names b)) 24 at
      ++ faults sc at size ++ single_faults sc.names at size

  -- a reference
  pub located_faults : Scope → Tree → List Fault
  located_faults sc (tree.Tree.named x es at) = variable_faults sc x (count es) at ++ indices_faults sc es at
  located_faults sc _ = []

  -- indices in order
  pub indices_faults : Scope → Trees → At → List Fault
  indices_faults sc tree.Trees.none at = []
  indices_faults sc (tree.Trees.and e es) at = faults sc at e ++ single_faults sc.names at e ++ indices_faults sc es at

  -- arguments in order, each with its parameter
  pub arguments_faults : Scope → List Formal → Trees → At → List Fault
  arguments_faults sc fs tree.Trees.none at = []
  arguments_faults sc fs (tree.Trees.and e es) at =
      own_faults sc.names (first_formal fs) e (faults sc at e) ++ argument_faults sc.names (first_formal fs) e at
      ++ arguments_faults sc (other_formals fs) es at
