-- What names stand for: sorts, lists of declarations, and constants.
use Rattle.std.specs.Prelude.{ℕ, ◌+◌, ◌*◌, ℤ, pos, neg_ℤ, ◌+ℤ◌, int_le, Bool, true, false, if◌then◌else◌, nat_eq, List, [], ◌∷◌, codes, Option, Some, None}
use lib.Pointwise.{pointwise}
use Prim.Native.String.{String}
use Rattle.hp_word.specs.declared.intrinsics.Intrinsic.{Intrinsic}
use Rattle.hp_word.specs.declared.intrinsics.Intrinsic.TheVariants as gate
use Rattle.spl_tree.specs.declared.names_and_places.At.{At}
use Rattle.spl_tree.specs.declared.expressions.Kind.{Kind}
use Rattle.spl_tree.specs.declared.expressions.Kind.TheVariants as kind
use Rattle.spl_tree.specs.Trees.{Constant, number, wide, text, truth, name}
use Rattle.spl_tree.specs.DeclarationTrees.{Placed, Spec, Heading, Term}

-- two names are the same letters
abbrev pub same_name : List ℕ → List ℕ → Bool
same_name x y = pointwise nat_eq x y

-- two flags are alike
abbrev pub same_flag : Bool → Bool → Bool
same_flag true b = b
same_flag false true = false
same_flag false false = true

-- a list of declarations: names with what they stand for, in order
abbrev pub Table : Type 0 → Type 0
Table A = List (List ℕ × A)

-- what a name stands for, in a list
abbrev pub find : {A : Type 0} → Table A → List ℕ → Option A
find [] x = None
find (e ∷ es) x = if same_name x e.0 then Some e.1 else find es x

-- the first that there is
abbrev pub or_else : {A : Type 0} → Option A → Option A → Option A
or_else (Some a) b = Some a
or_else None b = b

-- a parameter of a heading: its kind where some list of kinds has it, whether it is an array, and whether VALUE lists it
pub record Formal : Type 0 where
  pub name : List ℕ
  pub at : At
  pub kind : Option Kind
  pub array : Bool
  pub value : Bool

-- what a procedure, a subroutine or an intrinsic takes and gives, and whether it is split
pub record Profile : Type 0 where
  pub result : Option Kind
  pub formals : List Formal
  pub split : Bool

-- What a name stands for. The flag of data says that it is OWN; an array has its bounds, a view the name of its base, an EQUATE name its
-- value, where it has one.
pub data Sort : Type 0 where
  simple : Kind → Bool → Sort
  array : Kind → Bool → ℤ → ℤ → Sort
  view : Kind → Bool → List ℕ → Sort
  pointer : Kind → Bool → Sort
  value : Kind → Sort
  by_reference : Kind → Sort
  array_parameter : Kind → Sort
  equate : Option ℤ → Sort
  label : Sort
  intrinsic : Intrinsic → Sort
  procedure : Profile → Sort
  subroutine : Profile → Sort
  -- a name that is declared wrongly
  unknown : Sort

-- what each name stands for at some place, where it is declared
abbrev pub Names : Type 0
Names = List ℕ → Option Sort

-- a list of declarations, with names around it
abbrev pub within : Table Sort → Names → Names
within table outer x = or_else (find table x) (outer x)

-- no name is declared
abbrev pub nothing_declared : Names
nothing_declared x = None

-- ---- parameters

-- whether a list of names has one
abbrev pub lists : List Placed → List ℕ → Bool
lists [] x = false
lists (n ∷ ns) x = if same_name x n.letters then true else lists ns x

-- the list of kinds in which a parameter stands first
abbrev pub spec_of : List Spec → List ℕ → Option Spec
spec_of [] x = None
spec_of (l ∷ ls) x = if lists l.names x then Some l else spec_of ls x

-- the kind of a list of kinds
abbrev pub kind_in : Option Spec → Option Kind
kind_in None = None
kind_in (Some l) = Some l.kind

-- whether it is one of arrays
abbrev pub is_array_in : Option Spec → Bool
is_array_in None = false
is_array_in (Some l) = l.array

-- the parameters of a heading, in order
abbrev pub formals_among : Heading → List Placed → List Formal
formals_among h [] = []
formals_among h (n ∷ ns) = record {
  name = n.letters;
  at = n.at;
  kind = kind_in (spec_of h.specs n.letters);
  array = is_array_in (spec_of h.specs n.letters);
  value = lists h.values n.letters;
} ∷ formals_among h ns

-- the parameters of a heading
abbrev pub formals_of : Heading → List Formal
formals_of h = formals_among h h.names

-- what a heading takes and gives
abbrev pub profile_of : Heading → Profile
profile_of h = record { result = h.result; formals = formals_of h; split = h.split }

-- what a parameter stands for in the body
abbrev pub sort_by : Option Kind → Bool → Bool → Sort
sort_by None is_array by_value = unknown
sort_by (Some k) true by_value = array_parameter k
sort_by (Some k) false true = value k
sort_by (Some k) false false = by_reference k

-- the parameters as the first declarations of a body
abbrev pub parameters : List Formal → Table Sort
parameters [] = []
parameters (f ∷ fs) = (f.name, sort_by f.kind f.array f.value) ∷ parameters fs

-- ---- intrinsics

-- a parameter of an intrinsic
abbrev pub given : Kind → Bool → Bool → Formal
given k is_array by_value = record { name = []; at = record { unit = 0; line = 0; column = 0 }; kind = Some k; array = is_array; value = by_value }

-- what takes parameters and may give a result
abbrev pub takes : Option Kind → List Formal → Profile
takes result formals = record { result = result; formals = formals; split = false }

-- PRINT(words, length, control), READ(words, length), ASCII and DASCII(number, base, bytes), BINARY and DBINARY(bytes, length),
-- TERMINATE, QUIT(number)
abbrev pub intrinsic_profile : Intrinsic → Profile
intrinsic_profile gate.Print = takes None (given kind.Logical true false ∷ given kind.Integer false true ∷ given kind.Logical false true ∷ [])
intrinsic_profile gate.Read = takes (Some kind.Integer) (given kind.Logical true false ∷ given kind.Integer false true ∷ [])
intrinsic_profile gate.Ascii = takes (Some kind.Integer) (given kind.Logical false true ∷ given kind.Integer false true ∷ given kind.Byte true false ∷ [])
intrinsic_profile gate.Dascii = takes (Some kind.Integer) (given kind.Double false true ∷ given kind.Integer false true ∷ given kind.Byte true false ∷ [])
intrinsic_profile gate.Binary = takes (Some kind.Logical) (given kind.Byte true false ∷ given kind.Integer false true ∷ [])
intrinsic_profile gate.Dbinary = takes (Some kind.Double) (given kind.Byte true false ∷ given kind.Integer false true ∷ [])
intrinsic_profile gate.Terminate = takes None []
intrinsic_profile gate.Quit = takes None (given kind.Integer false true ∷ [])

-- the intrinsics by their names
abbrev pub intrinsics : List (String × Intrinsic)
intrinsics = ("PRINT", gate.Print) ∷ ("READ", gate.Read) ∷ ("ASCII", gate.Ascii) ∷ ("DASCII", gate.Dascii) ∷ ("BINARY", gate.Binary)
    ∷ ("DBINARY", gate.Dbinary) ∷ ("TERMINATE", gate.Terminate) ∷ ("QUIT", gate.Quit) ∷ []

-- an intrinsic of a list by its name
abbrev pub intrinsic_among : List (String × Intrinsic) → List ℕ → Option Intrinsic
intrinsic_among [] x = None
intrinsic_among (g ∷ gs) x = if same_name x (codes g.0) then Some g.1 else intrinsic_among gs x

-- the intrinsic of a name
abbrev pub intrinsic_named : List ℕ → Option Intrinsic
intrinsic_named x = intrinsic_among intrinsics x

-- ---- constants

-- a number with the sign that stands before it
abbrev pub with_sign : Bool → ℕ → ℤ
with_sign true v = neg_ℤ (pos v)
with_sign false v = pos v

-- a string as a word: the code of its one character, or of its first times 256 and that of its second
abbrev pub text_value : List ℕ → Option ℕ
text_value (a ∷ []) = Some a
text_value (a ∷ b ∷ []) = Some (256 * a + b)
text_value _ = None

-- a truth value as a word: all ones, or zero
abbrev pub truth_word : Bool → ℕ
truth_word true = 65535
truth_word false = 0

-- a word as a whole number
abbrev pub whole_number : Option ℕ → Option ℤ
whole_number None = None
whole_number (Some v) = Some (pos v)

-- the value of an EQUATE name
abbrev pub equate_value : Option Sort → Option ℤ
equate_value (Some (equate v)) = v
equate_value _ = None

-- the whole number that a constant is, where it is one
abbrev pub constant_value : Names → Constant → Option ℤ
constant_value names (number minus v) = Some (with_sign minus v)
constant_value names (wide minus v) = Some (with_sign minus v)
constant_value names (text bytes) = whole_number (text_value bytes)
constant_value names (truth b) = Some (pos (truth_word b))
constant_value names (name x at) = equate_value (names x)

-- a part of a sum with its sign
abbrev pub signed_term : Bool → ℤ → ℤ
signed_term true v = neg_ℤ v
signed_term false v = v

-- a sum and one part more
abbrev pub sum_with : Option ℤ → Bool → Option ℤ → Option ℤ
sum_with (Some sum) minus (Some v) = Some (sum +ℤ signed_term minus v)
sum_with _ minus _ = None

-- a sum of constants, as whole numbers
abbrev pub sum_from : Names → Option ℤ → List Term → Option ℤ
sum_from names sum [] = sum
sum_from names sum (t ∷ ts) = sum_from names (sum_with sum t.minus (constant_value names t.value)) ts

-- the value of a sum of constants
abbrev pub sum_value : Names → List Term → Option ℤ
sum_value names terms = sum_from names (Some (pos 0)) terms

-- the greatest value that a name of a sum is kept with; a sum beyond it breaks a rule where it stands
abbrev pub most_kept : ℕ
most_kept = 1099511627776

-- a value between the least and the greatest that are kept
abbrev pub cut : ℤ → ℤ
cut v = if int_le (pos most_kept) v then pos most_kept else if int_le v (neg_ℤ (pos most_kept)) then neg_ℤ (pos most_kept) else v

-- the value that a name of a sum is kept with
abbrev pub kept_value : Option ℤ → Option ℤ
kept_value None = None
kept_value (Some v) = Some (cut v)

-- the value, or zero where there is none
abbrev pub or_zero : Option ℤ → ℤ
or_zero (Some v) = v
or_zero None = pos 0

-- a constant where it has to be one
abbrev pub constant_or_zero : Names → Constant → ℤ
constant_or_zero names c = or_zero (constant_value names c)
