-- The values of expressions. Operands are worked out from left to right. What a call means is a parameter; `k` counts the words
-- that wait above the frame.
use Rattle.std.specs.Prelude.{ℕ, ◌+◌, ◌%◌, ◌==◌, ℤ, if◌then◌else◌, unsigned_abs, List, [], ◌∷◌, ◌++◌, Option, Some, None}
use Rattle.hp_word.specs.declared.intrinsics.Intrinsic.{Intrinsic}
use Rattle.spl_tree.specs.Trees as tree
use Rattle.spl_tree.specs.Trees.{Tree, Trees, Constant}
use Rattle.spl_meaning.specs.Names as n
use Rattle.spl_meaning.specs.Names.{Names, Sort, Formal, Profile, intrinsic_profile, text_value, truth_word, constant_or_zero}
use Rattle.spl_meaning.specs.Kinds.{kind_of, operand_width, is_connective, compares_text, relation_number, or_operator}
use Rattle.spl_meaning.specs.Pending.{by_value, result_words, formal_words}
use Rattle.spl_meaning.specs.References.{Here, Located, read, locate}
use Rattle.spl_meaning.specs.Operations.{double_words, is_odd, joined, signed_done, shift_done, field_done, transferred, passed}
use Rattle.spl_meaning.specs.Elements.{with_one, compared_by, compared_text, relation_told}
use Rattle.spl_meaning.specs.Serving.{served}
use Rattle.spl_meaning.specs.States.{State, Outcome, done, has_no_meaning, then_go, stepping, code_dropped}
use Rattle.hp_word.specs.Words.{word_of}

-- whom a call calls: a procedure, or a subroutine of the body
pub data Who : Type 0 where
  procedure : List ℕ → Who
  subroutine : List ℕ → Who

-- what a call means: whom it calls, the words of the parameters, and how many words wait
abbrev pub Callee : Type 0
Callee = Who → List ℕ → ℕ → State → Outcome (List ℕ)

-- a constant as a count, a first bit or a number of bits
abbrev pub small_constant : Names → Constant → ℕ
small_constant names c = unsigned_abs (constant_or_zero names c)

-- a string as a word
abbrev pub text_done : Option ℕ → State → Outcome (List ℕ)
text_done (Some w) s = done (w % 65536 ∷ []) s
text_done None s = has_no_meaning s

-- a whole number as a word, where there is one
abbrev pub constant_done : Option ℤ → State → Outcome (List ℕ)
constant_done (Some v) s = done (word_of v ∷ []) s
constant_done None s = has_no_meaning s

-- what a name is in an expression: a constant, an intrinsic that is called, a procedure or a subroutine that is, or a variable
pub data Sense : Type 0 where
  a_constant : Option ℤ → Sense
  an_intrinsic : Intrinsic → Sense
  a_call : Who → Profile → Sense
  a_variable : Sense

-- the sense of a name by what it stands for
abbrev pub sense_of : List ℕ → Option Sort → Sense
sense_of x (Some (n.equate v)) = a_constant v
sense_of x (Some (n.intrinsic i)) = an_intrinsic i
sense_of x (Some (n.procedure p)) = a_call (procedure x) p
sense_of x (Some (n.subroutine p)) = a_call (subroutine x) p
sense_of x _ = a_variable

-- the index that some value is
abbrev pub as_index : List ℕ → State → Outcome (Option ℕ)
as_index vs s = with_one vs s (λ i s1. done (Some i) s1)

-- A name in an expression: the value at what it names, by its index; a constant; or a call, one step, with its arguments.
abbrev pub named_value : Here → List ℕ → Sense → (State → Outcome (Option ℕ)) → (Profile → State → Outcome (List ℕ)) → Callee → ℕ → State → Outcome (List ℕ)
named_value h x (a_constant v) index arguments call k s = constant_done v s
named_value h x (an_intrinsic i) index arguments call k s =
    code_dropped (then_go (arguments (intrinsic_profile i) s) (λ ws s1. served i ws s1))
named_value h x (a_call who p) index arguments call k s = stepping s (λ s1. then_go (arguments p s1) (λ ws s2. call who ws k s2))
named_value h x a_variable index arguments call k s = then_go (index s) (λ i s1. then_go (locate h x i s1) (λ p s2. read p s2))

-- the word that stands for what a reference names: its address, which counts bytes for a BYTE
abbrev pub address_done : Located → State → Outcome (List ℕ)
address_done p s = done (p.address % 65536 ∷ []) s

-- AND and OR: the lowest bits decide, and the right side is not worked out where the left one decides
abbrev pub connected : ℕ → List ℕ → State → (State → Outcome (List ℕ)) → Outcome (List ℕ)
connected op vs s right = with_one vs s (λ w s1.
    if op == or_operator
    then (if is_odd w then done (65535 ∷ []) s1 else then_go (right s1) (λ us s2. with_one us s2 (λ u s3. done (truth_word (is_odd u) ∷ []) s3)))
    else (if is_odd w then then_go (right s1) (λ us s2. with_one us s2 (λ u s3. done (truth_word (is_odd u) ∷ []) s3)) else done (0 ∷ []) s1))

-- the bytes of a string
abbrev pub text_bytes : Tree → List ℕ
text_bytes (tree.Tree.text bytes) = bytes
text_bytes _ = []

-- an argument: a value as its parameter holds it, or the address of what a reference names
abbrev pub argument : Formal → (State → Outcome (List ℕ)) → (State → Outcome Located) → State → Outcome (List ℕ)
argument f by_its_value by_its_location s =
    if by_value f then then_go (by_its_value s) (λ vs s1. passed f.kind vs s1)
    else then_go (by_its_location s) address_done

abbrev mutual
  -- the value of an expression
  pub value : Here → Callee → Tree → ℕ → State → Outcome (List ℕ)
  value h call (tree.Tree.number v) k s = done (v % 65536 ∷ []) s
  value h call (tree.Tree.wide v) k s = done (double_words (v % 4294967296)) s
  value h call (tree.Tree.text bytes) k s = text_done (text_value bytes) s
  value h call (tree.Tree.truth b) k s = done (truth_word b ∷ []) s
  value h call (tree.Tree.named x es at) k s =
      named_value h x (sense_of x (h.names x)) (λ s1. index h call es k s1) (λ p s1. arguments h call p.formals es (k + result_words p) s1) call k s
  value h call (tree.Tree.address x es at) k s =
      then_go (index h call es k s) (λ i s1. then_go (locate h x i s1) address_done)
  value h call (tree.Tree.unary op e at) k s = then_go (value h call e k s) (λ vs s1. signed_done op (kind_of h.names e) vs s1)
  value h call (tree.Tree.binary op a b at) k s =
      if is_connective op then then_go (value h call a k s) (λ vs s1. connected op vs s1 (λ s2. value h call b k s2))
      else if compares_text h.names op a b
      then then_go (located h call a k s) (λ p s1. relation_told (relation_number op) (compared_text p (text_bytes b) s1))
      else then_go (value h call a k s) (λ vs s1.
      then_go (value h call b (k + operand_width (kind_of h.names a)) s1) (λ us s2. joined op (kind_of h.names a) (kind_of h.names b) vs us s2))
  value h call (tree.Tree.shift op e by at) k s = then_go (value h call e k s) (λ vs s1. shift_done op (small_constant h.names by) vs s1)
  value h call (tree.Tree.field e start size at) k s =
      then_go (value h call e k s) (λ vs s1. field_done (small_constant h.names start) (small_constant h.names size) vs s1)
  value h call (tree.Tree.transfer to e at) k s = then_go (value h call e k s) (λ vs s1. transferred to (kind_of h.names e) vs s1)
  value h call (tree.Tree.bytes op a b count at) k s =
      then_go (located h call a k s) (λ p s1. then_go (located h call b (k + 1) s1) (λ q s2. then_go (value h call count (k + 2) s2) (λ vs s3.
      with_one vs s3 (λ size s4. relation_told op (compared_by size p q s4)))))

  -- the location of a reference: its index, and then the cell
  pub located : Here → Callee → Tree → ℕ → State → Outcome Located
  located h call (tree.Tree.named x es at) k s = then_go (index h call es k s) (λ i s1. locate h x i s1)
  located h call _ k s = has_no_meaning s

  -- the index of a reference, where it has one
  pub index : Here → Callee → Trees → ℕ → State → Outcome (Option ℕ)
  index h call tree.Trees.none k s = done None s
  index h call (tree.Trees.and e es) k s = then_go (value h call e k s) as_index

  -- the words of arguments, one for each parameter; each waits for those behind it
  pub arguments : Here → Callee → List Formal → Trees → ℕ → State → Outcome (List ℕ)
  arguments h call [] tree.Trees.none k s = done [] s
  arguments h call (f ∷ fs) (tree.Trees.and e es) k s =
      then_go (argument f (λ s1. value h call e k s1) (λ s1. located h call e k s1) s) (λ ws s1.
      then_go (arguments h call fs es (k + formal_words f) s1) (λ vs s2. done (ws ++ vs) s2))
  arguments h call _ _ k s = has_no_meaning s
