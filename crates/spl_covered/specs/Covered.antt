-- Which expressions are proved: those whose every part has a law. A further construct makes it larger.
use Rattle.std.specs.Prelude.{is_some, ℕ, ◌+◌, nat_lt, nat_le, ◌==◌, ◌&&◌, ◌||◌, not, Bool, true, false, if◌then◌else◌, List, [], ◌∷◌, Option, Some, None}
use Rattle.std.specs.List.{list_all}
use Rattle.spl_byte_tests.specs.spl_tree.declared.expressions.Kind.{Kind}
use Rattle.spl_byte_tests.specs.spl_tree.declared.expressions.Kind.TheVariants as kind
use Rattle.spl_byte_tests.specs.spl_tree.Trees as tree
use Rattle.spl_byte_tests.specs.spl_tree.Trees.{Tree, Trees}
use Rattle.spl_byte_tests.specs.spl_meaning.Names.{Formal, text_value}
use Rattle.spl_byte_tests.specs.spl_meaning.Kinds.{positive, negative, is_connective, is_relation, compares_text, kind_of, operand_width, class_of, callable}
use Rattle.spl_byte_tests.specs.spl_meaning.Pending.{by_value, formal_words, profile_formals, profile_result_words}
use Rattle.spl_byte_tests.specs.spl_meaning.References.{Setting, access_of}
use Rattle.spl_byte_tests.specs.spl_meaning.Values.{Who, small_constant, text_bytes}
use Rattle.spl_byte_tests.specs.spl_code.Calls.{Scope}
use Rattle.spl_byte_tests.specs.spl_values.Reached.{is_sum, is_word_class}
use Rattle.spl_whom.specs.spl_operators.Laws.{is_word_operand, is_single}
use Rattle.spl_byte_tests.specs.spl_word_operators.Operators.{is_covered_operator, is_covered_sign}
use Rattle.spl_byte_tests.specs.Elements.{is_byte_element}
use Rattle.spl_whom.specs.Whom.{is_word_call, is_double_call}
use Rattle.spl_byte_tests.specs.spl_names.Names.{is_led_element, is_covered_name, is_addressed, is_addressed_element, is_wide_name, is_wide_element, is_wide_led}

-- An argument that is a value of one word, a DOUBLE value, or a reference, as these tests say: for a parameter by value of its width, or one by
-- reference.
abbrev pub is_passed : Bool → Option Kind → Bool → Bool → Bool → Bool
is_passed true (Some kind.Double) word double reference = double
is_passed true (Some t) word double reference = word
is_passed true None word double reference = false
is_passed false o word double reference = reference

-- a string of bytes
abbrev pub is_spelled : Tree → Bool
is_spelled b = list_all (λ x. nat_lt x 256) (text_bytes b)

abbrev mutual
  -- An expression of one word, in a body with this setting that may call these procedures, and while k words wait: numbers, truth values, strings
  -- that are a word, names, elements at an index that is such, and calls; addresses of names, and of elements at such an index; NOT, signs, shifts
  -- and fields within a word of such, transfers to kinds of one word of such and of DOUBLEs; AND and OR of such; the other operators of such of one
  -- class, and relations of DOUBLEs, where they compare no bytes from a reference on; and comparisons of such bytes with a string, or by a count.
  pub is_covered : (Who → Bool) → Scope → Setting → Tree → ℕ → Bool
  is_covered may c st (tree.Tree.number v) k = true
  is_covered may c st (tree.Tree.truth b) k = true
  is_covered may c st (tree.Tree.text bytes) k = is_some (text_value bytes)
  is_covered may c st (tree.Tree.named x es at) k =
      is_covered_variable may c st x es k
      || (is_word_call may st x (c.names x)
      && are_covered_arguments may c st (profile_formals (callable (c.names x))) es (k + profile_result_words (callable (c.names x))))
  is_covered may c st (tree.Tree.address x es at) k = is_covered_address may c st x es k
  is_covered may c st (tree.Tree.unary op a at) k = is_covered_sign op && is_covered may c st a k
  is_covered may c st (tree.Tree.shift op a by at) k = nat_lt op 6 && nat_lt (small_constant c.names by) 64 && is_covered may c st a k
  is_covered may c st (tree.Tree.field a start size at) k =
      (nat_le 1 (small_constant c.names size) && nat_le (small_constant c.names start + small_constant c.names size) 16) && is_covered may c st a k
  is_covered may c st (tree.Tree.transfer to a at) k = is_single to && (is_covered may c st a k || is_wide may c st a k)
  is_covered may c st (tree.Tree.binary op a b at) k =
      if is_connective op then is_covered may c st a k && is_covered may c st b k
      else ((is_covered_operator op && not (compares_text c.names op a b)) && is_word_class (class_of (kind_of c.names a) (kind_of c.names b))
      && is_covered may c st a k && is_covered may c st b (k + operand_width (kind_of c.names a)))
      || ((is_relation op && not (compares_text c.names op a b)) && (is_wide may c st a k && is_wide may c st b (k + operand_width (kind_of c.names a)))
      || (compares_text c.names op a b && (is_spelled b && (is_byte_element c st a && is_covered_reference may c st a k))))
  is_covered may c st (tree.Tree.bytes op a b count at) k =
      (is_byte_element c st a && is_covered_reference may c st a k)
      && ((is_byte_element c st b && is_covered_reference may c st b (k + 1)) && is_covered may c st count (k + 2))
  is_covered may c st _ k = false

  -- A DOUBLE expression: constants, names, elements and calls, transfers of one word that is covered and of one such, + and - of one such, and of two,
  -- of which the left one waits.
  pub is_wide : (Who → Bool) → Scope → Setting → Tree → ℕ → Bool
  is_wide may c st (tree.Tree.wide v) k = true
  is_wide may c st (tree.Tree.named x es at) k =
      is_wide_variable may c st x es k
      || (is_double_call may st x (c.names x)
      && are_covered_arguments may c st (profile_formals (callable (c.names x))) es (k + profile_result_words (callable (c.names x))))
  is_wide may c st (tree.Tree.transfer kind.Double a at) k = (is_word_operand (kind_of c.names a) && is_covered may c st a k) || is_wide may c st a k
  is_wide may c st (tree.Tree.unary op a at) k = ((op == positive) || (op == negative)) && is_wide may c st a k
  is_wide may c st (tree.Tree.binary op a b at) k =
      is_sum op && (is_wide may c st a k && is_wide may c st b (k + operand_width (kind_of c.names a)))
  is_wide may c st _ k = false

  -- names by themselves, and elements at an index that is covered: of one word, of two, and their addresses
  pub is_covered_variable : (Who → Bool) → Scope → Setting → List ℕ → Trees → ℕ → Bool
  is_covered_variable may c st x tree.Trees.none k = is_covered_name st k (c.names x) (c.places x)
  is_covered_variable may c st x (tree.Trees.and e tree.Trees.none) k =
      is_led_element st k (access_of (c.names x)) (c.places x) && is_covered may c st e k
  is_covered_variable may c st x es k = false

  pub is_wide_variable : (Who → Bool) → Scope → Setting → List ℕ → Trees → ℕ → Bool
  is_wide_variable may c st x tree.Trees.none k =
      is_wide_name st k (c.names x) (c.places x) || is_wide_led st k (access_of (c.names x)) (c.places x)
  is_wide_variable may c st x (tree.Trees.and e tree.Trees.none) k =
      is_wide_element st k (access_of (c.names x)) (c.places x) && is_covered may c st e k
  is_wide_variable may c st x es k = false

  pub is_covered_address : (Who → Bool) → Scope → Setting → List ℕ → Trees → ℕ → Bool
  is_covered_address may c st x tree.Trees.none k = is_addressed st k (access_of (c.names x)) (c.places x)
  is_covered_address may c st x (tree.Trees.and e tree.Trees.none) k =
      is_addressed_element st k (access_of (c.names x)) (c.places x) && is_covered may c st e k
  is_covered_address may c st x es k = false

  -- a reference whose address is covered
  pub is_covered_reference : (Who → Bool) → Scope → Setting → Tree → ℕ → Bool
  is_covered_reference may c st (tree.Tree.named x es at) k = is_covered_address may c st x es k
  is_covered_reference may c st e k = false

  -- arguments, one for each parameter; each waits for those behind it
  pub are_covered_arguments : (Who → Bool) → Scope → Setting → List Formal → Trees → ℕ → Bool
  are_covered_arguments may c st [] tree.Trees.none k = true
  are_covered_arguments may c st (f ∷ fs) (tree.Trees.and e es) k =
      is_passed (by_value f) f.kind (is_covered may c st e k) (is_wide may c st e k) (is_covered_reference may c st e k)
      && are_covered_arguments may c st fs es (k + formal_words f)
  are_covered_arguments may c st fs es k = false
