-- What is covered is safe, along the tree, with the words that it has: values of one word and of two, references and arguments.
use Rattle.std.proofs.Common.{◌≡◌, inl, inr, ℕ, ◌+◌, ◌%◌, Bool, true, false, List, [], ◌∷◌, ◌++◌, length, Option, Some, None, refl, sym, ap, subst, ◌∙◌}
use Rattle.std.specs.Prelude.{is_some, ◌==◌, ◌&&◌, ◌||◌, nat_lt, nat_le, if◌then◌else◌}
use Rattle.std.proofs.lemmas.List.{length-append}
use Rattle.std.proofs.lemmas.Bool.{false≢true}
use Rattle.std.proofs.Math.Logic.{⊎_elim}
use Rattle.spl_covered.specs.hp_word.declared.intrinsics.Intrinsic.{Intrinsic}
use Rattle.spl_covered.specs.hp_word.Intrinsics.{answer_words}
use Rattle.spl_covered.specs.hp_word.Words.{word_of}
use Rattle.spl_covered.specs.spl_tree.declared.expressions.Kind.{Kind}
use Rattle.spl_covered.specs.spl_tree.declared.expressions.Kind.TheVariants as kind
use Rattle.spl_covered.specs.spl_tree.declared.names_and_places.At.{At}
use Rattle.spl_covered.specs.spl_tree.Trees as tree
use Rattle.spl_covered.specs.spl_tree.Trees.{Tree, Trees}
use Rattle.spl_covered.specs.spl_meaning.Names as n
use Rattle.spl_covered.specs.spl_meaning.Names.{Sort, Formal, Profile, intrinsic_profile, text_value, truth_word}
use Rattle.spl_covered.specs.spl_meaning.Kinds.{Operand, of, width, kind_of, operand_width, is_connective, is_byte, reference_kind, relation_number, variable_kind, compares_text, positive, negative, plus, minus}
use Rattle.spl_covered.specs.spl_meaning.Elements.{compared_by, compared_text, relation_told}
use Rattle.spl_covered.specs.spl_meaning.Operations.{double_words, is_odd, joined, signed_done, extended, passed}
use Rattle.spl_covered.specs.spl_meaning.Pending.{by_value, value_words, formal_words, formals_words, result_words, profile_formals, profile_result_words}
use Rattle.spl_covered.specs.spl_meaning.Places.{Place}
use Rattle.spl_covered.specs.spl_meaning.References.{Here, Setting, Located, access_of, read, locate}
use Rattle.spl_covered.specs.spl_meaning.States.{State, Outcome, then_go}
use Rattle.spl_covered.specs.spl_meaning.Statements.{condition}
use Rattle.spl_covered.specs.spl_meaning.Values.{Who, procedure, subroutine, Callee, Sense, a_call, sense_of, small_constant, text_done, named_value, address_done, connected, text_bytes, argument, value, located, index, arguments}
use Rattle.spl_covered.specs.spl_code.Calls.{Scope}
use Rattle.spl_covered.proofs.spl_values_proofs.VariableLemmas.{both}
use Rattle.spl_covered.proofs.spl_values_proofs.SumLemmas.{sum_cases}
use Rattle.spl_covered.specs.spl_operators.Laws.{is_word_operand, is_single}
use Rattle.spl_covered.specs.spl_word_operators.Operators.{is_covered_sign}
use Rattle.spl_covered.proofs.spl_word_operators_proofs.OperatorLemmas.{truths, of_true, either}
use Rattle.spl_covered.specs.spl_byte_tests.Elements.{is_moved_place, is_byte_element}
use Rattle.spl_covered.specs.spl_names.Names.{read_with, is_led_element, is_addressed_element, is_wide_element}
use Rattle.spl_covered.specs.spl_whom.Whom.{is_word_call, is_double_call, IsCalled, a_procedure, a_subroutine, an_intrinsic as an_answer, profile_called}
use Rattle.spl_covered.proofs.spl_whom_proofs.NameLemmas.{word_case, double_case, called_is}
use Rattle.spl_covered.specs.Covered.{is_covered, is_wide, is_covered_variable, is_wide_variable, is_covered_address, is_passed, is_covered_reference, are_covered_arguments}
use Rattle.spl_safe_values.specs.Safe.{SafeCalls}
use Rattle.spl_safe_values.specs.Laws.{CoveredValuesAreSafe, WideValuesAreSafe, ConditionsAreSafe, ArgumentsAreSafe, ReferencesAreSafe}
use Rattle.spl_safe_values.proofs.Came.{Comes, Free, One, Two, came_safe, safe_came, comes_go, comes_more, comes_done, comes_step, comes_dropped, comes_one}
use Rattle.spl_safe_values.proofs.Stores.{read_comes}
use Rattle.spl_safe_values.proofs.Operators.{joined_comes, double_relation_comes, double_sum_comes, connected_comes, signed_comes, double_signed_comes, shift_comes, field_comes, transferred_comes, low_comes, extended_comes, doubled_comes, passed_comes}
use Rattle.spl_safe_values.proofs.Bytes.{Narrow, counted_comes, text_comes, told_word}
use Rattle.spl_safe_values.proofs.IntrinsicLemmas.{served_comes}
use Rattle.spl_safe_values.proofs.Locations.{led_kind, IsLed, name_comes, element_comes}
use Rattle.spl_safe_values.proofs.Names.{HasKind, Found, FoundElements, location_wide, led_is, addressed_location, addressed_elements, element_found, wide_element_found}
use Rattle.spl_safe_values.proofs.KindLemmas.{asked_arguments, IsConstant, led_sense, name_found, wide_found, by_operator, covered_word, sum_parts, wide_kind}

-- ---- parts

-- a string of one or two characters is a word
text_done_comes : (o : Option ℕ) → is_some o ≡ true → Comes One (text_done o)
text_done_comes (Some w) e = comes_done (w % 65536 ∷ []) refl
text_done_comes None e = absurd (false≢true e)

-- the address of what a reference names
address_comes : (p : Located) → Comes One (address_done p)
address_comes p = comes_done (p.address % 65536 ∷ []) refl

-- a value that is read there
pub led_read : (o : Option Sort) (words : ℕ) (f : State → Outcome Located) → HasKind (access_of o) words → Comes (IsLed (access_of o)) f
    → Comes (λ vs. length vs ≡ words) (λ s. then_go (f s) (λ p s1. read p s1))
led_read o words f r h =
    comes_go h (λ p led. comes_more (read_comes p) (λ vs e. e ∙ location_wide (led_kind (access_of o)) r.type p.kind words r.is r.wide led))

-- a kind that is BYTE has one word
byte_narrow : (o : Option Kind) (t : Kind) → is_byte o ≡ true → o ≡ Some t → width t ≡ 1
byte_narrow (Some kind.Byte) t e is = let q : kind.Byte ≡ t = cc in sym (ap width q)
byte_narrow (Some kind.Integer) t e is = absurd (false≢true e)
byte_narrow (Some kind.Logical) t e is = absurd (false≢true e)
byte_narrow (Some kind.Double) t e is = absurd (false≢true e)
byte_narrow None t e is = absurd (false≢true e)

-- an argument as its parameter holds it
argument_comes : (f : Formal) (word double led : Bool) (v : State → Outcome (List ℕ)) (l : State → Outcome Located)
    → is_passed (by_value f) f.kind word double led ≡ true → (word ≡ true → Comes One v) → (double ≡ true → Comes Two v)
    → (led ≡ true → Comes Free l) → Comes (λ ws. length ws ≡ formal_words f) (argument f v l)
argument_comes f word double led v l e one two three = by (by_value f) f.kind e
  where
    by : (b : Bool) (t : Option Kind) → is_passed b t word double led ≡ true
        → Comes (λ ws. length ws ≡ value_words b t) (λ s. if b then then_go (v s) (λ vs s1. passed t vs s1) else then_go (l s) address_done)
    by true (Some kind.Double) h = comes_go (two h) (λ vs wide. passed_comes kind.Double vs wide)
    by true (Some kind.Integer) h = comes_go (one h) (λ vs wide. passed_comes kind.Integer vs wide)
    by true (Some kind.Logical) h = comes_go (one h) (λ vs wide. passed_comes kind.Logical vs wide)
    by true (Some kind.Byte) h = comes_go (one h) (λ vs wide. passed_comes kind.Byte vs wide)
    by true None h = absurd (false≢true h)
    by false t h = comes_go (three h) (λ p _. address_comes p)

-- ---- the tree

module _ (may : Who → Bool) (c : Scope) (results : List ℕ → Option (Kind × Place)) (st : Setting) (call : Callee) (calls : SafeCalls may c.names call) where
  abbrev here : Here
  here = read_with c results st

  -- a call of a procedure or a subroutine, or of an intrinsic, behind its arguments
  callee_comes : (x : List ℕ) (who : Who) (p : Profile) (ws : List ℕ) (k : ℕ) → sense_of x (c.names x) ≡ a_call who p → may who ≡ true
      → length ws ≡ formals_words p.formals → Comes (λ vs. length vs ≡ result_words p) (call who ws k)
  callee_comes x who p ws k is allowed fits = record {
    is = λ s e. safe_came (λ vs. length vs ≡ result_words p) (call who ws k s) (calls.safe x who p is allowed ws k s fits e) (calls.fit x who p is ws k s);
  }

  -- the value of a name, by its sense
  abbrev value_as : List ℕ → Trees → ℕ → Sense → State → Outcome (List ℕ)
  value_as x es k sense s =
      named_value here x sense (λ s1. index here call es k s1) (λ p s1. arguments here call p.formals es (k + result_words p) s1) call k s

  routine_comes : (x : List ℕ) (es : Trees) (k words : ℕ) (who : Who) (p : Profile) → sense_of x (c.names x) ≡ a_call who p → may who ≡ true
      → result_words p ≡ words → Comes (λ ws. length ws ≡ formals_words p.formals) (arguments here call p.formals es (k + result_words p))
      → Comes (λ vs. length vs ≡ words) (value_as x es k (sense_of x (c.names x)))
  routine_comes x es k words who p is allowed wide given =
      subst (λ (sense : Sense). Comes (λ vs. length vs ≡ words) (value_as x es k sense)) (sym is)
      (comes_step (comes_go given (λ ws fits. comes_more (callee_comes x who p ws k is allowed fits) (λ vs e. e ∙ wide))))

  intrinsic_comes : (x : List ℕ) (es : Trees) (k words : ℕ) (i : Intrinsic) → c.names x ≡ Some (n.intrinsic i) → answer_words i ≡ words
      → Comes (λ ws. length ws ≡ formals_words (intrinsic_profile i).formals)
      (arguments here call (intrinsic_profile i).formals es (k + result_words (intrinsic_profile i)))
      → Comes (λ vs. length vs ≡ words) (value_as x es k (sense_of x (c.names x)))
  intrinsic_comes x es k words i is wide given =
      subst (λ (o : Option Sort). Comes (λ vs. length vs ≡ words) (value_as x es k (sense_of x o))) (sym is)
      (comes_dropped (comes_go given (λ ws _. comes_more (served_comes i ws) (λ vs e. e ∙ wide))))

  called_comes : (x : List ℕ) (es : Trees) (k words : ℕ) (r : IsCalled may st x (c.names x) words)
      → Comes (λ ws. length ws ≡ formals_words (profile_called r).formals)
      (arguments here call (profile_called r).formals es (k + result_words (profile_called r)))
      → Comes (λ vs. length vs ≡ words) (value_as x es k (sense_of x (c.names x)))
  called_comes x es k words (a_procedure p is allowed whole wide) given =
      routine_comes x es k words (procedure x) p (ap (λ (o : Option Sort). sense_of x o) is) allowed wide given
  called_comes x es k words (a_subroutine p is allowed wide) given =
      routine_comes x es k words (subroutine x) p (ap (λ (o : Option Sort). sense_of x o) is) allowed wide given
  called_comes x es k words (an_answer i is named whole wide) given = intrinsic_comes x es k words i is wide given

  -- the arguments of what a name stands for
  arguments_of : (x : List ℕ) (es : Trees) (k words : ℕ) (r : IsCalled may st x (c.names x) words) → asked_arguments may c st x es k ≡ true
      → are_covered_arguments may c st (profile_called r).formals es (k + result_words (profile_called r)) ≡ true
  arguments_of x es k words r e =
      subst (λ (o : Option Profile). are_covered_arguments may c st (profile_formals o) es (k + profile_result_words o) ≡ true) (called_is may st x (c.names x) words r) e

  -- a name that is a variable, by itself and at an index
  variable_comes : (x : List ℕ) (k words : ℕ) → Found (access_of (c.names x)) (c.places x) words
      → Comes (λ vs. length vs ≡ words) (value_as x tree.Trees.none k (sense_of x (c.names x)))
  variable_comes x k words r =
      subst (λ (sense : Sense). Comes (λ vs. length vs ≡ words) (value_as x tree.Trees.none k sense)) (sym (led_sense x (c.names x) r.kind'.type r.kind'.is))
      (led_read (c.names x) words (λ s. locate here x None s) r.kind' (name_comes here x (access_of (c.names x)) r.found))

  index_comes : (i : Tree) (k : ℕ) → Comes One (value here call i k) → Comes Free (index here call (tree.Trees.and i tree.Trees.none) k)
  index_comes i k h = comes_go h (λ vs one. comes_one vs one (λ w. comes_done (Some w) tt))

  element_value : (x : List ℕ) (i : Tree) (k words : ℕ) → FoundElements (access_of (c.names x)) (c.places x) words → Comes One (value here call i k)
      → Comes (λ vs. length vs ≡ words) (value_as x (tree.Trees.and i tree.Trees.none) k (sense_of x (c.names x)))
  element_value x i k words r h =
      subst (λ (sense : Sense). Comes (λ vs. length vs ≡ words) (value_as x (tree.Trees.and i tree.Trees.none) k sense))
      (sym (led_sense x (c.names x) r.kind'.type r.kind'.is))
      (comes_go (index_comes i k h) (λ j _.
      led_read (c.names x) words (λ s. locate here x j s) r.kind' (element_comes here x (access_of (c.names x)) j r.found)))

  -- a constant
  constant_comes : (x : List ℕ) (k : ℕ) → IsConstant (c.names x) → Comes One (value_as x tree.Trees.none k (sense_of x (c.names x)))
  constant_comes x k r =
      subst (λ (o : Option Sort). Comes One (value_as x tree.Trees.none k (sense_of x o))) (sym r.is) (comes_done (word_of r.value ∷ []) refl)

  -- what a reference names, by its kind
  abbrev IsReferenced : Tree → Located → Type 0
  IsReferenced e p = reference_kind c.names e ≡ Some p.kind

  byte_kind : (e : Tree) → is_byte_element c st e ≡ true → is_byte (reference_kind c.names e) ≡ true
  byte_kind (tree.Tree.named x es at) e = (both (is_byte (variable_kind (c.names x))) (is_moved_place st (access_of (c.names x))) e).0
  byte_kind t e = absurd (false≢true e)

  bytes_narrow : (e : Tree) (p : Located) → is_byte_element c st e ≡ true → IsReferenced e p → Narrow p
  bytes_narrow e p h is = byte_narrow (reference_kind c.names e) p.kind (byte_kind e h) is

  -- an operator of two operands, by whether it is AND or OR, and whether it compares a string
  abbrev binary_as : ℕ → Tree → Tree → ℕ → Bool → Bool → State → Outcome (List ℕ)
  binary_as o a b k connective text s =
      if connective then then_go (value here call a k s) (λ vs s1. connected o vs s1 (λ s2. value here call b k s2))
      else if text then then_go (located here call a k s) (λ p s1. relation_told (relation_number o) (compared_text p (text_bytes b) s1))
      else then_go (value here call a k s) (λ vs s1. then_go (value here call b (k + operand_width (kind_of c.names a)) s1) (λ us s2. joined o (kind_of c.names a) (kind_of c.names b) vs us s2))

  abbrev is_text : ℕ → Tree → Tree → Bool
  is_text o a b = compares_text c.names o a b

  -- what holds of both kinds as DOUBLEs holds of the kinds
  doubles_joined : (P : List ℕ → Type 0) (o : ℕ) (x y : Operand) (vs us : List ℕ) → x ≡ of kind.Double → y ≡ of kind.Double
      → Comes P (joined o (of kind.Double) (of kind.Double) vs us) → Comes P (joined o x y vs us)
  doubles_joined P o x y vs us left right h =
      subst (λ (u : Operand). Comes P (joined o u y vs us)) (sym left)
      (subst (λ (v : Operand). Comes P (joined o (of kind.Double) v vs us)) (sym right) h)

  mutual
    -- values of one word
    covered_comes : (e : Tree) (k : ℕ) → is_covered may c st e k ≡ true → Comes One (value here call e k)
    covered_comes (tree.Tree.number v) k e = comes_done (v % 65536 ∷ []) refl
    covered_comes (tree.Tree.truth b) k e = comes_done (truth_word b ∷ []) refl
    covered_comes (tree.Tree.text bytes) k e = text_done_comes (text_value bytes) e
    covered_comes (tree.Tree.named x es at) k e =
        ⊎_elim (λ own. named_comes x es k own)
        (λ other. let two = both (is_word_call may st x (c.names x)) (asked_arguments may c st x es k) other in
        let r = word_case may st x (c.names x) two.0 in
        called_comes x es k 1 r
        (arguments_come (profile_called r).formals es (k + result_words (profile_called r)) (arguments_of x es k 1 r two.1)))
        (either (is_covered_variable may c st x es k) (is_word_call may st x (c.names x) && asked_arguments may c st x es k) e)
    covered_comes (tree.Tree.address x tree.Trees.none at) k e =
        comes_go (name_comes here x (access_of (c.names x)) (addressed_location st k (access_of (c.names x)) (c.places x) e)) (λ p _. address_comes p)
    covered_comes (tree.Tree.address x (tree.Trees.and i tree.Trees.none) at) k e =
        let two = both (is_addressed_element st k (access_of (c.names x)) (c.places x)) (is_covered may c st i k) e in
        comes_go (index_comes i k (covered_comes i k two.1)) (λ j _.
        comes_go (element_comes here x (access_of (c.names x)) j (addressed_elements st k (access_of (c.names x)) (c.places x) two.0)) (λ p _. address_comes p))
    covered_comes (tree.Tree.address x (tree.Trees.and i (tree.Trees.and j js)) at) k e = absurd (false≢true e)
    covered_comes (tree.Tree.unary o a at) k e =
        let two = both (is_covered_sign o) (is_covered may c st a k) e in
        comes_go (covered_comes a k two.1) (λ vs one. signed_comes o (kind_of c.names a) vs (covered_word may c st a k two.1) one)
    covered_comes (tree.Tree.shift o a by at) k e =
        let two = both (nat_lt o 6 && nat_lt (small_constant c.names by) 64) (is_covered may c st a k) e in
        comes_go (covered_comes a k two.1) (λ vs one. shift_comes o (small_constant c.names by) vs one)
    covered_comes (tree.Tree.field a start size at) k e =
        let two = both (nat_le 1 (small_constant c.names size) && nat_le (small_constant c.names start + small_constant c.names size) 16) (is_covered may c st a k) e in
        comes_go (covered_comes a k two.1) (λ vs one. field_comes (small_constant c.names start) (small_constant c.names size) vs one)
    covered_comes (tree.Tree.transfer to a at) k e =
        let two = both (is_single to) (is_covered may c st a k || is_wide may c st a k) e in
        ⊎_elim (λ word. comes_go (covered_comes a k word) (λ vs one. transferred_comes to (kind_of c.names a) vs two.0 one))
        (λ wide. comes_go (wide_comes a k wide) (λ vs pair. low_comes to (kind_of c.names a) vs two.0 pair))
        (either (is_covered may c st a k) (is_wide may c st a k) two.1)
    covered_comes (tree.Tree.binary o a b at) k e =
        ⊎_elim
        (λ i. let parts = both (is_covered may c st a k) (is_covered may c st b k) (of_true (is_connective o) _ _ i e) in
        subst (λ (t : Bool). Comes One (binary_as o a b k t (is_text o a b))) (sym i)
        (comes_go (covered_comes a k parts.0) (λ vs one. connected_comes o vs (value here call b k) one (covered_comes b k parts.1))))
        (λ i. subst (λ (t : Bool). Comes One (binary_as o a b k t (is_text o a b))) (sym i)
        (by_operator may c st o a b at k i e
        (λ r. subst (λ (t : Bool). Comes One (binary_as o a b k false t)) (sym r.apart)
        (comes_go (covered_comes a k r.left) (λ vs one. comes_go (covered_comes b (k + operand_width (kind_of c.names a)) r.right) (λ us other.
        joined_comes o (kind_of c.names a) (kind_of c.names b) vs us r.class one other))))
        (λ r. subst (λ (t : Bool). Comes One (binary_as o a b k false t)) (sym r.apart)
        (comes_go (wide_comes a k r.left) (λ vs pair. comes_go (wide_comes b (k + operand_width (kind_of c.names a)) r.right) (λ us other.
        doubles_joined One o (kind_of c.names a) (kind_of c.names b) vs us (wide_kind may c st a k r.left)
        (wide_kind may c st b (k + operand_width (kind_of c.names a)) r.right) (double_relation_comes o vs us r.relation pair other)))))
        (λ r. subst (λ (t : Bool). Comes One (binary_as o a b k false t)) (sym r.compares)
        (comes_go (reference_comes a k r.reference') (λ p led.
        told_word (relation_number o) (compared_text p (text_bytes b)) (text_comes p (text_bytes b) (bytes_narrow a p r.bytes led)))))))
        (truths (is_connective o))
    covered_comes (tree.Tree.bytes o a b count at) k e =
        let two = both (is_byte_element c st a && is_covered_reference may c st a k)
        ((is_byte_element c st b && is_covered_reference may c st b (k + 1)) && is_covered may c st count (k + 2)) e in
        let first = both (is_byte_element c st a) (is_covered_reference may c st a k) two.0 in
        let rest = both (is_byte_element c st b && is_covered_reference may c st b (k + 1)) (is_covered may c st count (k + 2)) two.1 in
        let next = both (is_byte_element c st b) (is_covered_reference may c st b (k + 1)) rest.0 in
        comes_go (reference_comes a k first.1) (λ p led. comes_go (reference_comes b (k + 1) next.1) (λ q leads.
        comes_go (covered_comes count (k + 2) rest.1) (λ vs one. comes_one vs one (λ size.
        told_word o (compared_by size p q) (counted_comes size p q (bytes_narrow a p first.0 led) (bytes_narrow b q next.0 leads))))))
    covered_comes (tree.Tree.wide v) k e = absurd (false≢true e)

    named_comes : (x : List ℕ) (es : Trees) (k : ℕ) → is_covered_variable may c st x es k ≡ true → Comes One (value_as x es k (sense_of x (c.names x)))
    named_comes x tree.Trees.none k e =
        ⊎_elim (λ r. constant_comes x k r) (λ r. variable_comes x k 1 r) (name_found st k (c.names x) (c.places x) e)
    named_comes x (tree.Trees.and i tree.Trees.none) k e =
        let two = both (is_led_element st k (access_of (c.names x)) (c.places x)) (is_covered may c st i k) e in
        element_value x i k 1 (element_found st k (access_of (c.names x)) (c.places x) two.0) (covered_comes i k two.1)
    named_comes x (tree.Trees.and i (tree.Trees.and j js)) k e = absurd (false≢true e)

    -- of two
    wide_comes : (e : Tree) (k : ℕ) → is_wide may c st e k ≡ true → Comes Two (value here call e k)
    wide_comes (tree.Tree.wide v) k e = comes_done (double_words (v % 4294967296)) refl
    wide_comes (tree.Tree.named x es at) k e =
        ⊎_elim (λ own. wide_named_comes x es k own)
        (λ other. let two = both (is_double_call may st x (c.names x)) (asked_arguments may c st x es k) other in
        let r = double_case may st x (c.names x) two.0 in
        called_comes x es k 2 r
        (arguments_come (profile_called r).formals es (k + result_words (profile_called r)) (arguments_of x es k 2 r two.1)))
        (either (is_wide_variable may c st x es k) (is_double_call may st x (c.names x) && asked_arguments may c st x es k) e)
    wide_comes (tree.Tree.transfer kind.Double a at) k e =
        ⊎_elim (λ word. let two = both (is_word_operand (kind_of c.names a)) (is_covered may c st a k) word in
        comes_go (covered_comes a k two.1) (λ vs one. extended_comes (kind_of c.names a) vs two.0 one))
        (λ wide. comes_go (wide_comes a k wide) (λ vs pair.
        subst (λ (x : Operand). Comes Two (extended x vs)) (sym (wide_kind may c st a k wide)) (doubled_comes vs pair)))
        (either (is_word_operand (kind_of c.names a) && is_covered may c st a k) (is_wide may c st a k) e)
    wide_comes (tree.Tree.unary o a at) k e =
        let two = both ((o == positive) || (o == negative)) (is_wide may c st a k) e in
        comes_go (wide_comes a k two.1) (λ vs pair.
        subst (λ (x : Operand). Comes Two (signed_done o x vs)) (sym (wide_kind may c st a k two.1)) (double_signed_comes o vs two.0 pair))
    wide_comes (tree.Tree.binary o a b at) k e =
        let parts = sum_parts may c st o a b at k e in
        let left = wide_kind may c st a k parts.1 in
        let right = wide_kind may c st b (k + operand_width (kind_of c.names a)) parts.2 in
        ⊎_elim (λ is. subst (λ (j : ℕ). Comes Two (value here call (tree.Tree.binary j a b at) k)) (sym is)
        (comes_go (wide_comes a k parts.1) (λ vs pair. comes_go (wide_comes b (k + operand_width (kind_of c.names a)) parts.2) (λ us other.
        doubles_joined Two plus (kind_of c.names a) (kind_of c.names b) vs us left right (double_sum_comes plus vs us (inl refl) pair other)))))
        (λ is. subst (λ (j : ℕ). Comes Two (value here call (tree.Tree.binary j a b at) k)) (sym is)
        (comes_go (wide_comes a k parts.1) (λ vs pair. comes_go (wide_comes b (k + operand_width (kind_of c.names a)) parts.2) (λ us other.
        doubles_joined Two minus (kind_of c.names a) (kind_of c.names b) vs us left right (double_sum_comes minus vs us (inr refl) pair other)))))
        (sum_cases o parts.0)
    wide_comes t k e = absurd (false≢true e)

    wide_named_comes : (x : List ℕ) (es : Trees) (k : ℕ) → is_wide_variable may c st x es k ≡ true → Comes Two (value_as x es k (sense_of x (c.names x)))
    wide_named_comes x tree.Trees.none k e = variable_comes x k 2 (wide_found may c st x k e)
    wide_named_comes x (tree.Trees.and i tree.Trees.none) k e =
        let two = both (is_wide_element st k (access_of (c.names x)) (c.places x)) (is_covered may c st i k) e in
        element_value x i k 2 (wide_element_found st k (access_of (c.names x)) (c.places x) two.0) (covered_comes i k two.1)
    wide_named_comes x (tree.Trees.and i (tree.Trees.and j js)) k e = absurd (false≢true e)

    -- references
    place_comes : (x : List ℕ) (es : Trees) (at : At) (k : ℕ) → is_covered_address may c st x es k ≡ true
        → Comes (IsLed (access_of (c.names x))) (located here call (tree.Tree.named x es at) k)
    place_comes x tree.Trees.none at k e = name_comes here x (access_of (c.names x)) (addressed_location st k (access_of (c.names x)) (c.places x) e)
    place_comes x (tree.Trees.and i tree.Trees.none) at k e =
        let two = both (is_addressed_element st k (access_of (c.names x)) (c.places x)) (is_covered may c st i k) e in
        comes_go (index_comes i k (covered_comes i k two.1)) (λ j _.
        element_comes here x (access_of (c.names x)) j (addressed_elements st k (access_of (c.names x)) (c.places x) two.0))
    place_comes x (tree.Trees.and i (tree.Trees.and j js)) at k e = absurd (false≢true e)

    reference_comes : (e : Tree) (k : ℕ) → is_covered_reference may c st e k ≡ true → Comes (IsReferenced e) (located here call e k)
    reference_comes (tree.Tree.named x es at) k h = comes_more (place_comes x es at k h) (λ p led. sym (led_is (c.names x)) ∙ led)
    reference_comes e k h = absurd (false≢true h)

    -- and arguments
    arguments_come : (fs : List Formal) (es : Trees) (k : ℕ) → are_covered_arguments may c st fs es k ≡ true
        → Comes (λ ws. length ws ≡ formals_words fs) (arguments here call fs es k)
    arguments_come [] tree.Trees.none k h = comes_done [] refl
    arguments_come (f ∷ fs) (tree.Trees.and e es) k h =
        let two = both (is_passed (by_value f) f.kind (is_covered may c st e k) (is_wide may c st e k) (is_covered_reference may c st e k))
        (are_covered_arguments may c st fs es (k + formal_words f)) h in
        comes_go (argument_comes f (is_covered may c st e k) (is_wide may c st e k) (is_covered_reference may c st e k) (λ s1. value here call e k s1)
        (λ s1. located here call e k s1) two.0 (λ i. covered_comes e k i) (λ i. wide_comes e k i) (λ i. comes_more (reference_comes e k i) (λ p _. tt)))
        (λ ws p. comes_go (arguments_come fs es (k + formal_words f) two.1) (λ vs q.
        comes_done (ws ++ vs) (length-append ws vs ∙ ap (λ m. m + length vs) p ∙ ap (λ m. formal_words f + m) q)))
    arguments_come [] (tree.Trees.and e es) k h = absurd (false≢true h)
    arguments_come (f ∷ fs) tree.Trees.none k h = absurd (false≢true h)

-- ---- what is passed on: parts that come to their words

module _ (may : Who → Bool) (c : Scope) (results : List ℕ → Option (Kind × Place)) (st : Setting) (call : Callee) (calls : SafeCalls may c.names call) where
  pub values_come : (e : Tree) (k : ℕ) → is_covered may c st e k ≡ true → Comes One (value (read_with c results st) call e k)
  values_come e k h = covered_comes may c results st call calls e k h

  pub doubles_come : (e : Tree) (k : ℕ) → is_wide may c st e k ≡ true → Comes Two (value (read_with c results st) call e k)
  doubles_come e k h = wide_comes may c results st call calls e k h

  pub references_come : (e : Tree) (k : ℕ) → is_covered_reference may c st e k ≡ true
      → Comes (λ p. reference_kind c.names e ≡ Some p.kind) (located (read_with c results st) call e k)
  references_come e k h = reference_comes may c results st call calls e k h

  pub words_come : (fs : List Formal) (es : Trees) (k : ℕ) → are_covered_arguments may c st fs es k ≡ true
      → Comes (λ ws. length ws ≡ formals_words fs) (arguments (read_with c results st) call fs es k)
  words_come fs es k h = arguments_come may c results st call calls fs es k h

  -- a name that calls a procedure or a subroutine which may be called, with a result or without
  pub routines_come : (x : List ℕ) (es : Trees) (at : At) (k : ℕ) (who : Who) (p : Profile) → sense_of x (c.names x) ≡ a_call who p → may who ≡ true
      → are_covered_arguments may c st p.formals es (k + result_words p) ≡ true
      → Comes (λ vs. length vs ≡ result_words p) (value (read_with c results st) call (tree.Tree.named x es at) k)
  routines_come x es at k who p is allowed covered =
      routine_comes may c results st call calls x es k (result_words p) who p is allowed refl (words_come p.formals es (k + result_words p) covered)

  -- a condition, and an index
  pub conditions_come : (e : Tree) (k : ℕ) → is_covered may c st e k ≡ true → Comes Free (condition (read_with c results st) call e k)
  conditions_come e k h = comes_go (values_come e k h) (λ vs one. comes_one vs one (λ w. comes_done (is_odd w) tt))

  pub indices_come : (e : Tree) (k : ℕ) → is_covered may c st e k ≡ true
      → Comes Free (index (read_with c results st) call (tree.Trees.and e tree.Trees.none) k)
  indices_come e k h = comes_go (values_come e k h) (λ vs one. comes_one vs one (λ w. comes_done (Some w) tt))

-- ---- the laws

pub covered_safe : CoveredValuesAreSafe
covered_safe may c results st call e k s calls h whole = came_safe One _ ((values_come may c results st call calls e k h).is s whole)

pub wide_safe : WideValuesAreSafe
wide_safe may c results st call e k s calls h whole = came_safe Two _ ((doubles_come may c results st call calls e k h).is s whole)

pub conditions_safe : ConditionsAreSafe
conditions_safe may c results st call e k s calls h whole = came_safe Free _ ((conditions_come may c results st call calls e k h).is s whole)

pub arguments_safe : ArgumentsAreSafe
arguments_safe may c results st call fs es k s calls h whole =
    came_safe (λ ws. length ws ≡ formals_words fs) _ ((words_come may c results st call calls fs es k h).is s whole)

pub references_safe : ReferencesAreSafe
references_safe may c results st call e k s calls h whole =
    came_safe (λ (p : Located). reference_kind c.names e ≡ Some p.kind) _ ((references_come may c results st call calls e k h).is s whole)
