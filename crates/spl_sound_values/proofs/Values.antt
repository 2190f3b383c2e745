-- Expressions that break no rule are covered, along the tree: values, indices, arguments and references.
use Rattle.std.proofs.Common.{◌≡◌, ℕ, suc, ◌+◌, ◌==◌, ◌&&◌, ◌||◌, not, nat_lt, Bool, true, false, if◌then◌else◌, List, [], ◌∷◌, ◌++◌, length, Option, Some, None, is_some, refl, sym, subst, ap, ◌∙◌, arith}
use Rattle.std.specs.List.{list_all}
use Rattle.std.proofs.lemmas.Bool.{and_from, or_left, or_right, and_parts, eqb-true, eq-eqb}
use Rattle.spl_shapes.specs.spl_tree.declared.names_and_places.At.{At}
use Rattle.spl_shapes.specs.spl_tree.declared.expressions.Kind.{Kind}
use Rattle.spl_shapes.specs.spl_tree.declared.expressions.Kind.TheVariants as kind
use Rattle.spl_shapes.specs.spl_tree.Trees as tree
use Rattle.spl_shapes.specs.spl_tree.Trees.{Tree, Trees, Constant}
use Rattle.spl_near_places.specs.spl_meaning.Names.{Formal, Profile, text_value}
use Rattle.spl_near_places.specs.spl_meaning.Kinds.{is_double, is_unknown, kind_of, reference_kind, callable, compares_text, complement, positive, negative}
use Rattle.spl_near_places.specs.spl_meaning.Limits.{use_of, uses, uses_among}
use Rattle.spl_near_places.specs.spl_meaning.Pending.{by_value, formal_words, profile_formals, profile_result_words, left_words}
use Rattle.spl_near_places.specs.spl_meaning.References.{Setting}
use Rattle.spl_near_places.specs.spl_meaning.Values.{Who, small_constant}
use Rattle.spl_near_places.specs.spl_meaning.Faults.{Fault, fault, unless}
use Rattle.spl_near_places.specs.spl_meaning.ExpressionRules as rule
use Rattle.spl_near_places.specs.spl_meaning.ExpressionRules.{rule_kind, rule_reference, may_compare_text, count, place_in, constant_place, constant_faults, in_range, field_faults, is_pointer, is_callable, may_be_byte, name_by, variable_faults, single_faults, bits_faults, is_bits, binary_faults, own_faults, argument_faults, far_faults, faults, located_faults, indices_faults, arguments_faults}
use Rattle.spl_near_places.specs.spl_meaning.Names.{constant_value}
use Rattle.std.specs.Prelude.{pos}
use Rattle.spl_near_places.specs.spl_code.Calls.{Scope}
use Rattle.spl_covered.specs.spl_operators.Laws.{is_word_operand}
use Rattle.spl_covered.specs.spl_word_operators.Operators.{is_covered_sign}
use Rattle.spl_covered.specs.Covered.{is_passed, is_covered, is_wide, is_covered_reference, are_covered_arguments}
use Rattle.spl_near_places.specs.spl_places.Programs.{Each}
use Rattle.spl_shapes.specs.Shapes.{is_shaped, are_shaped, is_reference, is_one_at_most}
use Rattle.spl_near_places.proofs.spl_meaning_proofs.RuleKinds.{same_kind, same_located, others_none}
use Rattle.spl_near_places.proofs.spl_sound_names_proofs.Tables.{left_none, right_none, clash, unless_none, never}
use Rattle.spl_sound_values.specs.Seen.{Seen, UseAllowed}
use Rattle.spl_sound_values.specs.Laws.{SoundValuesAreCovered}
use Rattle.spl_sound_values.proofs.Parts.{each_left, each_right, not_so, ruled, ruled_same, ruled_seen}
use Rattle.spl_sound_values.proofs.Variables.{variable_cases, variable_is, variable_seen}
use Rattle.spl_sound_values.proofs.Names.{is_covered_index, variable_covered}
use Rattle.spl_sound_values.proofs.Constants.{shift_small, field_small}
use Rattle.spl_sound_values.proofs.Operands.{bits_single, word_operand, sign_covered, sign_known, sign_word, sign_wide}
use Rattle.spl_sound_values.proofs.Calls.{argument_covered, ValueCovered}
use Rattle.spl_sound_values.proofs.NamedValues.{named_covered}
use Rattle.spl_sound_values.proofs.Binary.{plain_sound, binary_covered}
use Rattle.spl_sound_values.proofs.Bytes.{text_covered, ReferenceCovered, bytes_covered}

-- ---- what has one word

-- a value for one word is no DOUBLE
pub single_sound : (sc : rule.Scope) (at : At) (e : Tree) → faults sc at e ≡ [] → single_faults sc.names at e ≡ [] → is_double (kind_of sc.names e) ≡ false
single_sound sc at (tree.Tree.wide v) own none = clash (fault 14 at) [] none
single_sound sc at e own none =
    sym (ap is_double (same_kind sc at e own)) ∙ not_so (is_double (rule_kind sc.names e)) (unless_none (not (is_double (rule_kind sc.names e))) 23 (place_in at e) none)

-- what is no DOUBLE by the rules is none
narrow_sound : (sc : rule.Scope) (at : At) (e : Tree) → faults sc at e ≡ [] → unless (not (is_double (rule_kind sc.names e))) 5 at ≡ []
    → unless (not (is_double (kind_of sc.names e))) 5 at ≡ []
narrow_sound sc at e own = subst (λ o. unless (not (is_double o)) 5 at ≡ []) (same_kind sc at e own)

-- where a test decides what faults there are
pub by_test : {A : Type 0} (b : Bool) (xs ys : List Fault) → (b ≡ true → xs ≡ [] → A) → (b ≡ false → ys ≡ [] → A) → (if b then xs else ys) ≡ [] → A
by_test true xs ys holds fails none = holds refl none
by_test false xs ys holds fails none = fails refl none

-- a value of one word
word_value : (may : Who → Bool) (c : Scope) (st : Setting) (e : Tree) (k : ℕ) → is_unknown (kind_of c.names e) ≡ false → is_double (kind_of c.names e) ≡ false
    → (is_some (reference_kind c.names e) ≡ true → is_covered_reference may c st e k ≡ true) → is_covered may c st e k ≡ true → ValueCovered may c st e k
word_value may c st e k known single reference covered =
    record { known = known; word = λ is. covered; wide = λ double. never (sym single ∙ double); reference = reference }

-- one less of each
fewer : (i j : ℕ) → (1 + i == suc j) ≡ true → (i == j) ≡ true
fewer i j is = eq-eqb i j (omega (arith, eqb-true (1 + i) (suc j) is))

-- ---- one operand

module _ (may : Who → Bool) (c : Scope) (st : Setting) (rules : rule.Scope) (seen : Seen may c st (ruled c st rules)) where
  abbrev sc : rule.Scope
  sc = ruled c st rules

  -- a sign, or NOT
  sign_value : (op : ℕ) (e : Tree) (at : At) (k : ℕ) → nat_lt op 3 ≡ true → (if op == complement then unless (is_bits (kind_of c.names e)) 7 (place_in at e) else []) ≡ []
      → ValueCovered may c st e k → ValueCovered may c st (tree.Tree.unary op e at) k
  sign_value op e at k few none v = record {
    known = sign_known op (kind_of c.names e) few v.known;
    word = λ single.
        and_from (is_covered_sign op) (is_covered may c st e k) (sign_covered op few)
        (v.word (sign_word op (kind_of c.names e) few
        (λ is. bits_single (kind_of c.names e)
        (unless_none (is_bits (kind_of c.names e)) 7 (place_in at e) (sym (ap (λ (b : Bool). if b then unless (is_bits (kind_of c.names e)) 7 (place_in at e) else []) is) ∙ none))) single));
    wide = λ double.
        let parts = sign_wide op (kind_of c.names e) few double in
        and_from ((op == positive) || (op == negative)) (is_wide may c st e k) parts.0 (v.wide parts.1);
    reference = never;
  }

  -- a transfer
  either_width : (b : Bool) (e : Tree) (k : ℕ) → is_double (kind_of c.names e) ≡ b → ValueCovered may c st e k
      → (is_covered may c st e k || is_wide may c st e k) ≡ true
  either_width true e k is v = or_right (is_covered may c st e k) (is_wide may c st e k) (v.wide is)
  either_width false e k is v = or_left (is_covered may c st e k) (is_wide may c st e k) (v.word is)

  widened : (b : Bool) (e : Tree) (k : ℕ) → is_double (kind_of c.names e) ≡ b → ValueCovered may c st e k
      → ((is_word_operand (kind_of c.names e) && is_covered may c st e k) || is_wide may c st e k) ≡ true
  widened true e k is v = or_right (is_word_operand (kind_of c.names e) && is_covered may c st e k) (is_wide may c st e k) (v.wide is)
  widened false e k is v =
      or_left (is_word_operand (kind_of c.names e) && is_covered may c st e k) (is_wide may c st e k)
      (and_from (is_word_operand (kind_of c.names e)) (is_covered may c st e k) (word_operand (kind_of c.names e) v.known is) (v.word is))

  transfer_value : (to : Kind) (e : Tree) (at : At) (k : ℕ) → ValueCovered may c st e k → ValueCovered may c st (tree.Tree.transfer to e at) k
  transfer_value kind.Integer e at k v = word_value may c st (tree.Tree.transfer kind.Integer e at) k refl refl never (either_width (is_double (kind_of c.names e)) e k refl v)
  transfer_value kind.Logical e at k v = word_value may c st (tree.Tree.transfer kind.Logical e at) k refl refl never (either_width (is_double (kind_of c.names e)) e k refl v)
  transfer_value kind.Byte e at k v = word_value may c st (tree.Tree.transfer kind.Byte e at) k refl refl never (either_width (is_double (kind_of c.names e)) e k refl v)
  transfer_value kind.Double e at k v = record {
    known = refl;
    word = λ single. never (sym single);
    wide = λ double. widened (is_double (kind_of c.names e)) e k refl v;
    reference = never;
  }

  -- a shift, and a bit field
  shift_value : (op : ℕ) (e : Tree) (count : Constant) (at : At) (k : ℕ) → nat_lt op 6 ≡ true
      → unless (not (is_double (kind_of c.names e))) 5 at ≡ [] → constant_faults c.names at count ≡ []
      → unless (in_range (pos 0) (pos 15) (constant_value c.names count)) 13 (constant_place at count) ≡ [] → ValueCovered may c st e k
      → ValueCovered may c st (tree.Tree.shift op e count at) k
  shift_value op e count at k few narrow constant range v =
      word_value may c st (tree.Tree.shift op e count at) k refl refl never
      (and_from _ _
      (and_from (nat_lt op 6) (nat_lt (small_constant c.names count) 64) few (shift_small c.names seen.known at (constant_place at count) count constant range))
      (v.word (not_so (is_double (kind_of c.names e)) (unless_none (not (is_double (kind_of c.names e))) 5 at narrow))))

  field_value : (e : Tree) (start size : Constant) (at : At) (k : ℕ) → unless (not (is_double (kind_of c.names e))) 5 at ≡ []
      → field_faults c.names start size at ≡ [] → ValueCovered may c st e k → ValueCovered may c st (tree.Tree.field e start size at) k
  field_value e start size at k narrow none v =
      word_value may c st (tree.Tree.field e start size at) k refl refl never
      (and_from _ _ (field_small c.names seen.known at start size none)
      (v.word (not_so (is_double (kind_of c.names e)) (unless_none (not (is_double (kind_of c.names e))) 5 at narrow))))

  -- ---- references

  -- one whose index is covered
  reference_value : (x : List ℕ) (es : Trees) (at : At) (k : ℕ) → variable_faults sc x (count es) at ≡ []
      → Each (UseAllowed may c) (uses c.names (tree.Tree.named x es at) k)
      → (Each (UseAllowed may c) (uses_among c.names [] es k) → is_covered_index may c st es k ≡ true)
      → ReferenceCovered may c st (tree.Tree.named x es at) k
  reference_value x es at k none us index = record {
    leads = variable_is may c st rules seen x (count es) at none;
    addressed =
        (variable_covered may c st rules seen x es at none k (variable_seen may c st rules seen x (count es) at none at k false us.0)
        (index (subst (λ (j : ℕ). Each (UseAllowed may c) (uses_among c.names [] es j)) (same k)
        (subst (λ (o : Option Profile). Each (UseAllowed may c) (uses_among c.names (profile_formals o) es (k + profile_result_words o))) uncalled us.1)))).addressed;
  }
    where
      same : (j : ℕ) → j + 0 ≡ j
      same j = omega arith

      uncalled : callable (c.names x) ≡ None
      uncalled =
          variable_cases may c st rules seen x (count es) at none (λ o. callable o ≡ None) (λ t own fits. refl) (λ t fits. refl) (λ t fits unsplit. refl)
          (λ t own fits. refl) (λ t own low high fits unsplit. refl) (λ t own base fits unsplit. refl) (λ t fits unsplit. refl)

  -- an address
  address_value : (x : List ℕ) (es : Trees) (at : At) (k : ℕ) → variable_faults sc x (count es) at ≡ [] → UseAllowed may c (use_of x at k false)
      → is_covered_index may c st es k ≡ true → ValueCovered may c st (tree.Tree.address x es at) k
  address_value x es at k none u index =
      word_value may c st (tree.Tree.address x es at) k refl refl never
      (variable_covered may c st rules seen x es at none k (variable_seen may c st rules seen x (count es) at none at k false u) index).addressed

  -- ---- along the tree

  mutual
    pub value_covered : (e : Tree) (at : At) (k : ℕ) → faults sc at e ≡ [] → is_shaped e ≡ true → Each (UseAllowed may c) (uses c.names e k)
        → ValueCovered may c st e k
    value_covered (tree.Tree.number v) at k none shaped us = word_value may c st (tree.Tree.number v) k refl refl never refl
    value_covered (tree.Tree.wide v) at k none shaped us = record { known = refl; word = λ single. never (sym single); wide = λ double. refl; reference = never }
    value_covered (tree.Tree.text bytes) at k none shaped us =
        word_value may c st (tree.Tree.text bytes) k refl refl never (unless_none (is_some (text_value bytes)) 14 at none)
    value_covered (tree.Tree.truth b) at k none shaped us = word_value may c st (tree.Tree.truth b) k refl refl never refl
    value_covered (tree.Tree.named x es a) at k none shaped us =
        let name = name_by sc x (callable (c.names x)) (count es) a in
        let others =
        if is_callable (callable (c.names x)) then arguments_faults sc (profile_formals (callable (c.names x))) es a else indices_faults sc es a in
        named_covered may c st rules seen x es a k (left_none name others none) (right_none name others none) us.0 us.1
        (λ fs j many kinds given uses. arguments_covered es fs a j many kinds given shaped uses) (λ given uses. index_covered es a k given shaped uses)
    value_covered (tree.Tree.address x es a) at k none shaped us =
        let named = variable_faults sc x (count es) a in
        let split = unless (not st.split || is_pointer (c.names x)) 27 a in
        address_value x es a k (left_none named split (left_none (named ++ split) (indices_faults sc es a) none)) us.0
        (index_covered es a k (right_none (named ++ split) (indices_faults sc es a) none) (and_parts (is_one_at_most es) (are_shaped es) shaped).1 us.1)
    value_covered (tree.Tree.unary op e a) at k none shaped us =
        let bits = if op == complement then bits_faults c.names a e else [] in
        let shape = and_parts (nat_lt op 3) (is_shaped e) shaped in
        let own = left_none (faults sc a e) bits none in
        sign_value op e a k shape.0
        (subst (λ o. (if op == complement then unless (is_bits o) 7 (place_in a e) else []) ≡ []) (same_kind sc a e own) (right_none (faults sc a e) bits none))
        (value_covered e a k own shape.1 us)
    value_covered (tree.Tree.binary op e f a) at k none shaped us =
        let parts = and_parts (nat_lt op 16 && is_shaped e) (is_shaped f) shaped in
        let front = and_parts (nat_lt op 16) (is_shaped e) parts.0 in
        let first = each_left (UseAllowed may c) (uses c.names e k) (uses c.names f (k + left_words c.names op e f)) us in
        let second = each_right (UseAllowed may c) (uses c.names e k) (uses c.names f (k + left_words c.names op e f)) us in
        let one = faults sc a e in
        let two = faults sc a f in
        let both = binary_faults c.names op e f a in
        by_test (compares_text c.names op e f) (one ++ far_faults sc e) (if may_compare_text c.names op e f then one else one ++ two ++ both)
        (λ text sound. text_covered may c st rules op e f a k front.0 text (right_none one (far_faults sc e) sound) parts.1
        (value_covered e a k (left_none one (far_faults sc e) sound) front.1 first))
        (λ apart sound.
        let all = others_none sc a op e f (one ++ two ++ both) sound in
        let operands = left_none (one ++ two) both all in
        binary_covered may c st op e f a k front.0 apart
        (plain_sound sc op e f a (left_none one two operands) (right_none one two operands) (right_none (one ++ two) both all))
        (value_covered e a k (left_none one two operands) front.1 first)
        (value_covered f a (k + left_words c.names op e f) (right_none one two operands) parts.1 second))
        none
    value_covered (tree.Tree.shift op e by a) at k none shaped us =
        let shape = and_parts (nat_lt op 6) (is_shaped e) shaped in
        let narrow = unless (not (is_double (rule_kind c.names e))) 5 a in
        let constant = constant_faults c.names a by in
        let range = unless (in_range (pos 0) (pos 15) (constant_value c.names by)) 13 (constant_place a by) in
        let front = left_none (faults sc a e ++ narrow ++ constant) range none in
        let more = left_none (faults sc a e ++ narrow) constant front in
        shift_value op e by a k shape.0 (narrow_sound sc a e (left_none (faults sc a e) narrow more) (right_none (faults sc a e) narrow more)) (right_none (faults sc a e ++ narrow) constant front)
        (right_none (faults sc a e ++ narrow ++ constant) range none) (value_covered e a k (left_none (faults sc a e) narrow more) shape.1 us)
    value_covered (tree.Tree.field e start size a) at k none shaped us =
        let narrow = unless (not (is_double (rule_kind c.names e))) 5 a in
        let front = left_none (faults sc a e ++ narrow) (field_faults c.names start size a) none in
        field_value e start size a k (narrow_sound sc a e (left_none (faults sc a e) narrow front) (right_none (faults sc a e) narrow front)) (right_none (faults sc a e ++ narrow) (field_faults c.names start size a) none)
        (value_covered e a k (left_none (faults sc a e) narrow front) shaped us)
    value_covered (tree.Tree.transfer to e a) at k none shaped us = transfer_value to e a k (value_covered e a k none shaped us)
    value_covered (tree.Tree.bytes op e f size a) at k none shaped us =
        let shape = and_parts (nat_lt op 6 && is_reference e && is_reference f) (is_shaped e && is_shaped f && is_shaped size) shaped in
        let leads = and_parts (nat_lt op 6 && is_reference e) (is_reference f) shape.0 in
        let parts = and_parts (is_shaped e && is_shaped f) (is_shaped size) shape.1 in
        let ends = and_parts (is_shaped e) (is_shaped f) parts.0 in
        let near = uses c.names e k in
        let far = uses c.names f (k + 1) in
        let match = unless (may_be_byte (rule_reference c.names e) && may_be_byte (rule_reference c.names f)) 24 a in
        let one = located_faults sc e in
        let two = far_faults sc e in
        let three = located_faults sc f in
        let four = far_faults sc f in
        let five = faults sc a size in
        let six = single_faults c.names a size in
        let to_five = left_none (one ++ two ++ three ++ four ++ match ++ five) six none in
        let to_match = left_none (one ++ two ++ three ++ four ++ match) five to_five in
        let to_four = left_none (one ++ two ++ three ++ four) match to_match in
        let to_three = left_none (one ++ two ++ three) four to_four in
        let to_two = left_none (one ++ two) three to_three in
        let front = each_left (UseAllowed may c) (near ++ far) (uses c.names size (k + 2)) us in
        bytes_covered may c st rules op e f size a k
        (sym (ap (λ (o : Option Kind). may_be_byte o && may_be_byte (reference_kind c.names f)) (same_located sc e (left_none one two to_two)))
        ∙ (sym (ap (λ (o : Option Kind). may_be_byte (rule_reference c.names e) && may_be_byte o) (same_located sc f (right_none (one ++ two) three to_three)))
        ∙ unless_none (may_be_byte (rule_reference c.names e) && may_be_byte (rule_reference c.names f)) 24 a (right_none (one ++ two ++ three ++ four) match to_match)))
        (right_none one two to_two) (right_none (one ++ two ++ three) four to_four)
        (located_covered e k (left_none one two to_two) (and_parts (nat_lt op 6) (is_reference e) leads.0).1 ends.0 (each_left (UseAllowed may c) near far front))
        (located_covered f (k + 1) (right_none (one ++ two) three to_three) leads.1 ends.1 (each_right (UseAllowed may c) near far front))
        ((value_covered size a (k + 2) (right_none (one ++ two ++ three ++ four ++ match) five to_five) parts.1
        (each_right (UseAllowed may c) (near ++ far) (uses c.names size (k + 2)) us)).word (single_sound sc a size (right_none (one ++ two ++ three ++ four ++ match) five to_five) (right_none (one ++ two ++ three ++ four ++ match ++ five) six none)))

    -- an index, where there is one
    pub index_covered : (es : Trees) (at : At) (k : ℕ) → indices_faults sc es at ≡ [] → are_shaped es ≡ true
        → Each (UseAllowed may c) (uses_among c.names [] es k) → is_covered_index may c st es k ≡ true
    index_covered tree.Trees.none at k none shaped us = refl
    index_covered (tree.Trees.and e es) at k none shaped us =
        let own = faults sc at e in
        let single = single_faults c.names at e in
        let front = left_none (own ++ single) (indices_faults sc es at) none in
        (value_covered e at k (left_none own single front) (and_parts (is_shaped e) (are_shaped es) shaped).0
        (each_left (UseAllowed may c) (uses c.names e k) (uses_among c.names [] es (k + 0)) us)).word (single_sound sc at e (left_none own single front) (right_none own single front))

    -- arguments, one for each parameter
    pub arguments_covered : (es : Trees) (fs : List Formal) (at : At) (k : ℕ) → (count es == length fs) ≡ true → list_all (λ f. is_some f.kind) fs ≡ true
        → arguments_faults sc fs es at ≡ [] → are_shaped es ≡ true → Each (UseAllowed may c) (uses_among c.names fs es k)
        → are_covered_arguments may c st fs es k ≡ true
    arguments_covered tree.Trees.none [] at k many kinds none shaped us = refl
    arguments_covered tree.Trees.none (f ∷ fs) at k many kinds none shaped us = absurd (omega (arith, eqb-true 0 (length (f ∷ fs)) many))
    arguments_covered (tree.Trees.and e es) [] at k many kinds none shaped us = absurd (omega (arith, eqb-true (1 + count es) 0 many))
    arguments_covered (tree.Trees.and e es) (f ∷ fs) at k many kinds none shaped us =
        let own = own_faults c.names (Some f) e (faults sc at e) in
        let fit = argument_faults c.names (Some f) e at in
        let others = arguments_faults sc fs es at in
        let front = left_none (own ++ fit) others none in
        let shape = and_parts (is_shaped e) (are_shaped es) shaped in
        let kind = and_parts (is_some f.kind) (list_all (λ g. is_some g.kind) fs) kinds in
        let behind = uses_among c.names fs es (k + formal_words f) in
        and_from (is_passed (by_value f) f.kind (is_covered may c st e k) (is_wide may c st e k) (is_covered_reference may c st e k))
        (are_covered_arguments may c st fs es (k + formal_words f))
        (argument_covered may c st f e at k (faults sc at e) kind.0 (left_none own fit front) (right_none own fit front) (λ sound. same_kind sc at e sound)
        (λ sound. value_covered e at k sound shape.0 (each_left (UseAllowed may c) (uses c.names e k) behind us)))
        (arguments_covered es fs at (k + formal_words f) (fewer (count es) (length fs) many) kind.1 (right_none (own ++ fit) others none) shape.1
        (each_right (UseAllowed may c) (uses c.names e k) behind us))

    -- a reference
    pub located_covered : (r : Tree) (k : ℕ) → located_faults sc r ≡ [] → is_reference r ≡ true → is_shaped r ≡ true
        → Each (UseAllowed may c) (uses c.names r k) → ReferenceCovered may c st r k
    located_covered (tree.Tree.named x es a) k none is shaped us =
        let named = variable_faults sc x (count es) a in
        reference_value x es a k (left_none named (indices_faults sc es a) none) us
        (λ uses. index_covered es a k (right_none named (indices_faults sc es a) none) shaped uses)
    located_covered e k none is shaped us = never is

-- so is an expression in the scope of what is seen
pub values_covered : SoundValuesAreCovered
values_covered may c st sc seen e around k none shaped us =
    let v =
    value_covered may c st sc (ruled_seen may c st sc seen) e around k
    (subst (λ (s : rule.Scope). faults s around e ≡ []) (ruled_same c st sc seen.names seen.split) none) shaped us in
    (v.word, v.wide)
