-- References of moves and comparisons that break no rule, and comparisons of bytes.
use Rattle.std.proofs.Common.{◌≡◌, ℕ, ◌+◌, ◌&&◌, ◌||◌, not, nat_lt, Bool, true, false, List, [], Option, Some, None, is_some, refl}
use Rattle.std.proofs.lemmas.Bool.{and_from, or_right, and_parts}
use Rattle.spl_shapes.specs.spl_tree.declared.names_and_places.At.{At}
use Rattle.spl_shapes.specs.spl_tree.declared.expressions.Kind.{Kind}
use Rattle.spl_shapes.specs.spl_tree.Trees as tree
use Rattle.spl_shapes.specs.spl_tree.Trees.{Tree, Trees}
use Rattle.spl_near_places.specs.spl_meaning.Names as n
use Rattle.spl_near_places.specs.spl_meaning.Names.{Sort}
use Rattle.spl_near_places.specs.spl_meaning.Kinds.{is_byte, is_long_text, is_relation, variable_kind, reference_kind, compares_text}
use Rattle.spl_near_places.specs.spl_meaning.References.{Setting, access_of}
use Rattle.spl_near_places.specs.spl_meaning.Values.{Who}
use Rattle.spl_near_places.specs.spl_meaning.ExpressionRules as rule
use Rattle.spl_near_places.specs.spl_meaning.ExpressionRules.{is_pointer, is_open_sort, may_be_byte, far_faults}
use Rattle.spl_near_places.specs.spl_code.Calls.{Scope}
use Rattle.spl_covered.specs.spl_byte_tests.Elements.{is_moved_place, is_byte_element}
use Rattle.spl_covered.specs.Covered.{is_covered, is_covered_reference, is_spelled}
use Rattle.spl_shapes.specs.Shapes.{is_shaped}
use Rattle.spl_near_places.proofs.spl_sound_names_proofs.Tables.{unless_none, never}
use Rattle.spl_sound_values.proofs.Parts.{ruled}
use Rattle.spl_sound_values.proofs.Calls.{ValueCovered}
use Rattle.spl_sound_values.proofs.Binary.{logical_value, relation_logical, relation_plain, by_others}

-- ---- references

-- in a split procedure a pointer alone leads to what is moved or compared
first_two : (b : Bool) → (b || false || false) ≡ true → b ≡ true
first_two true is = refl
first_two false is = never is

sort_moved : (st : Setting) (o : Option Sort) → is_some (variable_kind o) ≡ true → (not st.split || is_pointer o || is_open_sort o) ≡ true
    → is_moved_place st (access_of o) ≡ true
sort_moved st (Some (n.pointer k own)) some is = refl
sort_moved st (Some (n.simple k own)) some is = first_two (not st.split) is
sort_moved st (Some (n.array k own low high)) some is = first_two (not st.split) is
sort_moved st (Some (n.view k own base)) some is = first_two (not st.split) is
sort_moved st (Some (n.value k)) some is = first_two (not st.split) is
sort_moved st (Some (n.by_reference k)) some is = first_two (not st.split) is
sort_moved st (Some (n.array_parameter k)) some is = first_two (not st.split) is
sort_moved st o some is = never some

pub place_moved : (c : Scope) (st : Setting) (rules : rule.Scope) (x : List ℕ) (es : Trees) (at : At) → is_some (variable_kind (c.names x)) ≡ true
    → far_faults (ruled c st rules) (tree.Tree.named x es at) ≡ [] → is_moved_place st (access_of (c.names x)) ≡ true
place_moved c st rules x es at some none =
    sort_moved st (c.names x) some (unless_none (not st.split || is_pointer (c.names x) || is_open_sort (c.names x)) 27 at none)

-- a kind that there is and may be BYTE is BYTE
pub byte_kind : (o : Option Kind) → is_some o ≡ true → may_be_byte o ≡ true → is_byte o ≡ true
byte_kind (Some k) some is = is
byte_kind None some is = never some

byte_some : (o : Option Kind) → is_byte o ≡ true → is_some o ≡ true
byte_some (Some k) is = refl
byte_some None is = never is

-- a reference to bytes that can be compared
pub byte_element : (c : Scope) (st : Setting) (rules : rule.Scope) (r : Tree) → is_byte (reference_kind c.names r) ≡ true → far_faults (ruled c st rules) r ≡ []
    → is_byte_element c st r ≡ true
byte_element c st rules (tree.Tree.named x es at) is none =
    and_from (is_byte (variable_kind (c.names x))) (is_moved_place st (access_of (c.names x))) is
    (place_moved c st rules x es at (byte_some (variable_kind (c.names x)) is) none)
byte_element c st rules e is none = never is

-- ---- comparisons with a string

spelled : (b : Tree) → is_long_text b ≡ true → is_shaped b ≡ true → is_spelled b ≡ true
spelled (tree.Tree.text bytes) is shaped = shaped
spelled b is shaped = never is

pub text_covered : (may : Who → Bool) (c : Scope) (st : Setting) (rules : rule.Scope) (op : ℕ) (a b : Tree) (at : At) (k : ℕ) → nat_lt op 16 ≡ true
    → compares_text c.names op a b ≡ true → far_faults (ruled c st rules) a ≡ [] → is_shaped b ≡ true → ValueCovered may c st a k
    → ValueCovered may c st (tree.Tree.binary op a b at) k
text_covered may c st rules op a b at k few text none shaped v =
    logical_value may c st op a b at k (relation_logical op few front.0)
    (by_others may c st op a b at k (relation_plain op few front.0)
    (or_right _ _
    (or_right _ _
    (and_from (compares_text c.names op a b) _ text
    (and_from (is_spelled b) _ (spelled b parts.1 shaped)
    (and_from (is_byte_element c st a) (is_covered_reference may c st a k) (byte_element c st rules a front.1 none)
    (v.reference (byte_some (reference_kind c.names a) front.1))))))))
  where
    parts : ((is_relation op && is_byte (reference_kind c.names a)) ≡ true) × (is_long_text b ≡ true)
    parts = and_parts (is_relation op && is_byte (reference_kind c.names a)) (is_long_text b) text

    front : (is_relation op ≡ true) × (is_byte (reference_kind c.names a) ≡ true)
    front = and_parts (is_relation op) (is_byte (reference_kind c.names a)) parts.0

-- ---- comparisons by a count

-- A reference that breaks no rule: it leads to a kind, and its address is covered.
pub record ReferenceCovered (may : Who → Bool) (c : Scope) (st : Setting) (r : Tree) (k : ℕ) : Type 0 where
  pub leads : is_some (reference_kind c.names r) ≡ true
  pub addressed : is_covered_reference may c st r k ≡ true

pub bytes_covered : (may : Who → Bool) (c : Scope) (st : Setting) (rules : rule.Scope) (op : ℕ) (a b size : Tree) (at : At) (k : ℕ)
    → (may_be_byte (reference_kind c.names a) && may_be_byte (reference_kind c.names b)) ≡ true → far_faults (ruled c st rules) a ≡ []
    → far_faults (ruled c st rules) b ≡ [] → ReferenceCovered may c st a k → ReferenceCovered may c st b (k + 1) → is_covered may c st size (k + 2) ≡ true
    → ValueCovered may c st (tree.Tree.bytes op a b size at) k
bytes_covered may c st rules op a b size at k bytes near far first second sized = record {
  known = refl;
  word = λ single.
      and_from _ _
      (and_from (is_byte_element c st a) (is_covered_reference may c st a k)
      (byte_element c st rules a (byte_kind (reference_kind c.names a) first.leads both.0) near) first.addressed)
      (and_from _ _
      (and_from (is_byte_element c st b) (is_covered_reference may c st b (k + 1))
      (byte_element c st rules b (byte_kind (reference_kind c.names b) second.leads both.1) far) second.addressed)
      sized);
  wide = never;
  reference = never;
}
  where
    both : (may_be_byte (reference_kind c.names a) ≡ true) × (may_be_byte (reference_kind c.names b) ≡ true)
    both = and_parts (may_be_byte (reference_kind c.names a)) (may_be_byte (reference_kind c.names b)) bytes
