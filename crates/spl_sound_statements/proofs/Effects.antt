-- MOVE and SCAN that break no rule are covered: their references, and what they move.
use Rattle.std.proofs.Common.{◌≡◌, ℕ, ◌&&◌, ◌||◌, not, nat_lt, Bool, true, false, [], ◌++◌, Option, Some, None, is_some, refl, subst, ap}
use Rattle.std.proofs.lemmas.Bool.{and_from, and_parts}
use Rattle.std.specs.List.{list_all}
use Rattle.spl_sound_values.specs.spl_tree.declared.names_and_places.At.{At}
use Rattle.spl_sound_values.specs.spl_tree.declared.expressions.Kind.{Kind}
use Rattle.spl_sound_values.specs.spl_tree.declared.expressions.Kind.TheVariants as kind
use Rattle.spl_sound_values.specs.spl_tree.Trees as tree
use Rattle.spl_sound_values.specs.spl_tree.Trees.{Tree}
use Rattle.spl_sound_values.specs.spl_tree.StatementTrees as stat
use Rattle.spl_sound_values.specs.spl_tree.StatementTrees.{Source, Effect}
use Rattle.spl_sound_values.specs.spl_meaning.Kinds.{is_byte, variable_kind, reference_kind}
use Rattle.spl_sound_values.specs.spl_meaning.Limits.{uses, effect_uses}
use Rattle.spl_sound_values.specs.spl_meaning.Pending.{behind_first, behind_second}
use Rattle.spl_sound_values.specs.spl_meaning.References.{Setting, access_of}
use Rattle.spl_sound_values.specs.spl_meaning.Values.{Who}
use Rattle.spl_sound_values.specs.spl_meaning.Faults.{unless}
use Rattle.spl_sound_values.specs.spl_meaning.ExpressionRules as rule
use Rattle.spl_sound_values.specs.spl_meaning.ExpressionRules.{rule_reference, may_be_byte, far_faults, faults, located_faults, single_faults}
use Rattle.spl_sound_values.specs.spl_meaning.StatementRules.{is_word_kind, moves, may_be_moved_to, moved_faults, effect_faults}
use Rattle.spl_sound_values.specs.spl_code.Calls.{Scope}
use Rattle.spl_stores.specs.spl_statement_code.Effects.{leads_to_bytes}
use Rattle.spl_sound_values.specs.spl_byte_tests.Elements.{is_moved_place}
use Rattle.spl_sound_values.specs.spl_covered.Covered.{is_covered, is_covered_address}
use Rattle.spl_stores.specs.spl_moved.Moved.{is_moved_kind, is_moved, is_moved_source, is_covered_effect}
use Rattle.spl_sound_values.specs.spl_places.Programs.{Each}
use Rattle.spl_sound_values.specs.spl_shapes.Shapes.{is_shaped, is_reference, are_bytes, is_shaped_reference, is_shaped_effect}
use Rattle.spl_sound_values.proofs.spl_meaning_proofs.RuleKinds.{same_located}
use Rattle.spl_sound_values.proofs.spl_sound_names_proofs.Tables.{left_none, right_none, unless_none, never}
use Rattle.spl_sound_values.specs.Seen.{Seen, UseAllowed}
use Rattle.spl_sound_values.proofs.Parts.{each_left, each_right, ruled}
use Rattle.spl_sound_values.proofs.Bytes.{place_moved, byte_kind, ReferenceCovered}
use Rattle.spl_sound_values.proofs.Values.{single_sound, value_covered, located_covered}

-- ---- kinds

-- BYTEs are moved as bytes, and INTEGERs and LOGICALs as words
byte_moved : (b : Bool) (o : Option Kind) → is_byte o ≡ true → b ≡ true → is_moved_kind b o ≡ true
byte_moved b (Some kind.Byte) is bytes = bytes
byte_moved b (Some kind.Integer) is bytes = never is
byte_moved b (Some kind.Logical) is bytes = never is
byte_moved b (Some kind.Double) is bytes = never is
byte_moved b None is bytes = never is

word_moved : (b : Bool) (o : Option Kind) → is_some o ≡ true → is_word_kind o ≡ true → b ≡ false → is_moved_kind b o ≡ true
word_moved b (Some kind.Integer) some is words = ap not words
word_moved b (Some kind.Logical) some is words = ap not words
word_moved b (Some kind.Byte) some is words = never is
word_moved b (Some kind.Double) some is words = never is
word_moved b None some is words = never some

word_no_byte : (o : Option Kind) → is_word_kind o ≡ true → is_byte o ≡ false
word_no_byte (Some kind.Byte) is = never is
word_no_byte (Some kind.Integer) is = refl
word_no_byte (Some kind.Logical) is = refl
word_no_byte (Some kind.Double) is = refl
word_no_byte None is = refl

-- both sides of a MOVE
both_moved : (o p : Option Kind) → is_some o ≡ true → is_some p ≡ true → moves o p ≡ true → (is_moved_kind (is_byte o) o ≡ true) × (is_moved_kind (is_byte o) p ≡ true)
both_moved o p first second is = by (may_be_byte o && may_be_byte p) refl is
  where
    by : (b : Bool) → (may_be_byte o && may_be_byte p) ≡ b → (b || (is_word_kind o && is_word_kind p)) ≡ true
        → (is_moved_kind (is_byte o) o ≡ true) × (is_moved_kind (is_byte o) p ≡ true)
    by true bytes either =
        let two = and_parts (may_be_byte o) (may_be_byte p) bytes in
        let one = byte_kind o first two.0 in
        (byte_moved (is_byte o) o one one, byte_moved (is_byte o) p (byte_kind p second two.1) one)
    by false bytes words =
        let two = and_parts (is_word_kind o) (is_word_kind p) words in
        let none = word_no_byte o two.0 in
        (word_moved (is_byte o) o first two.0 none, word_moved (is_byte o) p second two.1 none)

-- a string moves to what is no DOUBLE
moved_to : (o : Option Kind) → is_some o ≡ true → may_be_moved_to o ≡ true → is_moved_kind (is_byte o) o ≡ true
moved_to (Some kind.Integer) some is = refl
moved_to (Some kind.Logical) some is = refl
moved_to (Some kind.Byte) some is = refl
moved_to (Some kind.Double) some is = never is
moved_to None some is = never some

-- what is so of the kinds that rules go by is so of the same kinds
one_same : (f : Option Kind → Bool) {o p : Option Kind} → o ≡ p → f o ≡ true → f p ≡ true
one_same f same is = subst (λ q. f q ≡ true) same is

two_same : (f : Option Kind → Option Kind → Bool) {o p q r : Option Kind} → o ≡ p → q ≡ r → f o q ≡ true → f p r ≡ true
two_same f {o = o} {r = r} first second is = subst (λ s. f s r ≡ true) first (subst (λ s. f o s ≡ true) second is)

-- ---- references

module _ (may : Who → Bool) (c : Scope) (st : Setting) (rules : rule.Scope) (seen : Seen may c st (ruled c st rules)) where
  abbrev sc : rule.Scope
  sc = ruled c st rules

  -- a reference of a MOVE or a SCAN: it leads to a kind, and is moved where that is
  record Moved (r : Tree) (k : ℕ) : Type 0 where
    same : rule_reference c.names r ≡ reference_kind c.names r
    leads : is_some (reference_kind c.names r) ≡ true
    moved : (bytes : Bool) → is_moved_kind bytes (reference_kind c.names r) ≡ true → is_moved may c st bytes r k ≡ true

  reference_moved : (r : Tree) (k : ℕ) → is_reference r ≡ true → far_faults sc r ≡ [] → rule_reference c.names r ≡ reference_kind c.names r
      → ReferenceCovered may c st r k → Moved r k
  reference_moved (tree.Tree.named x es at) k is none same covered = record {
    same = same;
    leads = covered.leads;
    moved = λ bytes kind.
        and_from (is_moved_kind bytes (variable_kind (c.names x)) && is_moved_place st (access_of (c.names x))) (is_covered_address may c st x es k)
        (and_from (is_moved_kind bytes (variable_kind (c.names x))) (is_moved_place st (access_of (c.names x))) kind
        (place_moved c st rules x es at covered.leads none)) covered.addressed;
  }
  reference_moved e k is none same covered = never is

  moved_sound : (r : Tree) (k : ℕ) → moved_faults sc r ≡ [] → is_shaped_reference r ≡ true → Each (UseAllowed may c) (uses c.names r k) → Moved r k
  moved_sound r k none shaped us =
      let shape = and_parts (is_reference r) (is_shaped r) shaped in
      let located = left_none (located_faults sc r) (far_faults sc r) none in
      reference_moved r k shape.0 (right_none (located_faults sc r) (far_faults sc r) none) (same_located sc r located)
      (located_covered may c st rules seen r k located shape.0 shape.1 us)

  -- a value of one word
  pub single_covered : (e : Tree) (at : At) (k : ℕ) → faults sc at e ≡ [] → single_faults c.names at e ≡ [] → is_shaped e ≡ true
      → Each (UseAllowed may c) (uses c.names e k) → is_covered may c st e k ≡ true
  single_covered e at k none single shaped us = (value_covered may c st rules seen e at k none shaped us).word (single_sound sc at e none single)

  -- ---- effects

  pub effect_covered : (used : Bool) (e : Effect) (at : At) (k : ℕ) → effect_faults sc e at ≡ [] → is_shaped_effect e ≡ true
      → Each (UseAllowed may c) (effect_uses c.names used e k) → is_covered_effect may c st used e k ≡ true
  effect_covered used (stat.Effect.move to (stat.Source.counted from size)) at k none shaped us =
      let shape = and_parts (is_shaped_reference to) (is_shaped_reference from && is_shaped size) shaped in
      let others = and_parts (is_shaped_reference from) (is_shaped size) shape.1 in
      let first = uses c.names to k in
      let second = uses c.names from (behind_first used k) in
      let third = uses c.names size (behind_second used k) in
      let front = each_left (UseAllowed may c) (first ++ second) third us in
      let match = unless (moves (rule_reference c.names to) (rule_reference c.names from)) 24 at in
      let one = moved_faults sc to in
      let two = moved_faults sc from in
      let own = faults sc at size in
      let single = single_faults c.names at size in
      let to_own = left_none (one ++ two ++ match ++ own) single none in
      let to_match = left_none (one ++ two ++ match) own to_own in
      let to_two = left_none (one ++ two) match to_match in
      let a = moved_sound to k (left_none one two to_two) shape.0 (each_left (UseAllowed may c) first second front) in
      let b = moved_sound from (behind_first used k) (right_none one two to_two) others.0 (each_right (UseAllowed may c) first second front) in
      let kinds =
      both_moved (reference_kind c.names to) (reference_kind c.names from) a.leads b.leads
      (two_same moves a.same b.same (unless_none (moves (rule_reference c.names to) (rule_reference c.names from)) 24 at (right_none (one ++ two) match to_match))) in
      and_from (is_moved may c st (leads_to_bytes c to) to k) (is_moved_source may c st used (leads_to_bytes c to) (stat.Source.counted from size) k)
      (a.moved (leads_to_bytes c to) kinds.0)
      (and_from (is_moved may c st (leads_to_bytes c to) from (behind_first used k)) (is_covered may c st size (behind_second used k))
      (b.moved (leads_to_bytes c to) kinds.1)
      (single_covered size at (behind_second used k) (right_none (one ++ two ++ match) own to_own) (right_none (one ++ two ++ match ++ own) single none) others.1
      (each_right (UseAllowed may c) (first ++ second) third us)))
  effect_covered used (stat.Effect.move to (stat.Source.text bytes)) at k none shaped us =
      let shape = and_parts (is_shaped_reference to) (are_bytes bytes) shaped in
      let match = unless (may_be_moved_to (rule_reference c.names to)) 24 at in
      let a = moved_sound to k (left_none (moved_faults sc to) match none) shape.0 us in
      and_from (is_moved may c st (leads_to_bytes c to) to k) (list_all (λ b. nat_lt b 256) bytes)
      (a.moved (leads_to_bytes c to)
      (moved_to (reference_kind c.names to) a.leads (one_same may_be_moved_to a.same
      (unless_none (may_be_moved_to (rule_reference c.names to)) 24 at (right_none (moved_faults sc to) match none)))))
      shape.1
  effect_covered used (stat.Effect.move to (stat.Source.class_of from class)) at k none shaped us =
      let shape = and_parts (is_shaped_reference to) (is_shaped_reference from && nat_lt class 5) shaped in
      let others = and_parts (is_shaped_reference from) (nat_lt class 5) shape.1 in
      let first = uses c.names to k in
      let second = uses c.names from (behind_first used k) in
      let match = unless (may_be_byte (rule_reference c.names to) && may_be_byte (rule_reference c.names from)) 24 at in
      let one = moved_faults sc to in
      let two = moved_faults sc from in
      let to_two = left_none (one ++ two) match none in
      let a = moved_sound to k (left_none one two to_two) shape.0 (each_left (UseAllowed may c) first second us) in
      let b = moved_sound from (behind_first used k) (right_none one two to_two) others.0 (each_right (UseAllowed may c) first second us) in
      let bytes =
      and_parts (may_be_byte (reference_kind c.names to)) (may_be_byte (reference_kind c.names from))
      (two_same (λ o p. may_be_byte o && may_be_byte p) a.same b.same
      (unless_none (may_be_byte (rule_reference c.names to) && may_be_byte (rule_reference c.names from)) 24 at (right_none (one ++ two) match none))) in
      let is = byte_kind (reference_kind c.names to) a.leads bytes.0 in
      and_from (is_moved may c st (leads_to_bytes c to) to k) (leads_to_bytes c to && is_moved may c st true from (behind_first used k))
      (a.moved (leads_to_bytes c to) (byte_moved (is_byte (reference_kind c.names to)) (reference_kind c.names to) is is))
      (and_from (leads_to_bytes c to) (is_moved may c st true from (behind_first used k)) is
      (b.moved true (byte_moved true (reference_kind c.names from) (byte_kind (reference_kind c.names from) b.leads bytes.1) refl)))
  effect_covered used (stat.Effect.scan from until e) at k none shaped us =
      let shape = and_parts (is_shaped_reference from) (is_shaped e) shaped in
      let first = uses c.names from k in
      let second = uses c.names e (behind_first used k) in
      let match = unless (may_be_byte (rule_reference c.names from)) 24 at in
      let one = moved_faults sc from in
      let own = faults sc at e in
      let single = single_faults c.names at e in
      let to_own = left_none (one ++ match ++ own) single none in
      let to_match = left_none (one ++ match) own to_own in
      let a = moved_sound from k (left_none one match to_match) shape.0 (each_left (UseAllowed may c) first second us) in
      and_from (is_moved may c st true from k) (is_covered may c st e (behind_first used k))
      (a.moved true
      (byte_moved true (reference_kind c.names from)
      (byte_kind (reference_kind c.names from) a.leads
      (one_same may_be_byte a.same (unless_none (may_be_byte (rule_reference c.names from)) 24 at (right_none one match to_match)))) refl))
      (single_covered e at (behind_first used k) (right_none (one ++ match) own to_own) (right_none (one ++ match ++ own) single none) shape.1
      (each_right (UseAllowed may c) first second us))
