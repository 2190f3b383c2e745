-- Targets of assignments that break no rule are covered.
-- 1. variables, elements and bit fields of them       (stored_bare, fields_bare)
-- 2. results                                           (result_target, result_field)
-- 3. targets                                           (plain_covered, field_covered, pointer_covered)
use Rattle.std.proofs.Common.{◌≡◌, ℕ, ◌+◌, ◌==◌, ◌&&◌, ◌||◌, not, Bool, true, false, List, [], ℤ, Option, Some, None, is_some, refl, sym, subst, ap, ◌∙◌, arith}
use Rattle.std.proofs.lemmas.Bool.{and_from, or_left, or_right, and_parts, not_from_false, leb-true}
use Rattle.spl_sound_values.specs.spl_tree.declared.names_and_places.At.{At}
use Rattle.spl_sound_values.specs.spl_tree.declared.expressions.Kind.{Kind}
use Rattle.spl_sound_values.specs.spl_tree.declared.expressions.Kind.TheVariants as kind
use Rattle.spl_sound_values.specs.spl_tree.Trees as tree
use Rattle.spl_sound_values.specs.spl_tree.Trees.{Tree, Trees, Constant}
use Rattle.spl_sound_values.specs.spl_tree.StatementTrees as stat
use Rattle.spl_sound_values.specs.spl_meaning.Names as n
use Rattle.spl_sound_values.specs.spl_meaning.Names.{Sort, Profile}
use Rattle.spl_sound_values.specs.spl_meaning.Kinds.{Operand, of, result_of, named_operand, is_double, is_unknown}
use Rattle.spl_sound_values.specs.spl_meaning.Limits.{use_of}
use Rattle.spl_sound_values.specs.spl_meaning.Places.{Place}
use Rattle.spl_sound_values.specs.spl_meaning.References.{Setting, access_of}
use Rattle.spl_sound_values.specs.spl_meaning.Values.{Who, small_constant}
use Rattle.spl_sound_values.specs.spl_meaning.Faults.{fault, unless}
use Rattle.spl_sound_values.specs.spl_meaning.ExpressionRules as rule
use Rattle.spl_sound_values.specs.spl_meaning.ExpressionRules.{count, variable_faults, field_faults}
use Rattle.spl_sound_values.specs.spl_meaning.StatementRules.{has_name, result_faults, target_by, target_kind_by, pointer_faults}
use Rattle.spl_sound_values.specs.spl_meaning.StatementRules as statement
use Rattle.spl_sound_values.specs.spl_code.Calls.{Scope}
use Rattle.spl_stores.specs.spl_values.Reached.{is_word_kind}
use Rattle.spl_stores.specs.spl_operators.Laws.{is_single}
use Rattle.spl_stores.specs.spl_field_stores.Laws.{is_within}
use Rattle.spl_sound_values.specs.spl_names.Names.{has_reached, has_seen, is_led, is_led_element, is_wide_name, is_wide_element, is_wide_led}
use Rattle.spl_sound_values.specs.spl_whom.Whom.{is_word_result, is_double_result}
use Rattle.spl_sound_values.specs.spl_covered.Covered.{is_covered}
use Rattle.spl_stores.specs.spl_targets.Results.{result_kind, same_kind, is_result}
use Rattle.spl_stores.specs.spl_targets.Targets.{holds_words, is_own, has_fields, has_field_elements, is_stored_name, is_stored_result, holds_result, is_field_target, is_word_target}
use Rattle.spl_sound_values.proofs.spl_tops_proofs.SeenLemmas.{seen_reached}
use Rattle.spl_stores.specs.spl_wide.Wide.{is_wide_result, is_wide_target}
use Rattle.spl_sound_values.proofs.spl_sound_names_proofs.Tables.{left_none, right_none, clash, unless_none, never}
use Rattle.spl_sound_values.specs.Seen.{Seen, UseAllowed}
use Rattle.spl_sound_values.proofs.Parts.{implies, near_seen, no_index, ruled}
use Rattle.spl_sound_values.proofs.Variables.{variable_cases, variable_seen, variable_few, item_seen}
use Rattle.spl_sound_values.proofs.Constants.{field_small}
use Rattle.spl_sound_values.proofs.Names.{single_kind, is_covered_index, bare, element, cell_word, addressed_seen}
use Rattle.spl_sound_values.proofs.Calls.{result_word, result_wide}
use Rattle.spl_sound_statements.specs.Results.{ResultsSeen, is_of_kind}

-- ---- 1. variables

-- of a variable that is stored without an index: it has the kind that it is assigned, and is stored where that has one word
record StoredBare (st : Setting) (k : ℕ) (place : Option Place) (o : Option Sort) : Type 0 where
  same : result_of (target_kind_by o) ≡ named_operand o
  word : is_double (named_operand o) ≡ false → (is_stored_name st k o place || is_led st k (access_of o) place) ≡ true

-- of one with bit fields, which has whole words
record FieldsBare (st : Setting) (k : ℕ) (place : Option Place) (o : Option Sort) : Type 0 where
  words : statement.is_single (target_kind_by o) ≡ true → holds_words (named_operand o) ≡ true
  own : statement.is_single (target_kind_by o) ≡ true
      → (is_own st k (access_of o) place || is_led st k (access_of o) place) ≡ true

-- kinds with bit fields are those of whole words, which are no DOUBLEs
holds_kind : (t : Kind) → statement.is_single (Some t) ≡ true → is_word_kind t ≡ true
holds_kind kind.Integer is = refl
holds_kind kind.Logical is = refl
holds_kind kind.Byte is = never is
holds_kind kind.Double is = never is

holds_one : (t : Kind) → statement.is_single (Some t) ≡ true → is_double (of t) ≡ false
holds_one kind.Integer is = refl
holds_one kind.Logical is = refl
holds_one kind.Byte is = refl
holds_one kind.Double is = never is

module _ (st : Setting) (k : ℕ) (place : Option Place) (reach : has_seen st k place ≡ true) where
  one_word : (t : Kind) → is_double (of t) ≡ false → (is_single t && has_seen st k place) ≡ true
  one_word t is = and_from (is_single t) (has_seen st k place) (single_kind t is) reach

  stored_simple : (t : Kind) (own : Bool) → StoredBare st k place (Some (n.simple t own))
  stored_simple t own = record { same = refl; word = λ is. or_left (is_single t && has_seen st k place) false (one_word t is) }

  stored_value : (t : Kind) → StoredBare st k place (Some (n.value t))
  stored_value t = record { same = refl; word = λ is. or_left (is_single t && has_seen st k place) false (one_word t is) }

  stored_reference : (t : Kind) → st.split ≡ false → StoredBare st k place (Some (n.by_reference t))
  stored_reference t unsplit = record { same = refl; word = addressed_seen st k place reach t unsplit }

  stored_pointer : (t : Kind) (own : Bool) → StoredBare st k place (Some (n.pointer t own))
  stored_pointer t own = record { same = refl; word = cell_word st k place reach true t refl }

  stored_array : (t : Kind) (own : Bool) (low high : ℤ) → st.split ≡ false → StoredBare st k place (Some (n.array t own low high))
  stored_array t own low high unsplit = record { same = refl; word = cell_word st k place reach false t (not_from_false st.split unsplit) }

  stored_view : (t : Kind) (own : Bool) (base : List ℕ) → st.split ≡ false → StoredBare st k place (Some (n.view t own base))
  stored_view t own base unsplit = record { same = refl; word = cell_word st k place reach false t (not_from_false st.split unsplit) }

  stored_passed : (t : Kind) → st.split ≡ false → StoredBare st k place (Some (n.array_parameter t))
  stored_passed t unsplit = record { same = refl; word = cell_word st k place reach false t (not_from_false st.split unsplit) }

  fields_simple : (t : Kind) (own : Bool) → FieldsBare st k place (Some (n.simple t own))
  fields_simple t own = record { words = holds_kind t; own = λ is. or_left (has_seen st k place) false reach }

  fields_value : (t : Kind) → FieldsBare st k place (Some (n.value t))
  fields_value t = record { words = holds_kind t; own = λ is. or_left (has_seen st k place) false reach }

  fields_reference : (t : Kind) → st.split ≡ false → FieldsBare st k place (Some (n.by_reference t))
  fields_reference t unsplit = record { words = holds_kind t; own = λ is. addressed_seen st k place reach t unsplit (holds_one t is) }

  fields_pointer : (t : Kind) (own : Bool) → FieldsBare st k place (Some (n.pointer t own))
  fields_pointer t own = record { words = holds_kind t; own = λ is. cell_word st k place reach true t refl (holds_one t is) }

  fields_array : (t : Kind) (own : Bool) (low high : ℤ) → st.split ≡ false → FieldsBare st k place (Some (n.array t own low high))
  fields_array t own low high unsplit =
      record { words = holds_kind t; own = λ is. cell_word st k place reach false t (not_from_false st.split unsplit) (holds_one t is) }

  fields_view : (t : Kind) (own : Bool) (base : List ℕ) → st.split ≡ false → FieldsBare st k place (Some (n.view t own base))
  fields_view t own base unsplit =
      record { words = holds_kind t; own = λ is. cell_word st k place reach false t (not_from_false st.split unsplit) (holds_one t is) }

  fields_passed : (t : Kind) → st.split ≡ false → FieldsBare st k place (Some (n.array_parameter t))
  fields_passed t unsplit =
      record { words = holds_kind t; own = λ is. cell_word st k place reach false t (not_from_false st.split unsplit) (holds_one t is) }

-- ---- 2. targets

-- A name on the left of := with its index: its kind is known, and it is a target of one word or of two.
pub record TargetCovered (may : Who → Bool) (c : Scope) (results : List ℕ → Option (Kind × Place)) (st : Setting) (x : List ℕ) (es : Trees) (at : At) (k : ℕ)
    (o : Option Sort) : Type 0 where
  pub known : is_unknown (result_of (target_kind_by o)) ≡ false
  pub word : is_double (result_of (target_kind_by o)) ≡ false
      → is_word_target may c results st (stat.Target.plain (tree.Tree.named x es at)) k ≡ true
  pub wide : is_double (result_of (target_kind_by o)) ≡ true
      → is_wide_target may c results st (stat.Target.plain (tree.Tree.named x es at)) k ≡ true

module _ (may : Who → Bool) (c : Scope) (results : List ℕ → Option (Kind × Place)) (st : Setting) (rules : rule.Scope) (seen : Seen may c st (ruled c st rules))
    (given : ResultsSeen c st (ruled c st rules) results) where
  abbrev sc : rule.Scope
  sc = ruled c st rules

  stored_bare : (x : List ℕ) (count : ℕ) (at : At) → variable_faults sc x count at ≡ [] → (k : ℕ) → has_seen st k (c.places x) ≡ true
      → StoredBare st k (c.places x) (c.names x)
  stored_bare x count at none k reach =
      variable_cases may c st rules seen x count at none (StoredBare st k (c.places x)) (λ t own fits. stored_simple st k (c.places x) reach t own)
      (λ t fits. stored_value st k (c.places x) reach t) (λ t fits unsplit. stored_reference st k (c.places x) reach t unsplit)
      (λ t own fits. stored_pointer st k (c.places x) reach t own)
      (λ t own low high fits unsplit. stored_array st k (c.places x) reach t own low high unsplit)
      (λ t own base fits unsplit. stored_view st k (c.places x) reach t own base unsplit) (λ t fits unsplit. stored_passed st k (c.places x) reach t unsplit)

  fields_bare : (x : List ℕ) (count : ℕ) (at : At) → variable_faults sc x count at ≡ [] → (k : ℕ) → has_seen st k (c.places x) ≡ true
      → FieldsBare st k (c.places x) (c.names x)
  fields_bare x count at none k reach =
      variable_cases may c st rules seen x count at none (FieldsBare st k (c.places x)) (λ t own fits. fields_simple st k (c.places x) reach t own)
      (λ t fits. fields_value st k (c.places x) reach t) (λ t fits unsplit. fields_reference st k (c.places x) reach t unsplit)
      (λ t own fits. fields_pointer st k (c.places x) reach t own)
      (λ t own low high fits unsplit. fields_array st k (c.places x) reach t own low high unsplit)
      (λ t own base fits unsplit. fields_view st k (c.places x) reach t own base unsplit) (λ t fits unsplit. fields_passed st k (c.places x) reach t unsplit)

  -- a variable
  variable_target : (x : List ℕ) (es : Trees) (at : At) (k : ℕ) → variable_faults sc x (count es) at ≡ [] → has_seen st k (c.places x) ≡ true
      → is_covered_index may c st es k ≡ true → TargetCovered may c results st x es at k (c.names x)
  variable_target x tree.Trees.none at k none reach index =
      let b = bare may c st rules seen x at none k reach in
      let s = stored_bare x 0 at none k reach in
      record {
        known = ap is_unknown s.same ∙ b.known;
        word = λ single. by (is_stored_name st k (c.names x) (c.places x)) (is_stored_result st k (c.names x) (results x) (c.places x))
            (is_led st k (access_of (c.names x)) (c.places x)) (s.word (sym (ap is_double s.same) ∙ single));
        wide = λ double. or_left (is_wide_name st k (c.names x) (c.places x) || is_wide_led st k (access_of (c.names x)) (c.places x))
            (is_wide_result st k (c.names x) (results x) (c.places x)) (b.wide (sym (ap is_double s.same) ∙ double));
      }
    where
      by : (p q r : Bool) → (p || r) ≡ true → ((p || q) || (r || false)) ≡ true
      by true q r is = refl
      by false q r is = or_right q (r || false) (or_left r false is)
  variable_target x (tree.Trees.and e tree.Trees.none) at k none reach index =
      let b = element may c st rules seen x at none k reach in
      let s = stored_bare x 1 at none k reach in
      record {
        known = ap is_unknown s.same ∙ b.known;
        word = λ single. or_left (is_led_element st k (access_of (c.names x)) (c.places x) && is_covered may c st e k) false
            (and_from (is_led_element st k (access_of (c.names x)) (c.places x)) (is_covered may c st e k) (b.word (sym (ap is_double s.same) ∙ single)) index);
        wide = λ double. and_from (is_wide_element st k (access_of (c.names x)) (c.places x)) (is_covered may c st e k)
            (b.wide (sym (ap is_double s.same) ∙ double)) index;
      }
  variable_target x (tree.Trees.and e (tree.Trees.and f es)) at k none reach index =
      absurd (omega (arith, leb-true (1 + (1 + count es)) 1 (variable_few may c st rules seen x (1 + (1 + count es)) at none)))

  -- its bit fields
  fields_target : (x : List ℕ) (es : Trees) (at : At) (start size : Constant) (k : ℕ) → variable_faults sc x (count es) at ≡ []
      → has_seen st k (c.places x) ≡ true → is_covered_index may c st es k ≡ true → statement.is_single (target_kind_by (c.names x)) ≡ true
      → is_within (small_constant c.names start) (small_constant c.names size) ≡ true
      → is_word_target may c results st (stat.Target.field (tree.Tree.named x es at) start size) k ≡ true
  fields_target x tree.Trees.none at start size k none reach index single within =
      let f = fields_bare x 0 at none k reach in
      or_left _ (is_field_target c results st (stat.Target.field (tree.Tree.named x tree.Trees.none at) start size) k)
      (and_from (is_within (small_constant c.names start) (small_constant c.names size)) (has_fields st k (c.names x) (c.places x)) within
      (and_from (holds_words (named_operand (c.names x))) _ (f.words single) (f.own single)))
  fields_target x (tree.Trees.and e tree.Trees.none) at start size k none reach index single within =
      let b = element may c st rules seen x at none k reach in
      let f = fields_bare x 1 at none k reach in
      or_left _ false
      (and_from (is_within (small_constant c.names start) (small_constant c.names size)) _ within
      (and_from (has_field_elements st k (c.names x) (c.places x)) (is_covered may c st e k)
      (and_from (holds_words (named_operand (c.names x))) (is_led_element st k (access_of (c.names x)) (c.places x)) (f.words single)
      (b.word (one (named_operand (c.names x)) (f.words single)))) index))
    where
      one : (o : Operand) → holds_words o ≡ true → is_double o ≡ false
      one (of kind.Integer) is = refl
      one (of kind.Logical) is = refl
      one (of kind.Byte) is = never is
      one (of kind.Double) is = never is
      one o is = never is
  fields_target x (tree.Trees.and e (tree.Trees.and f es)) at start size k none reach index single within =
      absurd (omega (arith, leb-true (1 + (1 + count es)) 1 (variable_few may c st rules seen x (1 + (1 + count es)) at none)))

  -- ---- results

  -- a result that may be assigned is seen
  result_seen : (x : List ℕ) (t : Kind) → has_name sc.results x ≡ true → result_kind (c.names x) ≡ Some t → (a : At) (k : ℕ)
      → UseAllowed may c (use_of x a k true) → has_seen st k (c.places x) ≡ true
  result_seen x t named is a k u = by (c.places x) refl (given.placed x t named is)
    where
      by : (o : Option Place) → c.places x ≡ o → is_some o ≡ true → has_seen st k o ≡ true
      by None there some = never some
      by (Some p) there some =
          near_seen st k p (seen.near x p there) (λ split. given.framed split x t p named is there) (λ j beneath. u.reach refl j (there ∙ ap Some beneath))

  -- it is the result of its kind
  result_meant : (x : List ℕ) (t : Kind) → has_name sc.results x ≡ true → result_kind (c.names x) ≡ Some t → (k : ℕ) → has_seen st k (c.places x) ≡ true
      → is_result st k (Some t) (results x) (c.places x) ≡ true
  result_meant x t named is k reach = by (results x) (given.means x t named is)
    where
      by : (o : Option (Kind × Place)) → is_of_kind t o ≡ true → is_result st k (Some t) o (c.places x) ≡ true
      by (Some r) alike = and_from (same_kind t r.0) (has_seen st k (c.places x)) alike reach
      by None alike = never alike

  -- a name that the rules let be assigned is such a name, and has no index
  record ResultNamed (x : List ℕ) (es : Trees) (at : At) (k : ℕ) : Type 0 where
    type : Kind
    kind_is : result_kind (c.names x) ≡ Some type
    bare_name : es ≡ tree.Trees.none
    meant : is_result st k (result_kind (c.names x)) (results x) (c.places x) ≡ true

  result_named : (x : List ℕ) (es : Trees) (at : At) (k : ℕ) (o : Option Sort) (p : Profile) → c.names x ≡ o → result_kind o ≡ p.result
      → result_faults sc x p (count es) at ≡ [] → UseAllowed may c (use_of x at k true) → ResultNamed x es at k
  result_named x es at k o p is kind_is none u = by p.result refl (and_parts (has_name sc.results x) (is_some p.result) named).1
    where
      named : (has_name sc.results x && is_some p.result) ≡ true
      named =
          unless_none (has_name sc.results x && is_some p.result) 12 at
          (left_none (unless (has_name sc.results x && is_some p.result) 12 at) (unless (count es == 0) 3 at) none)

      own_name : has_name sc.results x ≡ true
      own_name = (and_parts (has_name sc.results x) (is_some p.result) named).0

      by : (q : Option Kind) → p.result ≡ q → is_some q ≡ true → ResultNamed x es at k
      by None there some = never some
      by (Some t) there some =
          let known : result_kind (c.names x) ≡ Some t = ap (λ (q : Option Sort). result_kind q) is ∙ kind_is ∙ there in
          record {
            type = t;
            kind_is = known;
            bare_name = no_index es
                (unless_none (count es == 0) 3 at (right_none (unless (has_name sc.results x && is_some p.result) 12 at) (unless (count es == 0) 3 at) none));
            meant = ap (λ (q : Option Kind). is_result st k q (results x) (c.places x)) known ∙ result_meant x t own_name known k (result_seen x t own_name known at k u);
          }

  -- it is stored
  result_target : (x : List ℕ) (es : Trees) (at : At) (k : ℕ) (o : Option Sort) (p : Profile) → c.names x ≡ o → result_kind o ≡ p.result
      → target_kind_by o ≡ p.result → result_faults sc x p (count es) at ≡ [] → UseAllowed may c (use_of x at k true)
      → TargetCovered may c results st x es at k o
  result_target x es at k o p is kind_is target_is none u = record {
    known = ap (λ (q : Option Kind). is_unknown (result_of q)) target_kind;
    word = λ single. ap (λ (i : Trees). is_word_target may c results st (stat.Target.plain (tree.Tree.named x i at)) k) r.bare_name
        ∙ or_left _ _ (or_right (is_stored_name st k (c.names x) (c.places x)) _
        (and_from _ _ (ap is_word_result r.kind_is
        ∙ result_word (Some r.type) refl (sym (ap (λ (q : Option Kind). is_double (result_of q)) target_kind) ∙ single)) r.meant));
    wide = λ double. ap (λ (i : Trees). is_wide_target may c results st (stat.Target.plain (tree.Tree.named x i at)) k) r.bare_name
        ∙ or_right (is_wide_name st k (c.names x) (c.places x) || is_wide_led st k (access_of (c.names x)) (c.places x)) _
        (and_from _ _ (ap is_double_result r.kind_is
        ∙ result_wide (Some r.type) (sym (ap (λ (q : Option Kind). is_double (result_of q)) target_kind) ∙ double)) r.meant);
  }
    where
      r : ResultNamed x es at k
      r = result_named x es at k o p is kind_is none u

      target_kind : target_kind_by o ≡ Some r.type
      target_kind = target_is ∙ sym kind_is ∙ sym (ap (λ (q : Option Sort). result_kind q) is) ∙ r.kind_is

  -- and so are its bit fields
  result_field : (x : List ℕ) (es : Trees) (at : At) (start size : Constant) (k : ℕ) (o : Option Sort) (p : Profile) → c.names x ≡ o
      → result_kind o ≡ p.result → target_kind_by o ≡ p.result → result_faults sc x p (count es) at ≡ []
      → statement.is_single (target_kind_by (c.names x)) ≡ true → is_within (small_constant c.names start) (small_constant c.names size) ≡ true
      → UseAllowed may c (use_of x at k true) → is_word_target may c results st (stat.Target.field (tree.Tree.named x es at) start size) k ≡ true
  result_field x es at start size k o p is kind_is target_is none single within u =
      ap (λ (i : Trees). is_word_target may c results st (stat.Target.field (tree.Tree.named x i at) start size) k) r.bare_name
      ∙ or_right _ (is_field_target c results st (stat.Target.field (tree.Tree.named x tree.Trees.none at) start size) k)
      (and_from (is_within (small_constant c.names start) (small_constant c.names size)) _ within
      (and_from (holds_result (result_kind (c.names x))) _ (ap (λ (q : Option Kind). holds_result q) r.kind_is ∙ holds_kind r.type one)
      r.meant))
    where
      r : ResultNamed x es at k
      r = result_named x es at k o p is kind_is none u

      one : statement.is_single (Some r.type) ≡ true
      one =
          sym (ap (λ (q : Option Kind). statement.is_single q)
          (ap (λ (q : Option Sort). target_kind_by q) is ∙ target_is ∙ sym kind_is ∙ sym (ap (λ (q : Option Sort). result_kind q) is) ∙ r.kind_is))
          ∙ single

  -- ---- 3. names on the left of :=

  pub plain_covered : (x : List ℕ) (es : Trees) (at : At) (k : ℕ) → target_by sc x (c.names x) (count es) at ≡ [] → UseAllowed may c (use_of x at k true)
      → is_covered_index may c st es k ≡ true → TargetCovered may c results st x es at k (c.names x)
  plain_covered x es at k none u index = by (c.names x) refl none
    where
      variable : (o : Option Sort) → c.names x ≡ o → variable_faults sc x (count es) at ≡ [] → TargetCovered may c results st x es at k o
      variable o is none =
          subst (TargetCovered may c results st x es at k) is
          (variable_target x es at k none (variable_seen may c st rules seen x (count es) at none at k true u) index)

      by : (o : Option Sort) → c.names x ≡ o → target_by sc x o (count es) at ≡ [] → TargetCovered may c results st x es at k o
      by (Some (n.procedure p)) is none = result_target x es at k (Some (n.procedure p)) p is refl refl none u
      by (Some (n.subroutine p)) is none = result_target x es at k (Some (n.subroutine p)) p is refl refl none u
      by o is none = variable o is none

  pub field_covered : (x : List ℕ) (es : Trees) (at here : At) (start size : Constant) (k : ℕ) → target_by sc x (c.names x) (count es) at ≡ []
      → unless (statement.is_single (target_kind_by (c.names x))) 5 here ≡ [] → field_faults c.names start size here ≡ []
      → UseAllowed may c (use_of x at k true) → is_covered_index may c st es k ≡ true
      → is_word_target may c results st (stat.Target.field (tree.Tree.named x es at) start size) k ≡ true
  field_covered x es at here start size k none single field u index = by (c.names x) refl none
    where
      one : statement.is_single (target_kind_by (c.names x)) ≡ true
      one = unless_none (statement.is_single (target_kind_by (c.names x))) 5 here single

      within : is_within (small_constant c.names start) (small_constant c.names size) ≡ true
      within = field_small c.names seen.known here start size field

      by : (o : Option Sort) → c.names x ≡ o → target_by sc x o (count es) at ≡ []
          → is_word_target may c results st (stat.Target.field (tree.Tree.named x es at) start size) k ≡ true
      by (Some (n.procedure p)) is none = result_field x es at start size k (Some (n.procedure p)) p is refl refl none one within u
      by (Some (n.subroutine p)) is none = result_field x es at start size k (Some (n.subroutine p)) p is refl refl none one within u
      by o is none = fields_target x es at start size k none (variable_seen may c st rules seen x (count es) at none at k true u) index one within

  -- the word of a pointer, which is an item
  pub pointer_covered : (x : List ℕ) (at : At) (k : ℕ) → pointer_faults sc x (c.names x) at ≡ [] → UseAllowed may c (use_of x at k true)
      → has_reached st k (c.places x) ≡ true
  pointer_covered x at k none u = by (c.names x) refl none
    where
      word : (t : Kind) (own : Bool) → c.names x ≡ Some (n.pointer t own) → (o : Option Place) → c.places x ≡ o → has_seen st k o ≡ true → has_reached st k o ≡ true
      word t own is None there reach = never reach
      word t own is (Some p) there reach = seen_reached st k p reach (seen.fixed x (n.pointer t own) p is refl there)

      by : (o : Option Sort) → c.names x ≡ o → pointer_faults sc x o at ≡ [] → has_reached st k (c.places x) ≡ true
      by None is none = clash (fault 1 at) [] none
      by (Some (n.pointer t own)) is none =
          word t own is (c.places x) refl
          (item_seen may c st rules seen x (n.pointer t own) is refl refl
          (implies st.split (sc.is_local x) (unless_none (not st.split || sc.is_local x) 27 at none)) at k true u)
      by (Some n.unknown) is none = never (seen.known x n.unknown is)
      by o is none = clash (fault 3 at) [] none
