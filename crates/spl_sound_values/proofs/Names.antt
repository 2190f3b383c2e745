-- What is covered of a variable whose place is seen: by itself, and with an index.
use Rattle.std.proofs.Common.{◌≡◌, ℕ, ◌+◌, ◌&&◌, ◌||◌, not, Bool, true, false, List, [], Option, Some, refl, sym, arith, ℤ}
use Rattle.std.proofs.lemmas.Bool.{and_from, or_left, not_from_false, leb-true}
use Rattle.spl_shapes.specs.spl_tree.declared.names_and_places.At.{At}
use Rattle.spl_shapes.specs.spl_tree.declared.expressions.Kind.{Kind}
use Rattle.spl_shapes.specs.spl_tree.declared.expressions.Kind.TheVariants as kind
use Rattle.spl_shapes.specs.spl_tree.Trees as tree
use Rattle.spl_shapes.specs.spl_tree.Trees.{Trees}
use Rattle.spl_near_places.specs.spl_meaning.Names as n
use Rattle.spl_near_places.specs.spl_meaning.Names.{Sort}
use Rattle.spl_near_places.specs.spl_meaning.Kinds.{of, named_operand, is_double, is_unknown}
use Rattle.spl_near_places.specs.spl_meaning.Places.{Place}
use Rattle.spl_near_places.specs.spl_meaning.References.{Setting, access_of, by_cell}
use Rattle.spl_near_places.specs.spl_meaning.Values.{Who}
use Rattle.spl_near_places.specs.spl_meaning.ExpressionRules as rule
use Rattle.spl_near_places.specs.spl_meaning.ExpressionRules.{count, variable_faults}
use Rattle.spl_near_places.specs.spl_code.Calls.{Scope}
use Rattle.spl_covered.specs.spl_operators.Laws.{is_single}
use Rattle.spl_covered.specs.spl_names.Names.{has_seen, is_covered_name, is_led_element, is_addressed, is_addressed_element, is_wide_name, is_wide_element, is_wide_led}
use Rattle.spl_covered.specs.Covered.{is_covered, is_covered_variable, is_wide_variable, is_covered_address}
use Rattle.spl_near_places.proofs.spl_sound_names_proofs.Tables.{never}
use Rattle.spl_sound_values.specs.Seen.{Seen}
use Rattle.spl_sound_values.proofs.Parts.{ruled}
use Rattle.spl_sound_values.proofs.Variables.{variable_cases, variable_few}

-- ---- sorts

-- a kind that is not DOUBLE has one word
pub single_kind : (t : Kind) → is_double (of t) ≡ false → is_single t ≡ true
single_kind kind.Integer is = refl
single_kind kind.Logical is = refl
single_kind kind.Byte is = refl
single_kind kind.Double is = never (sym is)

-- of a variable without an index
pub record Bare (st : Setting) (k : ℕ) (place : Option Place) (o : Option Sort) : Type 0 where
  pub known : is_unknown (named_operand o) ≡ false
  pub word : is_double (named_operand o) ≡ false → is_covered_name st k o place ≡ true
  pub wide : is_double (named_operand o) ≡ true → (is_wide_name st k o place || is_wide_led st k (access_of o) place) ≡ true
  pub addressed : is_addressed st k (access_of o) place ≡ true

-- and of one with an index
pub record Element (st : Setting) (k : ℕ) (place : Option Place) (o : Option Sort) : Type 0 where
  pub known : is_unknown (named_operand o) ≡ false
  pub word : is_double (named_operand o) ≡ false → is_led_element st k (access_of o) place ≡ true
  pub wide : is_double (named_operand o) ≡ true → is_wide_element st k (access_of o) place ≡ true
  pub addressed : is_addressed_element st k (access_of o) place ≡ true

module _ (st : Setting) (k : ℕ) (place : Option Place) (reach : has_seen st k place ≡ true) where
  -- what is a word of its own, or two
  of_own : (t : Kind) → is_double (of t) ≡ false → (is_single t && has_seen st k place) ≡ true
  of_own t is = and_from (is_single t) (has_seen st k place) (single_kind t is) reach

  wide_simple : (t : Kind) (own : Bool) → is_double (of t) ≡ true
      → (is_wide_name st k (Some (n.simple t own)) place || is_wide_led st k (access_of (Some (n.simple t own))) place) ≡ true
  wide_simple kind.Integer own is = never is
  wide_simple kind.Logical own is = never is
  wide_simple kind.Byte own is = never is
  wide_simple kind.Double own is = or_left (has_seen st k place) false reach

  wide_value : (t : Kind) → is_double (of t) ≡ true
      → (is_wide_name st k (Some (n.value t)) place || is_wide_led st k (access_of (Some (n.value t))) place) ≡ true
  wide_value kind.Integer is = never is
  wide_value kind.Logical is = never is
  wide_value kind.Byte is = never is
  wide_value kind.Double is = or_left (has_seen st k place) false reach

  -- what an address leads to
  pub addressed_seen : (t : Kind) → st.split ≡ false → is_double (of t) ≡ false → (is_single t && (not st.split && has_seen st k place)) ≡ true
  addressed_seen t unsplit is =
      and_from (is_single t) (not st.split && has_seen st k place) (single_kind t is)
      (and_from (not st.split) (has_seen st k place) (not_from_false st.split unsplit) reach)

  addressed_wide : (t : Kind) → st.split ≡ false → is_double (of t) ≡ true
      → (is_wide_name st k (Some (n.by_reference t)) place || is_wide_led st k (access_of (Some (n.by_reference t))) place) ≡ true
  addressed_wide kind.Integer unsplit is = never is
  addressed_wide kind.Logical unsplit is = never is
  addressed_wide kind.Byte unsplit is = never is
  addressed_wide kind.Double unsplit is = and_from (not st.split) (has_seen st k place) (not_from_false st.split unsplit) reach

  -- what a cell leads to
  pub cell_word : (p : Bool) (t : Kind) → (p || not st.split) ≡ true → is_double (of t) ≡ false → is_led_element st k (by_cell p t) place ≡ true
  cell_word p t unsplit is =
      and_from (is_single t) ((p || not st.split) && has_seen st k place) (single_kind t is) (and_from (p || not st.split) (has_seen st k place) unsplit reach)

  cell_wide : (p : Bool) (t : Kind) → (p || not st.split) ≡ true → is_double (of t) ≡ true → is_wide_element st k (by_cell p t) place ≡ true
  cell_wide p kind.Integer unsplit is = never is
  cell_wide p kind.Logical unsplit is = never is
  cell_wide p kind.Byte unsplit is = never is
  cell_wide p kind.Double unsplit is = and_from (p || not st.split) (has_seen st k place) unsplit reach

  -- a name by itself
  bare_simple : (t : Kind) (own : Bool) → Bare st k place (Some (n.simple t own))
  bare_simple t own = record { known = refl; word = of_own t; wide = wide_simple t own; addressed = reach }

  bare_value : (t : Kind) → Bare st k place (Some (n.value t))
  bare_value t = record { known = refl; word = of_own t; wide = wide_value t; addressed = reach }

  bare_reference : (t : Kind) → st.split ≡ false → Bare st k place (Some (n.by_reference t))
  bare_reference t unsplit = record { known = refl; word = addressed_seen t unsplit; wide = addressed_wide t unsplit; addressed = reach }

  bare_pointer : (t : Kind) (own : Bool) → Bare st k place (Some (n.pointer t own))
  bare_pointer t own = record { known = refl; word = cell_word true t refl; wide = cell_wide true t refl; addressed = reach }

  bare_array : (t : Kind) (own : Bool) (low high : ℤ) → st.split ≡ false → Bare st k place (Some (n.array t own low high))
  bare_array t own low high unsplit =
      let whole = not_from_false st.split unsplit in record { known = refl; word = cell_word false t whole; wide = cell_wide false t whole; addressed = reach }

  bare_view : (t : Kind) (own : Bool) (base : List ℕ) → st.split ≡ false → Bare st k place (Some (n.view t own base))
  bare_view t own base unsplit =
      let whole = not_from_false st.split unsplit in record { known = refl; word = cell_word false t whole; wide = cell_wide false t whole; addressed = reach }

  bare_passed : (t : Kind) → st.split ≡ false → Bare st k place (Some (n.array_parameter t))
  bare_passed t unsplit =
      let whole = not_from_false st.split unsplit in record { known = refl; word = cell_word false t whole; wide = cell_wide false t whole; addressed = reach }

  -- an element
  element_pointer : (t : Kind) (own : Bool) → Element st k place (Some (n.pointer t own))
  element_pointer t own = record { known = refl; word = cell_word true t refl; wide = cell_wide true t refl; addressed = reach }

  element_array : (t : Kind) (own : Bool) (low high : ℤ) → st.split ≡ false → Element st k place (Some (n.array t own low high))
  element_array t own low high unsplit =
      let whole = not_from_false st.split unsplit in record { known = refl; word = cell_word false t whole; wide = cell_wide false t whole; addressed = reach }

  element_view : (t : Kind) (own : Bool) (base : List ℕ) → st.split ≡ false → Element st k place (Some (n.view t own base))
  element_view t own base unsplit =
      let whole = not_from_false st.split unsplit in record { known = refl; word = cell_word false t whole; wide = cell_wide false t whole; addressed = reach }

  element_passed : (t : Kind) → st.split ≡ false → Element st k place (Some (n.array_parameter t))
  element_passed t unsplit =
      let whole = not_from_false st.split unsplit in record { known = refl; word = cell_word false t whole; wide = cell_wide false t whole; addressed = reach }

-- ---- names

-- an index that is covered, where there is one
abbrev pub is_covered_index : (Who → Bool) → Scope → Setting → Trees → ℕ → Bool
is_covered_index may c st tree.Trees.none k = true
is_covered_index may c st (tree.Trees.and e es) k = is_covered may c st e k

-- a variable with an index or without one: its kind is known, and it is covered, and so is its address
pub record VariableCovered (may : Who → Bool) (c : Scope) (st : Setting) (x : List ℕ) (es : Trees) (k : ℕ) : Type 0 where
  pub known : is_unknown (named_operand (c.names x)) ≡ false
  pub word : is_double (named_operand (c.names x)) ≡ false → is_covered_variable may c st x es k ≡ true
  pub wide : is_double (named_operand (c.names x)) ≡ true → is_wide_variable may c st x es k ≡ true
  pub addressed : is_covered_address may c st x es k ≡ true

module _ (may : Who → Bool) (c : Scope) (st : Setting) (rules : rule.Scope) (seen : Seen may c st (ruled c st rules)) where
  abbrev sc : rule.Scope
  sc = ruled c st rules

  pub bare : (x : List ℕ) (at : At) → variable_faults sc x 0 at ≡ [] → (k : ℕ) → has_seen st k (c.places x) ≡ true → Bare st k (c.places x) (c.names x)
  bare x at none k reach =
      variable_cases may c st rules seen x 0 at none (Bare st k (c.places x)) (λ t own fits. bare_simple st k (c.places x) reach t own)
      (λ t fits. bare_value st k (c.places x) reach t) (λ t fits unsplit. bare_reference st k (c.places x) reach t unsplit)
      (λ t own fits. bare_pointer st k (c.places x) reach t own) (λ t own low high fits unsplit. bare_array st k (c.places x) reach t own low high unsplit)
      (λ t own base fits unsplit. bare_view st k (c.places x) reach t own base unsplit) (λ t fits unsplit. bare_passed st k (c.places x) reach t unsplit)

  pub element : (x : List ℕ) (at : At) → variable_faults sc x 1 at ≡ [] → (k : ℕ) → has_seen st k (c.places x) ≡ true → Element st k (c.places x) (c.names x)
  element x at none k reach =
      variable_cases may c st rules seen x 1 at none (Element st k (c.places x)) (λ t own fits. never fits) (λ t fits. never fits) (λ t fits unsplit. never fits)
      (λ t own fits. element_pointer st k (c.places x) reach t own) (λ t own low high fits unsplit. element_array st k (c.places x) reach t own low high unsplit)
      (λ t own base fits unsplit. element_view st k (c.places x) reach t own base unsplit) (λ t fits unsplit. element_passed st k (c.places x) reach t unsplit)

  pub variable_covered : (x : List ℕ) (es : Trees) (at : At) → variable_faults sc x (count es) at ≡ [] → (k : ℕ) → has_seen st k (c.places x) ≡ true
      → is_covered_index may c st es k ≡ true → VariableCovered may c st x es k
  variable_covered x tree.Trees.none at none k reach index =
      let b = bare x at none k reach in record { known = b.known; word = b.word; wide = b.wide; addressed = b.addressed }
  variable_covered x (tree.Trees.and e tree.Trees.none) at none k reach index =
      let b = element x at none k reach in
      record {
        known = b.known;
        word = λ is. and_from (is_led_element st k (access_of (c.names x)) (c.places x)) (is_covered may c st e k) (b.word is) index;
        wide = λ is. and_from (is_wide_element st k (access_of (c.names x)) (c.places x)) (is_covered may c st e k) (b.wide is) index;
        addressed = and_from (is_addressed_element st k (access_of (c.names x)) (c.places x)) (is_covered may c st e k) b.addressed index;
      }
  variable_covered x (tree.Trees.and e (tree.Trees.and f es)) at none k reach index =
      absurd (omega (arith, leb-true (1 + (1 + count es)) 1 (variable_few may c st rules seen x (1 + (1 + count es)) at none)))
