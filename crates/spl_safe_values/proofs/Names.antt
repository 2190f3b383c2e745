-- Names that are covered have a location of a kind of one word, or of two, or an address.
use Rattle.std.proofs.Common.{◌≡◌, ℕ, true, Option, Some, None, refl, sym, ap, ◌∙◌}
use Rattle.std.specs.Prelude.{is_some, not, ◌&&◌, ◌||◌}
use Rattle.std.proofs.lemmas.Bool.{false≢true}
use Rattle.spl_covered.specs.spl_tree.declared.expressions.Kind.{Kind}
use Rattle.spl_covered.specs.spl_tree.declared.expressions.Kind.TheVariants as kind
use Rattle.spl_covered.specs.spl_meaning.Names as n
use Rattle.spl_covered.specs.spl_meaning.Names.{Sort}
use Rattle.spl_covered.specs.spl_meaning.Kinds.{width, variable_kind}
use Rattle.spl_covered.specs.spl_meaning.Places.{Place}
use Rattle.spl_covered.specs.spl_meaning.References.{Setting, Access, its_own, by_address, by_cell, access_of}
use Rattle.spl_covered.specs.spl_names.Names.{has_seen, is_led_element, is_led, is_addressed, is_addressed_element, is_wide_name, is_wide_element, is_wide_led}
use Rattle.spl_covered.specs.spl_operators.Laws.{is_single}
use Rattle.spl_covered.proofs.spl_values_proofs.VariableLemmas.{both}
use Rattle.spl_safe_values.proofs.Locations.{led_kind, has_location, has_elements}

-- a place that is seen is there
pub seen_some : (st : Setting) (k : ℕ) (o : Option Place) → has_seen st k o ≡ true → is_some o ≡ true
seen_some st k (Some place) e = refl
seen_some st k None e = absurd (false≢true e)

pub single_wide : (t : Kind) → is_single t ≡ true → width t ≡ 1
single_wide kind.Integer e = refl
single_wide kind.Logical e = refl
single_wide kind.Byte e = refl
single_wide kind.Double e = absurd (false≢true e)

-- what a name leads to has the kind of the variable
pub led_is : (o : Option Sort) → led_kind (access_of o) ≡ variable_kind o
led_is None = refl
led_is (Some (n.equate v)) = refl
led_is (Some (n.simple t own)) = refl
led_is (Some (n.array t own low high)) = refl
led_is (Some (n.view t own base)) = refl
led_is (Some (n.pointer t own)) = refl
led_is (Some (n.value t)) = refl
led_is (Some (n.by_reference t)) = refl
led_is (Some (n.array_parameter t)) = refl
led_is (Some n.label) = refl
led_is (Some (n.intrinsic i)) = refl
led_is (Some (n.procedure p)) = refl
led_is (Some (n.subroutine p)) = refl
led_is (Some n.unknown) = refl

-- ---- addresses

pub addressed_location : (st : Setting) (k : ℕ) (a : Access) (o : Option Place) → is_addressed st k a o ≡ true → has_location a o ≡ true
addressed_location st k (its_own t) o e = seen_some st k o e
addressed_location st k (by_address t) o e = seen_some st k o e
addressed_location st k (by_cell is_pointer t) o e = seen_some st k o e
addressed_location st k a o e = absurd (false≢true e)

pub addressed_elements : (st : Setting) (k : ℕ) (a : Access) (o : Option Place) → is_addressed_element st k a o ≡ true → has_elements a o ≡ true
addressed_elements st k (by_cell is_pointer t) o e = seen_some st k o e
addressed_elements st k a o e = absurd (false≢true e)

-- ---- one word, and two

-- a kind that is led to, of so many words
pub record HasKind (a : Access) (words : ℕ) : Type 0 where
  pub type : Kind
  pub is : led_kind a ≡ Some type
  pub wide : width type ≡ words

-- a location of a kind of so many words
pub location_wide : (o : Option Kind) (t u : Kind) (words : ℕ) → o ≡ Some t → width t ≡ words → o ≡ Some u → width u ≡ words
location_wide o t u words e wide f = let q : t ≡ u = cc in sym (ap width q) ∙ wide

-- a location of such
pub record Found (a : Access) (o : Option Place) (words : ℕ) : Type 0 where
  pub kind' : HasKind a words
  pub found : has_location a o ≡ true

-- and elements of such
pub record FoundElements (a : Access) (o : Option Place) (words : ℕ) : Type 0 where
  pub kind' : HasKind a words
  pub found : has_elements a o ≡ true

pub element_found : (st : Setting) (k : ℕ) (a : Access) (o : Option Place) → is_led_element st k a o ≡ true → FoundElements a o 1
element_found st k (by_cell is_pointer t) o e =
    let two = both (is_single t) ((is_pointer || not st.split) && has_seen st k o) e in
    let rest = both (is_pointer || not st.split) (has_seen st k o) two.1 in
    record { kind' = record { type = t; is = refl; wide = single_wide t two.0 }; found = seen_some st k o rest.1 }
element_found st k a o e = absurd (false≢true e)

-- elements have a location without an index too
pub elements_located : (a : Access) (o : Option Place) → has_elements a o ≡ true → has_location a o ≡ true
elements_located (by_cell is_pointer t) o e = e
elements_located a o e = absurd (false≢true e)

pub element_location : (a : Access) (o : Option Place) (words : ℕ) → FoundElements a o words → Found a o words
element_location a o words r = record { kind' = r.kind'; found = elements_located a o r.found }

pub led_found : (st : Setting) (k : ℕ) (a : Access) (o : Option Place) → is_led st k a o ≡ true → Found a o 1
led_found st k (by_address t) o e =
    let two = both (is_single t) (not st.split && has_seen st k o) e in
    record { kind' = record { type = t; is = refl; wide = single_wide t two.0 }; found = seen_some st k o (both (not st.split) (has_seen st k o) two.1).1 }
led_found st k (by_cell is_pointer t) o e = element_location (by_cell is_pointer t) o 1 (element_found st k (by_cell is_pointer t) o e)
led_found st k a o e = absurd (false≢true e)

-- a variable of its own
pub own_found : (st : Setting) (k : ℕ) (t : Kind) (o : Option Place) (words : ℕ) → width t ≡ words → has_seen st k o ≡ true → Found (its_own t) o words
own_found st k t o words wide e = record { kind' = record { type = t; is = refl; wide = wide }; found = seen_some st k o e }

pub single_found : (st : Setting) (k : ℕ) (t : Kind) (o : Option Place) → (is_single t && has_seen st k o) ≡ true → Found (its_own t) o 1
single_found st k t o e =
    let two = both (is_single t) (has_seen st k o) e in own_found st k t o 1 (single_wide t two.0) two.1

-- of two words
pub wide_element_found : (st : Setting) (k : ℕ) (a : Access) (o : Option Place) → is_wide_element st k a o ≡ true → FoundElements a o 2
wide_element_found st k (by_cell is_pointer kind.Double) o e =
    let two = both (is_pointer || not st.split) (has_seen st k o) e in
    record { kind' = record { type = kind.Double; is = refl; wide = refl }; found = seen_some st k o two.1 }
wide_element_found st k a o e = absurd (false≢true e)

pub wide_led_found : (st : Setting) (k : ℕ) (a : Access) (o : Option Place) → is_wide_led st k a o ≡ true → Found a o 2
wide_led_found st k (by_address kind.Double) o e =
    let two = both (not st.split) (has_seen st k o) e in
    record { kind' = record { type = kind.Double; is = refl; wide = refl }; found = seen_some st k o two.1 }
wide_led_found st k (by_cell is_pointer t) o e = element_location (by_cell is_pointer t) o 2 (wide_element_found st k (by_cell is_pointer t) o e)
wide_led_found st k a o e = absurd (false≢true e)

pub wide_name_found : (st : Setting) (k : ℕ) (s : Option Sort) (o : Option Place) → is_wide_name st k s o ≡ true → Found (access_of s) o 2
wide_name_found st k (Some (n.simple kind.Double own)) o e = own_found st k kind.Double o 2 refl e
wide_name_found st k (Some (n.value kind.Double)) o e = own_found st k kind.Double o 2 refl e
wide_name_found st k s o e = absurd (false≢true e)
