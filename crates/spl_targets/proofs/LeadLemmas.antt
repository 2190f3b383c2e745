-- Names whose words lead to words: on the left of := they lead where they do elsewhere, and their bit fields are those of cells.
use Rattle.std.proofs.Common.{◌≡◌, ℕ, Bool, true, false, List, ◌∙◌}
use Rattle.std.specs.Prelude.{Option, Some, None, ◌&&◌}
use Rattle.spl_covered.specs.spl_tree.declared.expressions.Kind.{Kind}
use Rattle.spl_covered.specs.spl_meaning.Kinds.{of, named_operand}
use Rattle.spl_covered.specs.spl_meaning.Names.{Sort}
use Rattle.spl_covered.specs.spl_meaning.Places.{Place}
use Rattle.spl_covered.specs.spl_meaning.References.{Setting, by_cell, access_of, target_access, led_located, locate_by}
use Rattle.spl_covered.specs.spl_meaning.States.{State}
use Rattle.spl_covered.specs.spl_code.Calls.{Scope}
use Rattle.spl_covered.specs.spl_code.Operands.{mode_of}
use Rattle.spl_covered.specs.spl_code.Stores.{from_top, field_stored, cell_field}
use Rattle.spl_covered.specs.spl_statement_code.Assignments.{assigned_access}
use Rattle.spl_covered.specs.spl_tops.Seen.{is_seen}
use Rattle.spl_covered.specs.spl_names.Names.{is_led, is_led_element, read_with}
use Rattle.spl_covered.proofs.spl_names_proofs.LedLemmas.{element_case, led_case}
use Rattle.spl_targets.proofs.ElementLemmas.{led_of_element, left_access}

-- a name whose word leads to elements
pub record SeenElement (st : Setting) (o : Option Sort) (k : ℕ) (pl : Option Place) : Type 0 where
  pub is_pointer : Bool
  pub type : Kind
  pub place : Place
  pub is : pl ≡ Some place
  pub target : target_access o ≡ by_cell is_pointer type
  pub made : assigned_access o ≡ by_cell is_pointer type
  pub operand : named_operand o ≡ of type
  pub seen : is_seen st k place ≡ true
  pub side : (is_pointer && st.split) ≡ st.split

pub seen_element : (st : Setting) (x : List ℕ) (k : ℕ) (o : Option Sort) (pl : Option Place) → is_led_element st k (access_of o) pl ≡ true
    → SeenElement st o k pl
seen_element st x k o pl e =
    let r = element_case st x k o pl e in
    let left = left_access st k o pl (led_of_element st k (access_of o) pl e) in
    record {
      is_pointer = r.is_pointer;
      type = r.type;
      place = r.place;
      is = r.is;
      target = left.0 ∙ r.access;
      made = left.1 ∙ r.access;
      operand = r.operand;
      seen = r.seen;
      side = r.side;
    }

-- one whose word leads to a word, without an index
pub record SeenLed (st : Setting) (x : List ℕ) (k : ℕ) (o : Option Sort) (pl : Option Place) : Type 0 where
  pub far : Bool
  pub type : Kind
  pub place : Place
  pub is : pl ≡ Some place
  pub target : target_access o ≡ access_of o
  pub made : assigned_access o ≡ access_of o
  pub fields : (start size : ℕ) → field_stored (access_of o) start size false k place ≡ cell_field start size (from_top place) (mode_of k place)
  pub leads : (c : Scope) (results : List ℕ → Option (Kind × Place)) (s : State)
      → locate_by (read_with c results st) x (access_of o) None s ≡ led_located far type (c.places x) 0 s
  pub operand : named_operand o ≡ of type
  pub seen : is_seen st k place ≡ true
  pub side : far ≡ st.split

pub seen_led : (st : Setting) (x : List ℕ) (k : ℕ) (o : Option Sort) (pl : Option Place) → is_led st k (access_of o) pl ≡ true → SeenLed st x k o pl
seen_led st x k o pl e =
    let r = led_case st x k o pl e in
    let left = left_access st k o pl e in
    record {
      far = r.far;
      type = r.type;
      place = r.place;
      is = r.is;
      target = left.0;
      made = left.1;
      fields = r.fields;
      leads = r.leads;
      operand = r.operand;
      seen = r.seen;
      side = r.side;
    }
