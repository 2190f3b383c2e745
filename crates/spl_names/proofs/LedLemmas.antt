-- Names whose words lead to words, by index or not: what they stand for, and their code.
use Rattle.std.proofs.Common.{◌≡◌, ℕ, ◌+◌, ◌≤◌, Bool, true, false, List, [], ◌∷◌, refl, sym, ap, subst, ◌∙◌, arith}
use Rattle.std.specs.Prelude.{Option, Some, None, ◌&&◌, ◌||◌, not}
use Rattle.std.proofs.lemmas.Bool.{false≢true, not-true}
use Rattle.spl_statement_code.specs.spl_tree.declared.expressions.Kind.{Kind}
use Rattle.spl_statement_code.specs.spl_tree.declared.expressions.Kind.TheVariants as kind
use Rattle.spl_statement_code.specs.spl_tree.declared.names_and_places.At.{At}
use Rattle.spl_statement_code.specs.spl_tree.Trees as tree
use Rattle.spl_statement_code.specs.spl_tree.Trees.{Tree}
use Rattle.spl_statement_code.specs.spl_meaning.Names as n
use Rattle.spl_statement_code.specs.spl_meaning.Names.{Sort}
use Rattle.spl_statement_code.specs.spl_meaning.Kinds.{Operand, of, named_operand, width}
use Rattle.spl_statement_code.specs.spl_meaning.Pending.{result_words}
use Rattle.spl_statement_code.specs.spl_meaning.Places.{Place}
use Rattle.spl_statement_code.specs.spl_meaning.References.{Here, Setting, Located, Access, by_cell, access_of, index_or_zero, led_located, locate_by, read}
use Rattle.spl_statement_code.specs.spl_meaning.States.{State, Outcome, done, then_go}
use Rattle.spl_statement_code.specs.spl_meaning.Values.{Callee, Sense, a_variable, sense_of, as_index, named_value, value, arguments}
use Rattle.spl_statement_code.specs.spl_branch.declared.pieces.Piece.{Piece}
use Rattle.spl_statement_code.specs.spl_code.Parts.{Part, pieces, nothing, ◌⨟◌}
use Rattle.spl_statement_code.specs.spl_code.Operands.{mode_of, load, loaded, index_to_x, at_place}
use Rattle.spl_statement_code.specs.spl_code.Stores.{from_top, stored, cell_stored, field_stored, cell_field}
use Rattle.spl_statement_code.specs.spl_code.Calls.{Scope}
use Rattle.spl_statement_code.specs.spl_code.Code as made
use Rattle.spl_statement_code.specs.spl_code.Code.{Aim, as_value, closing, code}
use Rattle.spl_addresses.specs.spl_follow.Standing.{IsClosed}
use Rattle.spl_addresses.specs.spl_follow.Simulating.{Surroundings, Simulates}
use Rattle.spl_addresses.specs.spl_values.Reached.{IsWhole}
use Rattle.spl_addresses.proofs.spl_values_proofs.VariableLemmas.{both}
use Rattle.spl_addresses.proofs.spl_values_proofs.WholeLemmas.{whole_pieces, whole_first, whole_behind, same_simulates, first_simulates}
use Rattle.spl_addresses.proofs.spl_operands_proofs.ReadLemmas.{cells_give, elements_give}
use Rattle.spl_tops.specs.Seen.{is_seen}
use Rattle.spl_tops.specs.spl_operators.Laws.{is_word_operand, is_single}
use Rattle.spl_tops.proofs.spl_conditions_proofs.ConditionLemmas.{closed_values}
use Rattle.spl_names.specs.Names.{read_with, has_seen, is_led, is_led_element}

-- ---- what names stand for

-- a name whose word leads to elements
pub record IsElement (st : Setting) (x : List ℕ) (k : ℕ) (o : Option Sort) (pl : Option Place) : Type 0 where
  pub is_pointer : Bool
  pub type : Kind
  pub place : Place
  pub sense : sense_of x o ≡ a_variable
  pub access : access_of o ≡ by_cell is_pointer type
  pub operand : named_operand o ≡ of type
  pub is : pl ≡ Some place
  pub word : is_single type ≡ true
  pub seen : is_seen st k place ≡ true
  pub side : (is_pointer && st.split) ≡ st.split

-- one whose word leads to a word without an index
pub record IsLed (st : Setting) (x : List ℕ) (k : ℕ) (o : Option Sort) (pl : Option Place) : Type 0 where
  pub far : Bool
  pub type : Kind
  pub place : Place
  pub sense : sense_of x o ≡ a_variable
  pub loads : loaded (access_of o) false (mode_of k place) ≡ load type true false (mode_of k place) ∷ []
  pub stores : stored (access_of o) false k place ≡ cell_stored type (from_top place) (mode_of k place)
  pub fields : (start size : ℕ) → field_stored (access_of o) start size false k place ≡ cell_field start size (from_top place) (mode_of k place)
  pub leads : (c : Scope) (results : List ℕ → Option (Kind × Place)) (s : State)
      → locate_by (read_with c results st) x (access_of o) None s ≡ led_located far type (c.places x) 0 s
  pub operand : named_operand o ≡ of type
  pub is : pl ≡ Some place
  pub word : is_single type ≡ true
  pub seen : is_seen st k place ≡ true
  pub side : far ≡ st.split

-- the mode in which the elements of an array, or of a pointer, are
sides : (is_pointer split : Bool) → (is_pointer || not split) ≡ true → (is_pointer && split) ≡ split
sides true split e = refl
sides false false e = refl
sides false true e = absurd (false≢true e)

-- a name with a cell whose elements are covered
of_cell : (st : Setting) (x : List ℕ) (k : ℕ) (o : Option Sort) (pl : Option Place) (is_pointer : Bool) (t : Kind) → sense_of x o ≡ a_variable
    → access_of o ≡ by_cell is_pointer t → named_operand o ≡ of t
    → is_led_element st k (by_cell is_pointer t) pl ≡ true → IsElement st x k o pl
of_cell st x k o None is_pointer t sense access operand e =
    absurd (false≢true (both (is_pointer || not st.split) false (both (is_single t) ((is_pointer || not st.split) && false) e).1).1)
of_cell st x k o (Some place) is_pointer t sense access operand e =
    let two = both (is_single t) ((is_pointer || not st.split) && is_seen st k place) e in
    let rest = both (is_pointer || not st.split) (is_seen st k place) two.1 in
    record {
      is_pointer = is_pointer;
      type = t;
      place = place;
      sense = sense;
      access = access;
      operand = operand;
      is = refl;
      word = two.0;
      seen = rest.1;
      side = sides is_pointer st.split rest.0;
    }

-- by what it stands for
pub element_case : (st : Setting) (x : List ℕ) (k : ℕ) (o : Option Sort) (pl : Option Place) → is_led_element st k (access_of o) pl ≡ true
    → IsElement st x k o pl
element_case st x k (Some (n.array t own low high)) pl e = of_cell st x k (Some (n.array t own low high)) pl false t refl refl refl e
element_case st x k (Some (n.view t own base)) pl e = of_cell st x k (Some (n.view t own base)) pl false t refl refl refl e
element_case st x k (Some (n.array_parameter t)) pl e = of_cell st x k (Some (n.array_parameter t)) pl false t refl refl refl e
element_case st x k (Some (n.pointer t own)) pl e = of_cell st x k (Some (n.pointer t own)) pl true t refl refl refl e
element_case st x k None pl e = absurd (false≢true e)
element_case st x k (Some (n.simple t own)) pl e = absurd (false≢true e)
element_case st x k (Some (n.value t)) pl e = absurd (false≢true e)
element_case st x k (Some (n.by_reference t)) pl e = absurd (false≢true e)
element_case st x k (Some (n.equate v)) pl e = absurd (false≢true e)
element_case st x k (Some n.label) pl e = absurd (false≢true e)
element_case st x k (Some (n.intrinsic i)) pl e = absurd (false≢true e)
element_case st x k (Some (n.procedure p)) pl e = absurd (false≢true e)
element_case st x k (Some (n.subroutine p)) pl e = absurd (false≢true e)
element_case st x k (Some n.unknown) pl e = absurd (false≢true e)

-- element 0 needs no index
first_of : (st : Setting) (x : List ℕ) (k : ℕ) (o : Option Sort) (pl : Option Place) → IsElement st x k o pl → IsLed st x k o pl
first_of st x k o pl r = record {
  far = r.is_pointer && st.split;
  type = r.type;
  place = r.place;
  sense = r.sense;
  loads = ap (λ (a : Access). loaded a false (mode_of k r.place)) r.access;
  stores = ap (λ (a : Access). stored a false k r.place) r.access;
  fields = λ start size. ap (λ (a : Access). field_stored a start size false k r.place) r.access;
  leads = λ c results s. ap (λ (a : Access). locate_by (read_with c results st) x a None s) r.access;
  operand = r.operand;
  is = r.is;
  word = r.word;
  seen = r.seen;
  side = r.side;
}

-- a parameter by reference, where it is seen
of_address : (st : Setting) (x : List ℕ) (k : ℕ) (t : Kind) (pl : Option Place) → (is_single t && (not st.split && has_seen st k pl)) ≡ true
    → IsLed st x k (Some (n.by_reference t)) pl
of_address st x k t None e = absurd (false≢true (both (not st.split) false (both (is_single t) (not st.split && false) e).1).1)
of_address st x k t (Some place) e =
    let two = both (is_single t) (not st.split && is_seen st k place) e in
    let rest = both (not st.split) (is_seen st k place) two.1 in
    record {
      far = false;
      type = t;
      place = place;
      sense = refl;
      loads = refl;
      stores = refl;
      fields = λ start size. refl;
      leads = λ c results s. refl;
      operand = refl;
      is = refl;
      word = two.0;
      seen = rest.1;
      side = sym (not-true st.split rest.0);
    }

pub led_case : (st : Setting) (x : List ℕ) (k : ℕ) (o : Option Sort) (pl : Option Place) → is_led st k (access_of o) pl ≡ true → IsLed st x k o pl
led_case st x k (Some (n.array t own low high)) pl e = first_of st x k (Some (n.array t own low high)) pl (element_case st x k (Some (n.array t own low high)) pl e)
led_case st x k (Some (n.view t own base)) pl e = first_of st x k (Some (n.view t own base)) pl (element_case st x k (Some (n.view t own base)) pl e)
led_case st x k (Some (n.array_parameter t)) pl e = first_of st x k (Some (n.array_parameter t)) pl (element_case st x k (Some (n.array_parameter t)) pl e)
led_case st x k (Some (n.pointer t own)) pl e = first_of st x k (Some (n.pointer t own)) pl (element_case st x k (Some (n.pointer t own)) pl e)
led_case st x k (Some (n.by_reference t)) pl e = of_address st x k t pl e
led_case st x k None pl e = absurd (false≢true e)
led_case st x k (Some (n.simple t own)) pl e = absurd (false≢true e)
led_case st x k (Some (n.value t)) pl e = absurd (false≢true e)
led_case st x k (Some (n.equate v)) pl e = absurd (false≢true e)
led_case st x k (Some n.label) pl e = absurd (false≢true e)
led_case st x k (Some (n.intrinsic i)) pl e = absurd (false≢true e)
led_case st x k (Some (n.procedure p)) pl e = absurd (false≢true e)
led_case st x k (Some (n.subroutine p)) pl e = absurd (false≢true e)
led_case st x k (Some n.unknown) pl e = absurd (false≢true e)

-- a kind of one word
pub single_word : (to : Kind) → is_single to ≡ true → is_word_operand (of to) ≡ true
single_word kind.Integer e = refl
single_word kind.Logical e = refl
single_word kind.Byte e = refl
single_word kind.Double e = absurd (false≢true e)

-- so has what is of a kind of one word
pub kind_operand : (o : Operand) (t : Kind) → o ≡ of t → is_single t ≡ true → is_word_operand o ≡ true
kind_operand o t is single = subst (λ (a : Operand). is_word_operand a ≡ true) (sym is) (single_word t single)

-- and it is one word wide
pub single_width : (t : Kind) → is_single t ≡ true → width t ≡ 1
single_width kind.Integer e = refl
single_width kind.Logical e = refl
single_width kind.Byte e = refl
single_width kind.Double e = absurd (false≢true e)

-- ---- names without an index

-- a load closes
load_closed : (t : Kind) (k : ℕ) (indexed : Bool) (place : Place) → IsClosed (load t true indexed (mode_of k place) ∷ [])
load_closed kind.Integer k indexed place = refl
load_closed kind.Logical k indexed place = refl
load_closed kind.Byte k indexed place = refl
load_closed kind.Double k indexed place = refl

-- through a word one word is given
one_led : (z : Surroundings) (d k need : ℕ) (far : Bool) (t : Kind) (place : Place) → is_single t ≡ true → is_seen z.setting k place ≡ true
    → far ≡ z.setting.split → 1 ≤ need
    → Simulates z d as_value 1 k need (pieces (load t true false (mode_of k place) ∷ []))
    (λ s. then_go (led_located far t (Some place) 0 s) (λ p u. read p u))
one_led z d k need far t place single seen side enough =
    let wide = single_width t single in
    subst (λ (j : ℕ). Simulates z d as_value j k need (pieces (load t true false (mode_of k place) ∷ [])) (λ s. then_go (led_located far t (Some place) 0 s) (λ p u. read p u)))
    wide (cells_give z d k need far t place seen side (omega (arith, wide, enough)))

one_element : (z : Surroundings) (d k need : ℕ) (far : Bool) (t : Kind) (place : Place) (a : Part) (value : State → Outcome (List ℕ)) → is_single t ≡ true
    → is_seen z.setting k place ≡ true → far ≡ z.setting.split → 1 ≤ need → IsWhole a → Simulates z d as_value 1 k need a value
    → Simulates z d as_value 1 k need (a ⨟ pieces (index_to_x false) ⨟ pieces (load t true true (mode_of k place) ∷ []))
    (λ s. then_go (then_go (value s) as_index) (λ i u. then_go (led_located far t (Some place) (index_or_zero i) u) (λ p v. read p v)))
one_element z d k need far t place a value single seen side enough whole sim =
    let wide = single_width t single in
    subst (λ (j : ℕ). Simulates z d as_value j k need (a ⨟ pieces (index_to_x false) ⨟ pieces (load t true true (mode_of k place) ∷ []))
    (λ s. then_go (then_go (value s) as_index) (λ i u. then_go (led_located far t (Some place) (index_or_zero i) u) (λ p v. read p v))))
    wide (elements_give z d k need far t place a value seen side (omega (arith, wide, enough)) whole sim)

-- the code of such a name
pub led_code : (c : Scope) (st : Setting) (x : List ℕ) (at : At) (aim : Aim) (k : ℕ) (r : IsLed st x k (c.names x) (c.places x))
    → code c (tree.Tree.named x tree.Trees.none at) aim k ≡ nothing ⨟ pieces (load r.type true false (mode_of k r.place) ∷ []) ⨟ closing aim
led_code c st x at aim k r =
    ap (λ (s : Sense). made.named c x s (λ p. made.arguments c p.formals tree.Trees.none (k + result_words p)) (nothing ⨟ pieces (at_place (c.places x) (λ place. loaded (access_of (c.names x)) false (mode_of k place)))) ⨟ closing aim)
    r.sense
    ∙ ap (λ (o : Option Place). nothing ⨟ pieces (at_place o (λ place. loaded (access_of (c.names x)) false (mode_of k place))) ⨟ closing aim) r.is
    ∙ ap (λ (ps : List Piece). nothing ⨟ pieces ps ⨟ closing aim) r.loads

-- it is whole, with nothing before it
pub led_whole : (t : Kind) (k : ℕ) (place : Place) → IsWhole (nothing ⨟ pieces (load t true false (mode_of k place) ∷ []))
led_whole t k place =
    whole_first (pieces (load t true false (mode_of k place) ∷ [])) (whole_pieces (load t true false (mode_of k place) ∷ []) (load_closed t k false place))

-- and simulates the name
pub led_simulates : (c : Scope) (results : List ℕ → Option (Kind × Place)) (z : Surroundings) (call : Callee) (d : ℕ) (x : List ℕ) (at : At) (aim : Aim)
    (k need : ℕ) → IsLed z.setting x k (c.names x) (c.places x) → 1 ≤ need
    → Simulates z d aim 1 k need (code c (tree.Tree.named x tree.Trees.none at) aim k)
    (λ s. value (read_with c results z.setting) call (tree.Tree.named x tree.Trees.none at) k s)
led_simulates c results z call d x at aim k need r enough =
    same_simulates z d aim 1 k need (code c (tree.Tree.named x tree.Trees.none at) aim k) (nothing ⨟ pieces (load r.type true false (mode_of k r.place) ∷ []) ⨟ closing aim)
    (λ s. value h call (tree.Tree.named x tree.Trees.none at) k s) (λ s. then_go (led_located r.far r.type (Some r.place) 0 s) (λ p t. read p t))
    (led_code c z.setting x at aim k r)
    (λ s. ap (λ (t : Sense). valued t s) r.sense ∙ ap (λ (o : Outcome Located). then_go o (λ p t. read p t)) (r.leads c results s)
    ∙ ap (λ (o : Option Place). then_go (led_located r.far r.type o 0 s) (λ p t. read p t)) r.is)
    (closed_values z d k need aim (nothing ⨟ pieces (load r.type true false (mode_of k r.place) ∷ []))
    (λ s. then_go (led_located r.far r.type (Some r.place) 0 s) (λ p t. read p t)) (led_whole r.type k r.place)
    (first_simulates z d as_value 1 k need (pieces (load r.type true false (mode_of k r.place) ∷ []))
    (λ s. then_go (led_located r.far r.type (Some r.place) 0 s) (λ p t. read p t)) (one_led z d k need r.far r.type r.place r.word r.seen r.side enough))) where
      h : Here
      h = read_with c results z.setting

      valued : Sense → State → Outcome (List ℕ)
      valued t s =
          named_value h x t (λ s1. done None s1) (λ p s1. arguments h call p.formals tree.Trees.none (k + result_words p) s1) call k s

-- ---- elements

-- the code of an element, behind that of its index
element_code : (c : Scope) (st : Setting) (x : List ℕ) (e : Tree) (at : At) (aim : Aim) (k : ℕ) (r : IsElement st x k (c.names x) (c.places x))
    → code c (tree.Tree.named x (tree.Trees.and e tree.Trees.none) at) aim k
    ≡ code c e as_value k ⨟ pieces (index_to_x false) ⨟ pieces (load r.type true true (mode_of k r.place) ∷ []) ⨟ closing aim
element_code c st x e at aim k r =
    ap (λ (s : Sense). made.named c x s (λ p. made.arguments c p.formals (tree.Trees.and e tree.Trees.none) (k + result_words p)) (code c e as_value k ⨟ pieces (index_to_x false) ⨟ pieces (at_place (c.places x) (λ place. loaded (access_of (c.names x)) true (mode_of k place)))) ⨟ closing aim)
    r.sense
    ∙ ap (λ (a : Access). code c e as_value k ⨟ pieces (index_to_x false) ⨟ pieces (at_place (c.places x) (λ place. loaded a true (mode_of k place))) ⨟ closing aim) r.access
    ∙ ap (λ (o : Option Place). code c e as_value k ⨟ pieces (index_to_x false) ⨟ pieces (at_place o (λ place. load r.type true true (mode_of k place) ∷ [])) ⨟ closing aim) r.is

-- the element's code is whole behind whole code
element_made : (a : Part) (t : Kind) (k : ℕ) (place : Place) → IsWhole a
    → IsWhole (a ⨟ pieces (index_to_x false) ⨟ pieces (load t true true (mode_of k place) ∷ []))
element_made a t k place whole =
    whole_behind (a ⨟ pieces (index_to_x false)) (load t true true (mode_of k place) ∷ []) (whole_behind a (index_to_x false) whole refl) (load_closed t k true place)

-- an element's code is whole, whatever is wanted of it
pub element_whole : (c : Scope) (st : Setting) (x : List ℕ) (e : Tree) (at : At) (aim : Aim) (k : ℕ) → IsElement st x k (c.names x) (c.places x)
    → ((a : Part) → IsWhole a → IsWhole (a ⨟ closing aim)) → IsWhole (code c e as_value k)
    → IsWhole (code c (tree.Tree.named x (tree.Trees.and e tree.Trees.none) at) aim k)
element_whole c st x e at aim k r closes whole =
    subst (λ (a : Part). IsWhole a) (sym (element_code c st x e at aim k r))
    (closes (code c e as_value k ⨟ pieces (index_to_x false) ⨟ pieces (load r.type true true (mode_of k r.place) ∷ []))
    (element_made (code c e as_value k) r.type k r.place whole))

-- and simulates it
pub element_simulates : (c : Scope) (results : List ℕ → Option (Kind × Place)) (z : Surroundings) (call : Callee) (d : ℕ) (x : List ℕ) (e : Tree) (at : At)
    (aim : Aim) (k need : ℕ) → IsElement z.setting x k (c.names x) (c.places x) → 1 ≤ need → IsWhole (code c e as_value k)
    → Simulates z d as_value 1 k need (code c e as_value k) (λ s. value (read_with c results z.setting) call e k s)
    → Simulates z d aim 1 k need (code c (tree.Tree.named x (tree.Trees.and e tree.Trees.none) at) aim k)
    (λ s. value (read_with c results z.setting) call (tree.Tree.named x (tree.Trees.and e tree.Trees.none) at) k s)
element_simulates c results z call d x e at aim k need r enough whole sim =
    same_simulates z d aim 1 k need (code c (tree.Tree.named x (tree.Trees.and e tree.Trees.none) at) aim k) (part ⨟ closing aim)
    (λ s. value h call (tree.Tree.named x (tree.Trees.and e tree.Trees.none) at) k s) (λ s. meant (Some r.place) s) (element_code c z.setting x e at aim k r)
    (λ s. ap (λ (t : Sense). valued t s) r.sense
    ∙ ap (λ (a : Access). then_go (then_go (value h call e k s) as_index) (λ i u. then_go (locate_by h x a i u) (λ p v. read p v))) r.access
    ∙ ap (λ (o : Option Place). meant o s) r.is)
    (closed_values z d k need aim part (λ s. meant (Some r.place) s) (element_made (code c e as_value k) r.type k r.place whole)
    (one_element z d k need (r.is_pointer && z.setting.split) r.type r.place (code c e as_value k) (λ s. value h call e k s) r.word r.seen r.side enough whole sim)) where
      h : Here
      h = read_with c results z.setting

      part : Part
      part = code c e as_value k ⨟ pieces (index_to_x false) ⨟ pieces (load r.type true true (mode_of k r.place) ∷ [])

      meant : Option Place → State → Outcome (List ℕ)
      meant o s =
          then_go (then_go (value h call e k s) as_index)
          (λ i u. then_go (led_located (r.is_pointer && z.setting.split) r.type o (index_or_zero i) u) (λ p v. read p v))

      valued : Sense → State → Outcome (List ℕ)
      valued t s =
          named_value h x t (λ s1. then_go (value h call e k s1) as_index)
          (λ p s1. arguments h call p.formals (tree.Trees.and e tree.Trees.none) (k + result_words p) s1) call k s
