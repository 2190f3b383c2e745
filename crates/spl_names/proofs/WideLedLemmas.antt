-- Names whose words lead to DOUBLEs, by index or not: what they stand for, and their code.
use Rattle.std.proofs.Common.{◌≡◌, ℕ, ◌+◌, ◌≤◌, Bool, true, false, List, [], ◌∷◌, refl, sym, ap, subst, ◌∙◌}
use Rattle.std.specs.Prelude.{Option, Some, None, ◌&&◌, ◌||◌, not}
use Rattle.std.proofs.lemmas.Bool.{false≢true, not-true}
use Rattle.spl_statement_code.specs.spl_tree.declared.expressions.Kind.{Kind}
use Rattle.spl_statement_code.specs.spl_tree.declared.expressions.Kind.TheVariants as kind
use Rattle.spl_statement_code.specs.spl_tree.declared.names_and_places.At.{At}
use Rattle.spl_statement_code.specs.spl_tree.Trees as tree
use Rattle.spl_statement_code.specs.spl_tree.Trees.{Tree}
use Rattle.spl_statement_code.specs.spl_meaning.Names as n
use Rattle.spl_statement_code.specs.spl_meaning.Names.{Sort}
use Rattle.spl_statement_code.specs.spl_meaning.Kinds.{of, named_operand}
use Rattle.spl_statement_code.specs.spl_meaning.Pending.{result_words}
use Rattle.spl_statement_code.specs.spl_meaning.Places.{Place}
use Rattle.spl_statement_code.specs.spl_meaning.References.{Here, Setting, Located, Access, its_own, by_address, by_cell, its_result, nowhere, access_of, target_access, index_or_zero, led_located, locate_by, read}
use Rattle.spl_statement_code.specs.spl_meaning.States.{State, Outcome, done, then_go}
use Rattle.spl_statement_code.specs.spl_meaning.Statements.{is_intrinsic}
use Rattle.spl_statement_code.specs.spl_meaning.Values.{Callee, Sense, a_variable, sense_of, as_index, named_value, value, arguments}
use Rattle.spl_statement_code.specs.spl_branch.declared.pieces.Piece.{Piece}
use Rattle.spl_statement_code.specs.spl_code.Parts.{Part, pieces, nothing, ◌⨟◌}
use Rattle.spl_statement_code.specs.spl_code.Operands.{mode_of, load, loaded, index_to_x, at_place}
use Rattle.spl_statement_code.specs.spl_code.Stores.{from_top, stored, cell_stored}
use Rattle.spl_statement_code.specs.spl_code.Calls.{Scope}
use Rattle.spl_statement_code.specs.spl_code.Code as made
use Rattle.spl_statement_code.specs.spl_code.Code.{as_value, code}
use Rattle.spl_statement_code.specs.Assignments.{assigned_access}
use Rattle.spl_addresses.specs.spl_follow.Simulating.{Surroundings, Simulates}
use Rattle.spl_addresses.specs.spl_values.Reached.{is_seen, IsWhole}
use Rattle.spl_addresses.proofs.spl_values_proofs.VariableLemmas.{both}
use Rattle.spl_addresses.proofs.spl_values_proofs.WholeLemmas.{whole_pieces, whole_first, whole_last, whole_behind, same_simulates, first_simulates, last_simulates}
use Rattle.spl_addresses.proofs.spl_operands_proofs.ReadLemmas.{cells_give, elements_give}
use Rattle.spl_names.specs.Names.{read_with, is_wide_element, is_wide_led}

-- ---- what words lead to

-- the word leads to DOUBLEs, without an index
pub record IsLed (st : Setting) (k : ℕ) (a : Access) (pl : Option Place) : Type 0 where
  pub far : Bool
  pub place : Place
  pub loads : loaded a false (mode_of k place) ≡ load kind.Double true false (mode_of k place) ∷ []
  pub stores : stored a false k place ≡ cell_stored kind.Double (from_top place) (mode_of k place)
  pub leads : (c : Scope) (results : List ℕ → Option (Kind × Place)) (x : List ℕ) (s : State)
      → locate_by (read_with c results st) x a None s ≡ led_located far kind.Double (c.places x) 0 s
  pub is : pl ≡ Some place
  pub seen : is_seen st k place ≡ true
  pub side : far ≡ st.split

-- to elements
pub record IsElement (st : Setting) (k : ℕ) (a : Access) (pl : Option Place) : Type 0 where
  pub is_pointer : Bool
  pub place : Place
  pub access : a ≡ by_cell is_pointer kind.Double
  pub is : pl ≡ Some place
  pub seen : is_seen st k place ≡ true
  pub side : (is_pointer && st.split) ≡ st.split

-- the mode in which the elements of an array, or of a pointer, are
sides : (is_pointer split : Bool) → (is_pointer || not split) ≡ true → (is_pointer && split) ≡ split
sides true split e = refl
sides false false e = refl
sides false true e = absurd (false≢true e)

-- by how the name leads
pub element_case : (st : Setting) (k : ℕ) (a : Access) (pl : Option Place) → is_wide_element st k a pl ≡ true → IsElement st k a pl
element_case st k (by_cell is_pointer kind.Double) (Some place) e =
    let two = both (is_pointer || not st.split) (is_seen st k place) e in
    record { is_pointer = is_pointer; place = place; access = refl; is = refl; seen = two.1; side = sides is_pointer st.split two.0 }
element_case st k (by_cell is_pointer kind.Double) None e = absurd (false≢true (both (is_pointer || not st.split) false e).1)
element_case st k (by_cell is_pointer kind.Integer) pl e = absurd (false≢true e)
element_case st k (by_cell is_pointer kind.Logical) pl e = absurd (false≢true e)
element_case st k (by_cell is_pointer kind.Byte) pl e = absurd (false≢true e)
element_case st k (its_own t) pl e = absurd (false≢true e)
element_case st k (by_address t) pl e = absurd (false≢true e)
element_case st k its_result pl e = absurd (false≢true e)
element_case st k nowhere pl e = absurd (false≢true e)

-- element 0 needs no index
first_of : (st : Setting) (k : ℕ) (a : Access) (pl : Option Place) → IsElement st k a pl → IsLed st k a pl
first_of st k a pl r = record {
  far = r.is_pointer && st.split;
  place = r.place;
  loads = ap (λ (b : Access). loaded b false (mode_of k r.place)) r.access;
  stores = ap (λ (b : Access). stored b false k r.place) r.access;
  leads = λ c results x s. ap (λ (b : Access). locate_by (read_with c results st) x b None s) r.access;
  is = r.is;
  seen = r.seen;
  side = r.side;
}

pub led_case : (st : Setting) (k : ℕ) (a : Access) (pl : Option Place) → is_wide_led st k a pl ≡ true → IsLed st k a pl
led_case st k (by_cell is_pointer t) pl e = first_of st k (by_cell is_pointer t) pl (element_case st k (by_cell is_pointer t) pl e)
led_case st k (by_address kind.Double) (Some place) e =
    let two = both (not st.split) (is_seen st k place) e in
    record {
      far = false;
      place = place;
      loads = refl;
      stores = refl;
      leads = λ c results x s. refl;
      is = refl;
      seen = two.1;
      side = sym (not-true st.split two.0);
    }
led_case st k (by_address kind.Double) None e = absurd (false≢true (both (not st.split) false e).1)
led_case st k (by_address kind.Integer) pl e = absurd (false≢true e)
led_case st k (by_address kind.Logical) pl e = absurd (false≢true e)
led_case st k (by_address kind.Byte) pl e = absurd (false≢true e)
led_case st k (its_own t) pl e = absurd (false≢true e)
led_case st k its_result pl e = absurd (false≢true e)
led_case st k nowhere pl e = absurd (false≢true e)

-- what leads to elements leads to the first without an index
pub led_of_element : (st : Setting) (k : ℕ) (a : Access) (pl : Option Place) → is_wide_element st k a pl ≡ true → is_wide_led st k a pl ≡ true
led_of_element st k (by_cell is_pointer t) pl e = e
led_of_element st k (its_own t) pl e = absurd (false≢true e)
led_of_element st k (by_address t) pl e = absurd (false≢true e)
led_of_element st k its_result pl e = absurd (false≢true e)
led_of_element st k nowhere pl e = absurd (false≢true e)

-- ---- what names stand for

-- a name whose word leads to DOUBLEs
pub record IsLeading (x : List ℕ) (o : Option Sort) : Type 0 where
  pub sense : sense_of x o ≡ a_variable
  pub operand : named_operand o ≡ of kind.Double
  pub target : target_access o ≡ access_of o
  pub made : assigned_access o ≡ access_of o
  pub alone : is_intrinsic o ≡ false

-- the kind is DOUBLE
cell_kind : (st : Setting) (k : ℕ) (is_pointer : Bool) (t : Kind) (pl : Option Place) → is_wide_led st k (by_cell is_pointer t) pl ≡ true
    → of t ≡ of kind.Double
cell_kind st k is_pointer kind.Double pl e = refl
cell_kind st k is_pointer kind.Integer pl e = absurd (false≢true e)
cell_kind st k is_pointer kind.Logical pl e = absurd (false≢true e)
cell_kind st k is_pointer kind.Byte pl e = absurd (false≢true e)

address_kind : (st : Setting) (k : ℕ) (t : Kind) (pl : Option Place) → is_wide_led st k (by_address t) pl ≡ true → of t ≡ of kind.Double
address_kind st k kind.Double pl e = refl
address_kind st k kind.Integer pl e = absurd (false≢true e)
address_kind st k kind.Logical pl e = absurd (false≢true e)
address_kind st k kind.Byte pl e = absurd (false≢true e)

-- by what it stands for
pub leading_case : (st : Setting) (x : List ℕ) (k : ℕ) (o : Option Sort) (pl : Option Place) → is_wide_led st k (access_of o) pl ≡ true → IsLeading x o
leading_case st x k (Some (n.array t own low high)) pl e =
    record { sense = refl; operand = cell_kind st k false t pl e; target = refl; made = refl; alone = refl }
leading_case st x k (Some (n.view t own base)) pl e =
    record { sense = refl; operand = cell_kind st k false t pl e; target = refl; made = refl; alone = refl }
leading_case st x k (Some (n.array_parameter t)) pl e =
    record { sense = refl; operand = cell_kind st k false t pl e; target = refl; made = refl; alone = refl }
leading_case st x k (Some (n.pointer t own)) pl e =
    record { sense = refl; operand = cell_kind st k true t pl e; target = refl; made = refl; alone = refl }
leading_case st x k (Some (n.by_reference t)) pl e =
    record { sense = refl; operand = address_kind st k t pl e; target = refl; made = refl; alone = refl }
leading_case st x k None pl e = absurd (false≢true e)
leading_case st x k (Some (n.simple t own)) pl e = absurd (false≢true e)
leading_case st x k (Some (n.value t)) pl e = absurd (false≢true e)
leading_case st x k (Some (n.equate v)) pl e = absurd (false≢true e)
leading_case st x k (Some n.label) pl e = absurd (false≢true e)
leading_case st x k (Some (n.intrinsic i)) pl e = absurd (false≢true e)
leading_case st x k (Some (n.procedure p)) pl e = absurd (false≢true e)
leading_case st x k (Some (n.subroutine p)) pl e = absurd (false≢true e)
leading_case st x k (Some n.unknown) pl e = absurd (false≢true e)

-- ---- read without an index

-- the code of such a name
led_code : (c : Scope) (st : Setting) (x : List ℕ) (at : At) (k : ℕ) → IsLeading x (c.names x) → (r : IsLed st k (access_of (c.names x)) (c.places x))
    → code c (tree.Tree.named x tree.Trees.none at) as_value k ≡ nothing ⨟ pieces (load kind.Double true false (mode_of k r.place) ∷ []) ⨟ nothing
led_code c st x at k name r =
    ap (λ (s : Sense). made.named c x s (λ p. made.arguments c p.formals tree.Trees.none (k + result_words p)) (nothing ⨟ pieces (at_place (c.places x) (λ place. loaded (access_of (c.names x)) false (mode_of k place)))) ⨟ nothing)
    name.sense
    ∙ ap (λ (o : Option Place). nothing ⨟ pieces (at_place o (λ place. loaded (access_of (c.names x)) false (mode_of k place))) ⨟ nothing) r.is
    ∙ ap (λ (ps : List Piece). nothing ⨟ pieces ps ⨟ nothing) r.loads

-- it is whole
pub led_whole : (c : Scope) (st : Setting) (x : List ℕ) (at : At) (k : ℕ) → is_wide_led st k (access_of (c.names x)) (c.places x) ≡ true
    → IsWhole (code c (tree.Tree.named x tree.Trees.none at) as_value k)
led_whole c st x at k e =
    let r = led_case st k (access_of (c.names x)) (c.places x) e in
    let ps = load kind.Double true false (mode_of k r.place) ∷ [] in
    subst (λ (a : Part). IsWhole a) (sym (led_code c st x at k (leading_case st x k (c.names x) (c.places x) e) r))
    (whole_last (nothing ⨟ pieces ps) (whole_first (pieces ps) (whole_pieces ps refl)))

-- and gives both words
pub led_simulates : (c : Scope) (results : List ℕ → Option (Kind × Place)) (z : Surroundings) (call : Callee) (d : ℕ) (x : List ℕ) (at : At) (k need : ℕ)
    → is_wide_led z.setting k (access_of (c.names x)) (c.places x) ≡ true → 2 ≤ need
    → Simulates z d as_value 2 k need (code c (tree.Tree.named x tree.Trees.none at) as_value k)
    (λ s. value (read_with c results z.setting) call (tree.Tree.named x tree.Trees.none at) k s)
led_simulates c results z call d x at k need e enough =
    by (leading_case z.setting x k (c.names x) (c.places x) e) (led_case z.setting k (access_of (c.names x)) (c.places x) e) where
      h : Here
      h = read_with c results z.setting

      valued : Sense → State → Outcome (List ℕ)
      valued t s =
          named_value h x t (λ s1. done None s1) (λ p s1. arguments h call p.formals tree.Trees.none (k + result_words p) s1) call k s

      by : IsLeading x (c.names x) → IsLed z.setting k (access_of (c.names x)) (c.places x)
          → Simulates z d as_value 2 k need (code c (tree.Tree.named x tree.Trees.none at) as_value k) (λ s. value h call (tree.Tree.named x tree.Trees.none at) k s)
      by name r =
          same_simulates z d as_value 2 k need (code c (tree.Tree.named x tree.Trees.none at) as_value k)
          (nothing ⨟ pieces (load kind.Double true false (mode_of k r.place) ∷ []) ⨟ nothing)
          (λ s. value h call (tree.Tree.named x tree.Trees.none at) k s) (λ s. then_go (led_located r.far kind.Double (Some r.place) 0 s) (λ p t. read p t))
          (led_code c z.setting x at k name r)
          (λ s. ap (λ (t : Sense). valued t s) name.sense ∙ ap (λ (o : Outcome Located). then_go o (λ p t. read p t)) (r.leads c results x s)
          ∙ ap (λ (o : Option Place). then_go (led_located r.far kind.Double o 0 s) (λ p t. read p t)) r.is)
          (last_simulates z d as_value 2 k need (nothing ⨟ pieces (load kind.Double true false (mode_of k r.place) ∷ []))
          (λ s. then_go (led_located r.far kind.Double (Some r.place) 0 s) (λ p t. read p t))
          (first_simulates z d as_value 2 k need (pieces (load kind.Double true false (mode_of k r.place) ∷ []))
          (λ s. then_go (led_located r.far kind.Double (Some r.place) 0 s) (λ p t. read p t))
          (cells_give z d k need r.far kind.Double r.place r.seen r.side enough)))

-- ---- elements

-- the code of an element, behind that of its index
element_code : (c : Scope) (st : Setting) (x : List ℕ) (i : Tree) (at : At) (k : ℕ) → IsLeading x (c.names x)
    → (r : IsElement st k (access_of (c.names x)) (c.places x))
    → code c (tree.Tree.named x (tree.Trees.and i tree.Trees.none) at) as_value k
    ≡ code c i as_value k ⨟ pieces (index_to_x false) ⨟ pieces (load kind.Double true true (mode_of k r.place) ∷ []) ⨟ nothing
element_code c st x i at k name r =
    ap (λ (s : Sense). made.named c x s (λ p. made.arguments c p.formals (tree.Trees.and i tree.Trees.none) (k + result_words p)) (code c i as_value k ⨟ pieces (index_to_x false) ⨟ pieces (at_place (c.places x) (λ place. loaded (access_of (c.names x)) true (mode_of k place)))) ⨟ nothing)
    name.sense
    ∙ ap (λ (a : Access). code c i as_value k ⨟ pieces (index_to_x false) ⨟ pieces (at_place (c.places x) (λ place. loaded a true (mode_of k place))) ⨟ nothing) r.access
    ∙ ap (λ (o : Option Place). code c i as_value k ⨟ pieces (index_to_x false) ⨟ pieces (at_place o (λ place. load kind.Double true true (mode_of k place) ∷ [])) ⨟ nothing) r.is

-- it is whole
pub element_whole : (c : Scope) (st : Setting) (x : List ℕ) (i : Tree) (at : At) (k : ℕ) → is_wide_element st k (access_of (c.names x)) (c.places x) ≡ true
    → IsWhole (code c i as_value k) → IsWhole (code c (tree.Tree.named x (tree.Trees.and i tree.Trees.none) at) as_value k)
element_whole c st x i at k e whole =
    let r = element_case st k (access_of (c.names x)) (c.places x) e in
    let name = leading_case st x k (c.names x) (c.places x) (led_of_element st k (access_of (c.names x)) (c.places x) e) in
    let a = code c i as_value k ⨟ pieces (index_to_x false) in
    let ps = load kind.Double true true (mode_of k r.place) ∷ [] in
    subst (λ (b : Part). IsWhole b) (sym (element_code c st x i at k name r))
    (whole_last (a ⨟ pieces ps) (whole_behind a ps (whole_behind (code c i as_value k) (index_to_x false) whole refl) refl))

-- and gives both words
pub element_simulates : (c : Scope) (results : List ℕ → Option (Kind × Place)) (z : Surroundings) (call : Callee) (d : ℕ) (x : List ℕ) (i : Tree) (at : At)
    (k need : ℕ) → is_wide_element z.setting k (access_of (c.names x)) (c.places x) ≡ true → 2 ≤ need → IsWhole (code c i as_value k)
    → Simulates z d as_value 1 k need (code c i as_value k) (λ s. value (read_with c results z.setting) call i k s)
    → Simulates z d as_value 2 k need (code c (tree.Tree.named x (tree.Trees.and i tree.Trees.none) at) as_value k)
    (λ s. value (read_with c results z.setting) call (tree.Tree.named x (tree.Trees.and i tree.Trees.none) at) k s)
element_simulates c results z call d x i at k need e enough whole sim =
    by (leading_case z.setting x k (c.names x) (c.places x) (led_of_element z.setting k (access_of (c.names x)) (c.places x) e))
    (element_case z.setting k (access_of (c.names x)) (c.places x) e) where
      h : Here
      h = read_with c results z.setting

      meant : Bool → Option Place → State → Outcome (List ℕ)
      meant is_pointer o s =
          then_go (then_go (value h call i k s) as_index)
          (λ j u. then_go (led_located (is_pointer && z.setting.split) kind.Double o (index_or_zero j) u) (λ p v. read p v))

      valued : Sense → State → Outcome (List ℕ)
      valued t s =
          named_value h x t (λ s1. then_go (value h call i k s1) as_index)
          (λ p s1. arguments h call p.formals (tree.Trees.and i tree.Trees.none) (k + result_words p) s1) call k s

      by : IsLeading x (c.names x) → IsElement z.setting k (access_of (c.names x)) (c.places x)
          → Simulates z d as_value 2 k need (code c (tree.Tree.named x (tree.Trees.and i tree.Trees.none) at) as_value k)
          (λ s. value h call (tree.Tree.named x (tree.Trees.and i tree.Trees.none) at) k s)
      by name r =
          let part = code c i as_value k ⨟ pieces (index_to_x false) ⨟ pieces (load kind.Double true true (mode_of k r.place) ∷ []) in
          same_simulates z d as_value 2 k need (code c (tree.Tree.named x (tree.Trees.and i tree.Trees.none) at) as_value k) (part ⨟ nothing)
          (λ s. value h call (tree.Tree.named x (tree.Trees.and i tree.Trees.none) at) k s) (λ s. meant r.is_pointer (Some r.place) s)
          (element_code c z.setting x i at k name r)
          (λ s. ap (λ (t : Sense). valued t s) name.sense
          ∙ ap (λ (a : Access). then_go (then_go (value h call i k s) as_index) (λ j u. then_go (locate_by h x a j u) (λ p v. read p v))) r.access
          ∙ ap (λ (o : Option Place). meant r.is_pointer o s) r.is)
          (last_simulates z d as_value 2 k need part (λ s. meant r.is_pointer (Some r.place) s)
          (elements_give z d k need (r.is_pointer && z.setting.split) kind.Double r.place (code c i as_value k) (λ s. value h call i k s) r.seen r.side enough whole sim))
