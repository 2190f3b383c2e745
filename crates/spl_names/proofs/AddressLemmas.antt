-- Addresses of names, with an index or without, whatever is wanted of them.
use Rattle.std.proofs.Common.{◌≡◌, ℕ, ◌≤◌, Bool, true, false, List, refl, sym, ap, subst, ◌∙◌}
use Rattle.std.specs.Prelude.{Option, Some, None, ◌&&◌}
use Rattle.std.proofs.lemmas.Bool.{false≢true}
use Rattle.spl_statement_code.specs.spl_tree.declared.expressions.Kind.{Kind}
use Rattle.spl_statement_code.specs.spl_tree.declared.expressions.Kind.TheVariants as kind
use Rattle.spl_statement_code.specs.spl_tree.declared.names_and_places.At.{At}
use Rattle.spl_statement_code.specs.spl_tree.Trees as tree
use Rattle.spl_statement_code.specs.spl_tree.Trees.{Tree}
use Rattle.spl_statement_code.specs.spl_meaning.Places.{Place}
use Rattle.spl_statement_code.specs.spl_meaning.References.{Here, Setting, Access, its_own, by_address, by_cell, its_result, nowhere, access_of, index_or_zero, own_located, led_located, locate_by}
use Rattle.spl_statement_code.specs.spl_meaning.States.{State, Outcome, strays, then_go}
use Rattle.spl_statement_code.specs.spl_meaning.Values.{Callee, as_index, address_done, value}
use Rattle.spl_statement_code.specs.spl_code.Parts.{Part, pieces, nothing, ◌⨟◌}
use Rattle.spl_statement_code.specs.spl_code.Operands.{mode_of, address, leads_to_doubles, index_to_x, at_place}
use Rattle.spl_statement_code.specs.spl_code.Calls.{Scope}
use Rattle.spl_statement_code.specs.spl_code.Code.{Aim, as_value, closing, code}
use Rattle.spl_addresses.specs.spl_follow.Standing.{IsClosed}
use Rattle.spl_addresses.specs.spl_follow.Simulating.{Surroundings, Simulates}
use Rattle.spl_addresses.specs.spl_values.Reached.{is_seen, IsWhole}
use Rattle.spl_addresses.proofs.spl_values_proofs.WholeLemmas.{whole_pieces, whole_first, whole_behind, same_simulates, first_simulates}
use Rattle.spl_tops.proofs.spl_conditions_proofs.ConditionLemmas.{closed_values}
use Rattle.spl_addresses.proofs.AddressLemmas as of_names
use Rattle.spl_addresses.proofs.ElementLemmas as of_elements
use Rattle.spl_word_operators.proofs.OperatorLemmas.{closing_whole}
use Rattle.spl_names.specs.Names.{read_with, is_addressed, is_addressed_element}

-- ---- without an index

-- what has an address has a place
record HasPlace (st : Setting) (k : ℕ) (a : Access) (pl : Option Place) : Type 0 where
  place : Place
  is : pl ≡ Some place
  addressed : is_addressed st k a (Some place) ≡ true

place_of : (st : Setting) (k : ℕ) (a : Access) (pl : Option Place) → is_addressed st k a pl ≡ true → HasPlace st k a pl
place_of st k a (Some place) e = record { place = place; is = refl; addressed = e }
place_of st k (its_own t) None e = absurd (false≢true e)
place_of st k (by_address t) None e = absurd (false≢true e)
place_of st k (by_cell is_pointer t) None e = absurd (false≢true e)
place_of st k its_result None e = absurd (false≢true e)
place_of st k nowhere None e = absurd (false≢true e)

-- where a name leads, by its place
abbrev led_to : Setting → Access → Option Place → State → Outcome (List ℕ)
led_to st (its_own t) o s = then_go (own_located t o None s) (λ p u. address_done p u)
led_to st (by_address t) o s = then_go (led_located false t o 0 s) (λ p u. address_done p u)
led_to st (by_cell is_pointer t) o s = then_go (led_located (is_pointer && st.split) t o 0 s) (λ p u. address_done p u)
led_to st its_result o s = strays s
led_to st nowhere o s = strays s

located_is : (c : Scope) (results : List ℕ → Option (Kind × Place)) (st : Setting) (x : List ℕ) (k : ℕ) (a : Access) (pl : Option Place) (s : State)
    → is_addressed st k a pl ≡ true
    → then_go (locate_by (read_with c results st) x a None s) (λ p u. address_done p u) ≡ led_to st a (c.places x) s
located_is c results st x k (its_own t) pl s e = refl
located_is c results st x k (by_address t) pl s e = refl
located_is c results st x k (by_cell is_pointer t) pl s e = refl
located_is c results st x k its_result pl s e = absurd (false≢true e)
located_is c results st x k nowhere pl s e = absurd (false≢true e)

-- the pieces of an address close
address_closed : (st : Setting) (k : ℕ) (a : Access) (place : Place) → is_addressed st k a (Some place) ≡ true → IsClosed (address a false (mode_of k place))
address_closed st k (its_own kind.Integer) place e = refl
address_closed st k (its_own kind.Logical) place e = refl
address_closed st k (its_own kind.Byte) place e = refl
address_closed st k (its_own kind.Double) place e = refl
address_closed st k (by_address t) place e = refl
address_closed st k (by_cell is_pointer t) place e = refl
address_closed st k its_result place e = absurd (false≢true e)
address_closed st k nowhere place e = absurd (false≢true e)

-- and give it
address_gives : (z : Surroundings) (d k need : ℕ) (a : Access) (place : Place) → is_addressed z.setting k a (Some place) ≡ true → 1 ≤ need
    → Simulates z d as_value 1 k need (pieces (address a false (mode_of k place))) (λ s. led_to z.setting a (Some place) s)
address_gives z d k need (its_own t) place e enough = of_names.variables_give z d k need t place e enough
address_gives z d k need (by_address t) place e enough = of_names.cells_give z d k need false t place e enough
address_gives z d k need (by_cell is_pointer t) place e enough = of_names.cells_give z d k need (is_pointer && z.setting.split) t place e enough
address_gives z d k need its_result place e enough = absurd (false≢true e)
address_gives z d k need nowhere place e enough = absurd (false≢true e)

-- the code of the address of a name
address_code : (c : Scope) (st : Setting) (x : List ℕ) (at : At) (aim : Aim) (k : ℕ) (r : HasPlace st k (access_of (c.names x)) (c.places x))
    → code c (tree.Tree.address x tree.Trees.none at) aim k
    ≡ nothing ⨟ pieces (address (access_of (c.names x)) false (mode_of k r.place)) ⨟ closing aim
address_code c st x at aim k r =
    ap (λ (o : Option Place). nothing ⨟ pieces (at_place o (λ place. address (access_of (c.names x)) false (mode_of k place))) ⨟ closing aim) r.is

-- it is whole, with nothing before it
address_made : (st : Setting) (k : ℕ) (a : Access) (place : Place) → is_addressed st k a (Some place) ≡ true
    → IsWhole (nothing ⨟ pieces (address a false (mode_of k place)))
address_made st k a place e =
    whole_first (pieces (address a false (mode_of k place))) (whole_pieces (address a false (mode_of k place)) (address_closed st k a place e))

pub address_whole : (c : Scope) (st : Setting) (x : List ℕ) (at : At) (aim : Aim) (k : ℕ) → is_addressed st k (access_of (c.names x)) (c.places x) ≡ true
    → IsWhole (code c (tree.Tree.address x tree.Trees.none at) aim k)
address_whole c st x at aim k e =
    let r = place_of st k (access_of (c.names x)) (c.places x) e in
    subst (λ (a : Part). IsWhole a) (sym (address_code c st x at aim k r))
    (closing_whole (nothing ⨟ pieces (address (access_of (c.names x)) false (mode_of k r.place))) aim (address_made st k (access_of (c.names x)) r.place r.addressed))

-- and simulates it
pub address_simulates : (c : Scope) (results : List ℕ → Option (Kind × Place)) (z : Surroundings) (call : Callee) (d : ℕ) (x : List ℕ) (at : At) (aim : Aim)
    (k need : ℕ) → is_addressed z.setting k (access_of (c.names x)) (c.places x) ≡ true → 1 ≤ need
    → Simulates z d aim 1 k need (code c (tree.Tree.address x tree.Trees.none at) aim k)
    (λ s. value (read_with c results z.setting) call (tree.Tree.address x tree.Trees.none at) k s)
address_simulates c results z call d x at aim k need e enough =
    let a = access_of (c.names x) in
    let r = place_of z.setting k a (c.places x) e in
    same_simulates z d aim 1 k need (code c (tree.Tree.address x tree.Trees.none at) aim k) (nothing ⨟ pieces (address a false (mode_of k r.place)) ⨟ closing aim)
    (λ s. value (read_with c results z.setting) call (tree.Tree.address x tree.Trees.none at) k s) (λ s. led_to z.setting a (Some r.place) s)
    (address_code c z.setting x at aim k r)
    (λ s. located_is c results z.setting x k a (c.places x) s e ∙ ap (λ (o : Option Place). led_to z.setting a o s) r.is)
    (closed_values z d k need aim (nothing ⨟ pieces (address a false (mode_of k r.place))) (λ s. led_to z.setting a (Some r.place) s)
    (address_made z.setting k a r.place r.addressed)
    (first_simulates z d as_value 1 k need (pieces (address a false (mode_of k r.place))) (λ s. led_to z.setting a (Some r.place) s)
    (address_gives z d k need a r.place r.addressed enough)))

-- ---- with an index

-- what has elements with addresses
pub record IsAddressed (st : Setting) (k : ℕ) (a : Access) (pl : Option Place) : Type 0 where
  pub is_pointer : Bool
  pub type : Kind
  pub place : Place
  pub access : a ≡ by_cell is_pointer type
  pub is : pl ≡ Some place
  pub seen : is_seen st k place ≡ true

pub addressed_case : (st : Setting) (k : ℕ) (a : Access) (pl : Option Place) → is_addressed_element st k a pl ≡ true → IsAddressed st k a pl
addressed_case st k (by_cell is_pointer t) (Some place) e =
    record { is_pointer = is_pointer; type = t; place = place; access = refl; is = refl; seen = e }
addressed_case st k (by_cell is_pointer t) None e = absurd (false≢true e)
addressed_case st k (its_own t) pl e = absurd (false≢true e)
addressed_case st k (by_address t) pl e = absurd (false≢true e)
addressed_case st k its_result pl e = absurd (false≢true e)
addressed_case st k nowhere pl e = absurd (false≢true e)

-- the code of the address of an element, behind that of its index
abbrev element_part : Scope → Tree → ℕ → Access → Option Place → Part
element_part c i k a o =
    code c i as_value k ⨟ pieces (index_to_x (leads_to_doubles a)) ⨟ pieces (at_place o (λ place. address a true (mode_of k place)))

element_code : (c : Scope) (st : Setting) (x : List ℕ) (i : Tree) (at : At) (aim : Aim) (k : ℕ) (r : IsAddressed st k (access_of (c.names x)) (c.places x))
    → code c (tree.Tree.address x (tree.Trees.and i tree.Trees.none) at) aim k
    ≡ element_part c i k (by_cell r.is_pointer r.type) (Some r.place) ⨟ closing aim
element_code c st x i at aim k r =
    ap (λ (a : Access). element_part c i k a (c.places x) ⨟ closing aim) r.access
    ∙ ap (λ (o : Option Place). element_part c i k (by_cell r.is_pointer r.type) o ⨟ closing aim) r.is

-- an index closes
index_closed : (doubled : Bool) → IsClosed (index_to_x doubled)
index_closed true = refl
index_closed false = refl

element_made : (c : Scope) (i : Tree) (k : ℕ) (is_pointer : Bool) (t : Kind) (place : Place) → IsWhole (code c i as_value k)
    → IsWhole (element_part c i k (by_cell is_pointer t) (Some place))
element_made c i k is_pointer t place whole =
    let doubled = leads_to_doubles (by_cell is_pointer t) in
    whole_behind (code c i as_value k ⨟ pieces (index_to_x doubled)) (address (by_cell is_pointer t) true (mode_of k place))
    (whole_behind (code c i as_value k) (index_to_x doubled) whole (index_closed doubled)) refl

-- it is whole
pub element_whole : (c : Scope) (st : Setting) (x : List ℕ) (i : Tree) (at : At) (aim : Aim) (k : ℕ) → IsAddressed st k (access_of (c.names x)) (c.places x)
    → IsWhole (code c i as_value k) → IsWhole (code c (tree.Tree.address x (tree.Trees.and i tree.Trees.none) at) aim k)
element_whole c st x i at aim k r whole =
    subst (λ (a : Part). IsWhole a) (sym (element_code c st x i at aim k r))
    (closing_whole (element_part c i k (by_cell r.is_pointer r.type) (Some r.place)) aim (element_made c i k r.is_pointer r.type r.place whole))

-- and simulates it
pub element_simulates : (c : Scope) (results : List ℕ → Option (Kind × Place)) (z : Surroundings) (call : Callee) (d : ℕ) (x : List ℕ) (i : Tree) (at : At)
    (aim : Aim) (k need : ℕ) → IsAddressed z.setting k (access_of (c.names x)) (c.places x) → 1 ≤ need → IsWhole (code c i as_value k)
    → Simulates z d as_value 1 k need (code c i as_value k) (λ s. value (read_with c results z.setting) call i k s)
    → Simulates z d aim 1 k need (code c (tree.Tree.address x (tree.Trees.and i tree.Trees.none) at) aim k)
    (λ s. value (read_with c results z.setting) call (tree.Tree.address x (tree.Trees.and i tree.Trees.none) at) k s)
element_simulates c results z call d x i at aim k need r enough whole sim =
    same_simulates z d aim 1 k need (code c (tree.Tree.address x (tree.Trees.and i tree.Trees.none) at) aim k) (part ⨟ closing aim)
    (λ s. value h call (tree.Tree.address x (tree.Trees.and i tree.Trees.none) at) k s) (λ s. meant (Some r.place) s) (element_code c z.setting x i at aim k r)
    (λ s. ap (λ (a : Access). then_go (then_go (value h call i k s) as_index) (λ j u. then_go (locate_by h x a j u) (λ p v. address_done p v))) r.access
    ∙ ap (λ (o : Option Place). meant o s) r.is)
    (closed_values z d k need aim part (λ s. meant (Some r.place) s) (element_made c i k r.is_pointer r.type r.place whole)
    (of_elements.elements_give z d k need r.is_pointer (r.is_pointer && z.setting.split) r.type r.place (code c i as_value k) (λ s. value h call i k s) r.seen enough
    whole sim)) where
      h : Here
      h = read_with c results z.setting

      part : Part
      part = element_part c i k (by_cell r.is_pointer r.type) (Some r.place)

      meant : Option Place → State → Outcome (List ℕ)
      meant o s =
          then_go (then_go (value h call i k s) as_index)
          (λ j u. then_go (led_located (r.is_pointer && z.setting.split) r.type o (index_or_zero j) u) (λ p v. address_done p v))
