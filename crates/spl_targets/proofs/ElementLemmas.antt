-- Assignments to names whose words lead to words, by index or not, in a tree.
use Rattle.std.proofs.Common.{◌≡◌, ℕ, ◌+◌, ◌≤◌, Bool, true, false, List, ◌++◌, refl, sym, ap, subst, ◌∙◌}
use Rattle.std.specs.Prelude.{Option, Some, None, ◌&&◌}
use Rattle.std.proofs.lemmas.Bool.{false≢true}
use Rattle.spl_covered.specs.spl_branch.declared.pieces.Piece.{Piece}
use Rattle.spl_covered.specs.spl_branch.declared.pieces.Piece.TheVariants.{Begin}
use Rattle.spl_covered.specs.spl_tree.declared.expressions.Kind.{Kind}
use Rattle.spl_covered.specs.spl_tree.declared.expressions.Kind.TheVariants as kind
use Rattle.spl_covered.specs.spl_tree.declared.names_and_places.At.{At}
use Rattle.spl_covered.specs.spl_tree.Trees as tree
use Rattle.spl_covered.specs.spl_tree.Trees.{Tree, Trees}
use Rattle.spl_covered.specs.spl_tree.StatementTrees as stat
use Rattle.spl_covered.specs.spl_tree.StatementTrees.{Target}
use Rattle.spl_covered.specs.spl_meaning.Names as n
use Rattle.spl_covered.specs.spl_meaning.Names.{Sort}
use Rattle.spl_covered.specs.spl_meaning.Operations.{kept}
use Rattle.spl_covered.specs.spl_meaning.Places.{Place}
use Rattle.spl_covered.specs.spl_meaning.References.{Here, Setting, Located, Access, its_own, by_address, by_cell, its_result, nowhere, access_of, target_access, index_or_zero, led_located, locate_by, locate_target, store}
use Rattle.spl_covered.specs.spl_meaning.States.{State, Outcome, then_go, stopping}
use Rattle.spl_covered.specs.spl_meaning.Statements.{assigned}
use Rattle.spl_covered.specs.spl_meaning.Values.{Callee, as_index, value}
use Rattle.spl_covered.specs.spl_code.Parts.{Part, pieces, piece, nothing, ◌⨟◌}
use Rattle.spl_covered.specs.spl_code.Operands.{mode_of, at_place}
use Rattle.spl_covered.specs.spl_code.Calls.{Scope}
use Rattle.spl_covered.specs.spl_code.Code.{as_value, code}
use Rattle.spl_covered.specs.spl_code.Stores.{from_top, stored, cell_stored, element_stored}
use Rattle.spl_covered.specs.spl_statement_code.Assignments as put
use Rattle.spl_covered.specs.spl_statement_code.Assignments.{assigned_access}
use Rattle.spl_covered.specs.spl_statement_code.Landings.{Context}
use Rattle.spl_top_fields.specs.spl_follow.Standing.{IsClosed}
use Rattle.spl_top_fields.specs.spl_follow.Simulating.{Surroundings, Simulates, Performs}
use Rattle.spl_top_fields.proofs.spl_follow_proofs.StandLemmas.{closed_last}
use Rattle.spl_covered.specs.spl_values.Reached.{IsWhole}
use Rattle.spl_covered.proofs.spl_values_proofs.SumLemmas.{front_on}
use Rattle.spl_covered.proofs.spl_values_proofs.WholeLemmas.{then_same}
use Rattle.spl_top_stores.proofs.PutLemmas.{elements_put}
use Rattle.spl_covered.proofs.spl_tops_proofs.CellLemmas.{cells_put}
use Rattle.spl_covered.specs.spl_operators.Laws.{is_single}
use Rattle.spl_covered.specs.spl_names.Names.{is_led, is_led_element, read_with}
use Rattle.spl_covered.proofs.spl_names_proofs.LedLemmas.{single_width, IsElement, IsLed, element_case, led_case}
use Rattle.spl_targets.proofs.SameLemmas.{stopping_same, same_performs}

-- ---- names

-- what leads to elements leads to a word without an index
pub led_of_element : (st : Setting) (k : ℕ) (a : Access) (pl : Option Place) → is_led_element st k a pl ≡ true → is_led st k a pl ≡ true
led_of_element st k (by_cell is_pointer t) pl e = e
led_of_element st k (its_own t) pl e = absurd (false≢true e)
led_of_element st k (by_address t) pl e = absurd (false≢true e)
led_of_element st k its_result pl e = absurd (false≢true e)
led_of_element st k nowhere pl e = absurd (false≢true e)

-- on the left of := such a name leads where it does elsewhere
pub left_access : (st : Setting) (k : ℕ) (o : Option Sort) (pl : Option Place) → is_led st k (access_of o) pl ≡ true
    → (target_access o ≡ access_of o) × (assigned_access o ≡ access_of o)
left_access st k (Some (n.procedure p)) pl e = absurd (false≢true e)
left_access st k (Some (n.subroutine p)) pl e = absurd (false≢true e)
left_access st k None pl e = (refl, refl)
left_access st k (Some (n.simple t own)) pl e = (refl, refl)
left_access st k (Some (n.value t)) pl e = (refl, refl)
left_access st k (Some (n.equate v)) pl e = (refl, refl)
left_access st k (Some (n.array t own low high)) pl e = (refl, refl)
left_access st k (Some (n.view t own base)) pl e = (refl, refl)
left_access st k (Some (n.pointer t own)) pl e = (refl, refl)
left_access st k (Some (n.by_reference t)) pl e = (refl, refl)
left_access st k (Some (n.array_parameter t)) pl e = (refl, refl)
left_access st k (Some n.label) pl e = (refl, refl)
left_access st k (Some (n.intrinsic i)) pl e = (refl, refl)
left_access st k (Some n.unknown) pl e = (refl, refl)

-- ---- without an index

-- a store through a word closes
cell_closed : (t : Kind) (moved : Bool) (k : ℕ) (place : Place) → is_single t ≡ true → IsClosed (cell_stored t moved (mode_of k place))
cell_closed kind.Integer true k place e = refl
cell_closed kind.Integer false k place e = refl
cell_closed kind.Logical true k place e = refl
cell_closed kind.Logical false k place e = refl
cell_closed kind.Byte true k place e = refl
cell_closed kind.Byte false k place e = refl
cell_closed kind.Double moved k place e = absurd (false≢true e)

-- the code of such an assignment
pub led_code : (c : Context) (st : Setting) (x : List ℕ) (there : At) (right : ℕ → Part) (at : At) (k : ℕ) (r : IsLed st x k (c.scope.names x) (c.scope.places x))
    → assigned_access (c.scope.names x) ≡ access_of (c.scope.names x)
    → piece (Begin at) ⨟ put.assigned c.scope (stat.Target.plain (tree.Tree.named x tree.Trees.none there)) right k
    ≡ piece (Begin at) ⨟ (nothing ⨟ right k ⨟ pieces (cell_stored r.type (from_top r.place) (mode_of k r.place)))
led_code c st x there right at k r left =
    ap (λ (ps : List Piece). piece (Begin at) ⨟ (nothing ⨟ right k ⨟ pieces ps))
    (ap (λ (a : Access). at_place (c.scope.places x) (λ place. stored a false k place)) left
    ∙ ap (λ (o : Option Place). at_place o (λ place. stored (access_of (c.scope.names x)) false k place)) r.is ∙ r.stores)

-- it is whole
pub led_whole : (c : Context) (st : Setting) (x : List ℕ) (there : At) (right : ℕ → Part) (at : At) (k : ℕ)
    → is_led st k (access_of (c.scope.names x)) (c.scope.places x) ≡ true → IsWhole (right k)
    → IsWhole (piece (Begin at) ⨟ put.assigned c.scope (stat.Target.plain (tree.Tree.named x tree.Trees.none there)) right k)
led_whole c st x there right at k led whole =
    let r = led_case st x k (c.scope.names x) (c.scope.places x) led in
    subst (λ (a : Part). IsWhole a) (sym (led_code c st x there right at k r (left_access st k (c.scope.names x) (c.scope.places x) led).1)) (record {
      closed = λ l ws. closed_last (right k (l + 0 + 0) ws).pieces (cell_stored r.type (from_top r.place) (mode_of k r.place)) (cell_closed r.type (from_top r.place) k r.place r.word);
      keeps = λ l ws. whole.keeps (l + 0 + 0) ws;
    })

-- its meaning
pub led_is : (c : Scope) (results : List ℕ → Option (Kind × Place)) (st : Setting) (call : Callee) (x : List ℕ) (there : At) (means : ℕ → State → Outcome (List ℕ)) (k : ℕ)
    (r : IsLed st x k (c.names x) (c.places x)) → target_access (c.names x) ≡ access_of (c.names x) → (u : State)
    → assigned (read_with c results st) call (stat.Target.plain (tree.Tree.named x tree.Trees.none there)) means k u
    ≡ then_go (means k u)
    (λ vs v. then_go (led_located r.far r.type (Some r.place) 0 v) (λ p t. store p (kept p.kind vs) t))
led_is c results st call x there means k r left u =
    then_same (means k u) (λ vs v. then_go (locate_target h x None v) (λ p t. store p (kept p.kind vs) t))
    (λ vs v. then_go (led_located r.far r.type (Some r.place) 0 v) (λ p t. store p (kept p.kind vs) t))
    (λ vs v. ap (λ (a : Access). then_go (locate_by h x a None v) (λ p t. store p (kept p.kind vs) t)) left
    ∙ ap (λ (o : Outcome Located). then_go o (λ p t. store p (kept p.kind vs) t)) (r.leads c results v)
    ∙ ap (λ (o : Option Place). then_go (led_located r.far r.type o 0 v) (λ p t. store p (kept p.kind vs) t)) r.is) where
      h : Here
      h = read_with c results st

      to : Target
      to = stat.Target.plain (tree.Tree.named x tree.Trees.none there)

-- and it is performed
pub led_performs : (c : Context) (results : List ℕ → Option (Kind × Place)) (z : Surroundings) (call : Callee) (d number : ℕ) (x : List ℕ) (there : At)
    (right : ℕ → Part) (means : ℕ → State → Outcome (List ℕ)) (at : At) (k need : ℕ) → is_led z.setting k (access_of (c.scope.names x)) (c.scope.places x) ≡ true → 2 ≤ need
    → IsWhole (right k)
    → Simulates z d as_value 1 k need (right k) (λ s. means k s)
    → Performs z d k need (piece (Begin at) ⨟ put.assigned c.scope (stat.Target.plain (tree.Tree.named x tree.Trees.none there)) right k)
    (λ s. stopping number at s (λ u. assigned (read_with c.scope results z.setting) call (stat.Target.plain (tree.Tree.named x tree.Trees.none there)) means k u))
led_performs c results z call d number x there right means at k need led enough whole sim =
    let r = led_case z.setting x k (c.scope.names x) (c.scope.places x) led in
    let h = read_with c.scope results z.setting in
    let left = left_access z.setting k (c.scope.names x) (c.scope.places x) led in
    same_performs z d k need (piece (Begin at) ⨟ put.assigned c.scope (stat.Target.plain (tree.Tree.named x tree.Trees.none there)) right k)
    (piece (Begin at) ⨟ (nothing ⨟ right k ⨟ pieces (cell_stored r.type (from_top r.place) (mode_of k r.place))))
    (λ s. stopping number at s (λ u. assigned h call (stat.Target.plain (tree.Tree.named x tree.Trees.none there)) means k u))
    (λ s. stopping number at s (λ u. then_go (means k u)
    (λ vs v. then_go (led_located r.far r.type (Some r.place) 0 v) (λ p t. store p (kept p.kind vs) t))))
    (led_code c z.setting x there right at k r left.1)
    (λ s. stopping_same number at s (λ u. assigned h call (stat.Target.plain (tree.Tree.named x tree.Trees.none there)) means k u)
    (λ u. then_go (means k u) (λ vs v. then_go (led_located r.far r.type (Some r.place) 0 v) (λ p t. store p (kept p.kind vs) t)))
    (led_is c.scope results z.setting call x there means k r left.0))
    (cells_put z d k need number at r.far r.type r.place (right k) (λ u. means k u) (single_width r.type r.word) r.seen r.side enough whole sim)

-- ---- elements

-- a store in an element closes
element_closed : (t : Kind) (moved : Bool) (k : ℕ) (place : Place) → is_single t ≡ true → IsClosed (element_stored t moved (mode_of k place))
element_closed kind.Integer true k place e = refl
element_closed kind.Integer false k place e = refl
element_closed kind.Logical true k place e = refl
element_closed kind.Logical false k place e = refl
element_closed kind.Byte true k place e = refl
element_closed kind.Byte false k place e = refl
element_closed kind.Double moved k place e = absurd (false≢true e)

-- the code of such an assignment: the value is made while the index waits
element_code : (c : Context) (st : Setting) (x : List ℕ) (i : Tree) (there : At) (right : ℕ → Part) (at : At) (k : ℕ)
    (r : IsElement st x k (c.scope.names x) (c.scope.places x)) → assigned_access (c.scope.names x) ≡ access_of (c.scope.names x)
    → piece (Begin at) ⨟ put.assigned c.scope (stat.Target.plain (tree.Tree.named x (tree.Trees.and i tree.Trees.none) there)) right k
    ≡ piece (Begin at) ⨟ (code c.scope i as_value k ⨟ right (k + 1) ⨟ pieces (element_stored r.type (from_top r.place) (mode_of k r.place)))
element_code c st x i there right at k r left =
    ap (λ (ps : List Piece). piece (Begin at) ⨟ (code c.scope i as_value k ⨟ right (k + 1) ⨟ pieces ps))
    (ap (λ (a : Access). at_place (c.scope.places x) (λ place. stored a true k place)) (left ∙ r.access)
    ∙ ap (λ (o : Option Place). at_place o (λ place. stored (by_cell r.is_pointer r.type) true k place)) r.is)

-- it is whole
pub element_whole : (c : Context) (st : Setting) (x : List ℕ) (i : Tree) (there : At) (right : ℕ → Part) (at : At) (k : ℕ)
    → is_led_element st k (access_of (c.scope.names x)) (c.scope.places x) ≡ true → IsWhole (code c.scope i as_value k)
    → IsWhole (right (k + 1))
    → IsWhole (piece (Begin at) ⨟ put.assigned c.scope (stat.Target.plain (tree.Tree.named x (tree.Trees.and i tree.Trees.none) there)) right k)
element_whole c st x i there right at k led wi we =
    let r = element_case st x k (c.scope.names x) (c.scope.places x) led in
    let left = left_access st k (c.scope.names x) (c.scope.places x) (led_of_element st k (access_of (c.scope.names x)) (c.scope.places x) led) in
    subst (λ (a : Part). IsWhole a) (sym (element_code c st x i there right at k r left.1)) (record {
      closed = λ l ws. let a = code c.scope i as_value k (l + 0) ws in
          closed_last (a.pieces ++ (right (k + 1) (l + 0 + a.marks) a.wants).pieces) (element_stored r.type (from_top r.place) (mode_of k r.place))
          (element_closed r.type (from_top r.place) k r.place r.word);
      keeps = λ l ws. let a = code c.scope i as_value k (l + 0) ws in
          front_on ws a.wants (right (k + 1) (l + 0 + a.marks) a.wants).wants (wi.keeps (l + 0) ws) (we.keeps (l + 0 + a.marks) a.wants);
    })

-- its meaning
element_is : (c : Scope) (results : List ℕ → Option (Kind × Place)) (st : Setting) (call : Callee) (x : List ℕ) (i : Tree) (there : At) (means : ℕ → State → Outcome (List ℕ)) (k : ℕ)
    (r : IsElement st x k (c.names x) (c.places x)) → target_access (c.names x) ≡ access_of (c.names x)
    → (u : State)
    → assigned (read_with c results st) call (stat.Target.plain (tree.Tree.named x (tree.Trees.and i tree.Trees.none) there)) means k u
    ≡ then_go (then_go (value (read_with c results st) call i k u) as_index) (λ j v. then_go (means (k + 1) v)
    (λ vs w. then_go (led_located (r.is_pointer && st.split) r.type (Some r.place) (index_or_zero j) w) (λ p t. store p (kept p.kind vs) t)))
element_is c results st call x i there means k r left u =
    ap (λ (a : Access). then_go (then_go (value h call i k u) as_index) (λ j v. then_go (means (k + 1) v)
    (λ vs w. then_go (locate_by h x a j w) (λ p t. store p (kept p.kind vs) t)))) (left ∙ r.access)
    ∙ ap (λ (o : Option Place). then_go (then_go (value h call i k u) as_index) (λ j v. then_go (means (k + 1) v)
    (λ vs w. then_go (led_located (r.is_pointer && st.split) r.type o (index_or_zero j) w) (λ p t. store p (kept p.kind vs) t)))) r.is where
      h : Here
      h = read_with c results st

      to : Target
      to = stat.Target.plain (tree.Tree.named x (tree.Trees.and i tree.Trees.none) there)

-- and it is performed
pub element_performs : (c : Context) (results : List ℕ → Option (Kind × Place)) (z : Surroundings) (call : Callee) (d number : ℕ) (x : List ℕ) (i : Tree)
    (there : At) (right : ℕ → Part) (means : ℕ → State → Outcome (List ℕ)) (at : At) (k need more : ℕ) → is_led_element z.setting k (access_of (c.scope.names x)) (c.scope.places x) ≡ true → 3 ≤ need
    → more + 1 ≤ need → IsWhole (code c.scope i as_value k) → IsWhole (right (k + 1))
    → Simulates z d as_value 1 k need (code c.scope i as_value k) (λ s. value (read_with c.scope results z.setting) call i k s)
    → Simulates z d as_value 1 (k + 1) more (right (k + 1)) (λ s. means (k + 1) s)
    → Performs z d k need (piece (Begin at) ⨟ put.assigned c.scope (stat.Target.plain (tree.Tree.named x (tree.Trees.and i tree.Trees.none) there)) right k)
    (λ s. stopping number at s (λ u. assigned (read_with c.scope results z.setting) call (stat.Target.plain (tree.Tree.named x (tree.Trees.and i tree.Trees.none) there)) means k u))
element_performs c results z call d number x i there right means at k need more led enough fits wi we si se =
    let r = element_case z.setting x k (c.scope.names x) (c.scope.places x) led in
    let h = read_with c.scope results z.setting in
    let left = left_access z.setting k (c.scope.names x) (c.scope.places x) (led_of_element z.setting k (access_of (c.scope.names x)) (c.scope.places x) led) in
    same_performs z d k need (piece (Begin at) ⨟ put.assigned c.scope (stat.Target.plain (tree.Tree.named x (tree.Trees.and i tree.Trees.none) there)) right k)
    (piece (Begin at) ⨟ (code c.scope i as_value k ⨟ right (k + 1) ⨟ pieces (element_stored r.type (from_top r.place) (mode_of k r.place))))
    (λ s. stopping number at s (λ u. assigned h call (stat.Target.plain (tree.Tree.named x (tree.Trees.and i tree.Trees.none) there)) means k u))
    (λ s. stopping number at s (λ u. meant r.is_pointer r.type r.place u))
    (element_code c z.setting x i there right at k r left.1)
    (λ s. stopping_same number at s (λ u. assigned h call (stat.Target.plain (tree.Tree.named x (tree.Trees.and i tree.Trees.none) there)) means k u)
    (λ u. meant r.is_pointer r.type r.place u) (element_is c.scope results z.setting call x i there means k r left.0))
    (elements_put z d k need more number at (r.is_pointer && z.setting.split) r.type r.place (code c.scope i as_value k) (right (k + 1))
    (λ u. value h call i k u) (λ u. means (k + 1) u) (single_width r.type r.word) r.seen r.side enough fits wi we si se) where
      meant : Bool → Kind → Place → State → Outcome (Unit {0})
      meant is_pointer t place u =
          let h = read_with c.scope results z.setting in
          then_go (then_go (value h call i k u) as_index) (λ j v. then_go (means (k + 1) v)
          (λ vs w. then_go (led_located (is_pointer && z.setting.split) t (Some place) (index_or_zero j) w) (λ p x. store p (kept p.kind vs) x)))
