-- Assignments to bit fields, and to pointers themselves, in a tree.
use Rattle.std.proofs.Common.{◌≡◌, ℕ, ◌+◌, ◌≤◌, Bool, true, false, List, ◌++◌, refl, sym, ap, subst, ◌∙◌, arith}
use Rattle.std.specs.Prelude.{Option, Some, None, [], ◌&&◌, ◌||◌, if◌then◌else◌}
use Rattle.std.proofs.lemmas.Bool.{false≢true}
use Rattle.std.proofs.Math.Logic.{⊎_elim}
use Rattle.spl_covered.specs.hp_instr.declared.instruction.Mode.{Mode}
use Rattle.spl_covered.specs.spl_branch.declared.pieces.Piece.{Piece}
use Rattle.spl_covered.specs.spl_branch.declared.pieces.Piece.TheVariants.{Begin}
use Rattle.spl_covered.specs.spl_tree.declared.expressions.Kind.{Kind}
use Rattle.spl_covered.specs.spl_tree.declared.names_and_places.At.{At}
use Rattle.spl_covered.specs.spl_tree.Trees as tree
use Rattle.spl_covered.specs.spl_tree.Trees.{Tree, Constant}
use Rattle.spl_covered.specs.spl_tree.StatementTrees as stat
use Rattle.spl_covered.specs.spl_tree.StatementTrees.{Target}
use Rattle.spl_covered.specs.spl_meaning.Elements.{with_one}
use Rattle.spl_covered.specs.spl_meaning.Kinds.{Operand, of, named_operand}
use Rattle.spl_covered.specs.spl_meaning.Names as n
use Rattle.spl_covered.specs.spl_meaning.Names.{Sort}
use Rattle.spl_covered.specs.spl_meaning.Places.{Place}
use Rattle.spl_covered.specs.spl_meaning.References.{Here, Setting, Located, Access, by_cell, access_of, target_access, index_or_zero, own_located, led_located, locate_by, locate_target, store_field}
use Rattle.spl_covered.specs.spl_meaning.States.{State, Outcome, then_go, stopping}
use Rattle.spl_covered.specs.spl_meaning.Statements.{assigned, cell_stored}
use Rattle.spl_covered.specs.spl_meaning.Values.{Callee, as_index, small_constant, value}
use Rattle.spl_covered.specs.spl_code.Parts.{Part, pieces, piece, nothing, ◌⨟◌}
use Rattle.spl_covered.specs.spl_code.Operands.{mode_of, at_place}
use Rattle.spl_covered.specs.spl_code.Calls.{Scope}
use Rattle.spl_covered.specs.spl_code.Code.{as_value, code}
use Rattle.spl_covered.specs.spl_code.Stores.{from_top, field_stored, own_field, cell_field, element_field, pointer_stored}
use Rattle.spl_covered.specs.spl_statement_code.Assignments as put
use Rattle.spl_covered.specs.spl_statement_code.Assignments.{assigned_access}
use Rattle.spl_covered.specs.spl_statement_code.Landings.{Context}
use Rattle.spl_covered.specs.spl_tops.Seen.{is_seen}
use Rattle.spl_top_fields.specs.spl_follow.Standing.{IsClosed}
use Rattle.spl_top_fields.specs.spl_follow.Simulating.{Surroundings, Simulates, Performs}
use Rattle.spl_top_fields.proofs.spl_follow_proofs.StandLemmas.{closed_last}
use Rattle.spl_covered.specs.spl_values.Reached.{is_word_kind, is_reached, IsWhole}
use Rattle.spl_covered.proofs.spl_values_proofs.SumLemmas.{front_on}
use Rattle.spl_covered.proofs.spl_values_proofs.VariableLemmas.{both}
use Rattle.spl_covered.proofs.spl_values_proofs.WholeLemmas.{then_same}
use Rattle.spl_top_fields.specs.spl_field_stores.Laws.{is_within}
use Rattle.spl_top_fields.proofs.VariableLemmas.{variables_put}
use Rattle.spl_top_fields.proofs.CellLemmas.{cells_put}
use Rattle.spl_top_fields.proofs.ElementLemmas.{elements_put}
use Rattle.spl_covered.proofs.spl_addresses_proofs.AddressLemmas.{pointers_assigned}
use Rattle.spl_covered.specs.spl_names.Names.{has_reached, is_led, is_led_element, read_with}
use Rattle.spl_covered.proofs.spl_word_operators_proofs.OperatorLemmas.{either}
use Rattle.spl_targets.specs.Targets.{holds_words, is_own, has_fields, has_field_elements}
use Rattle.spl_targets.proofs.LeadLemmas.{SeenElement, seen_element, seen_led}
use Rattle.spl_targets.proofs.SameLemmas.{stopping_same, same_performs}

-- ---- what has fields

-- what has whole words is of a kind of them
word_kind : (o : Operand) (t : Kind) → o ≡ of t → holds_words o ≡ true → is_word_kind t ≡ true
word_kind o t is e = ap holds_words (sym is) ∙ e

-- a name with fields: where its word is, how its code puts a value into one, and that this is its meaning
record HasFields (st : Setting) (x : List ℕ) (k : ℕ) (o : Option Sort) (pl : Option Place) : Type 0 where
  place : Place
  is : pl ≡ Some place
  target : target_access o ≡ access_of o
  made : assigned_access o ≡ access_of o
  closed : (start size : ℕ) → IsClosed (field_stored (access_of o) start size false k place)
  located : State → Outcome Located
  leads : (c : Scope) (results : List ℕ → Option (Kind × Place)) (s : State) → c.places x ≡ Some place
      → locate_by (read_with c results st) x (access_of o) None s ≡ located s
  performs : (z : Surroundings) (d need number start size : ℕ) (at : At) (a : Part) (value : State → Outcome (List ℕ)) → z.setting ≡ st
      → is_within start size ≡ true → 3 ≤ need → IsWhole a → Simulates z d as_value 1 k need a value
      → Performs z d k need (piece (Begin at) ⨟ (nothing ⨟ a ⨟ pieces (field_stored (access_of o) start size false k place)))
      (λ s. stopping number at s (λ u. then_go (value u) (λ vs v. then_go (located v) (λ p t. store_field p start size vs t))))

-- a store in a field of a variable closes
pub own_closed : (b : Bool) (start size : ℕ) (mode : Mode) → IsClosed (own_field start size b mode)
own_closed true start size mode = refl
own_closed false start size mode = refl

-- a variable
of_own : (st : Setting) (x : List ℕ) (k : ℕ) (o : Option Sort) (pl : Option Place) → holds_words (named_operand o) ≡ true → is_own st k (access_of o) pl ≡ true
    → HasFields st x k o pl
of_own st x k (Some (n.simple t own)) (Some place) word e = record {
  place = place;
  is = refl;
  target = refl;
  made = refl;
  closed = λ start size. own_closed (from_top place) start size (mode_of k place);
  located = λ v. own_located t (Some place) None v;
  leads = λ c results s is. ap (λ (o : Option Place). own_located t o None s) is;
  performs = λ z d need number start size at a value same within enough whole sim.
      variables_put z d k need number start size at t place a value within word (subst (λ (s : Setting). is_seen s k place ≡ true) (sym same) e)
      (omega (arith, enough)) whole sim;
}
of_own st x k (Some (n.value t)) (Some place) word e = record {
  place = place;
  is = refl;
  target = refl;
  made = refl;
  closed = λ start size. own_closed (from_top place) start size (mode_of k place);
  located = λ v. own_located t (Some place) None v;
  leads = λ c results s is. ap (λ (o : Option Place). own_located t o None s) is;
  performs = λ z d need number start size at a value same within enough whole sim.
      variables_put z d k need number start size at t place a value within word (subst (λ (s : Setting). is_seen s k place ≡ true) (sym same) e)
      (omega (arith, enough)) whole sim;
}
of_own st x k (Some (n.simple t own)) None word e = absurd (false≢true e)
of_own st x k (Some (n.value t)) None word e = absurd (false≢true e)
of_own st x k None pl word e = absurd (false≢true e)
of_own st x k (Some (n.equate v)) pl word e = absurd (false≢true e)
of_own st x k (Some (n.array t own low high)) pl word e = absurd (false≢true e)
of_own st x k (Some (n.view t own base)) pl word e = absurd (false≢true e)
of_own st x k (Some (n.pointer t own)) pl word e = absurd (false≢true e)
of_own st x k (Some (n.by_reference t)) pl word e = absurd (false≢true e)
of_own st x k (Some (n.array_parameter t)) pl word e = absurd (false≢true e)
of_own st x k (Some n.label) pl word e = absurd (false≢true e)
of_own st x k (Some (n.intrinsic i)) pl word e = absurd (false≢true e)
of_own st x k (Some (n.procedure p)) pl word e = absurd (false≢true e)
of_own st x k (Some (n.subroutine p)) pl word e = absurd (false≢true e)
of_own st x k (Some n.unknown) pl word e = absurd (false≢true e)

-- so does one of a cell
cell_closed : (b : Bool) (start size : ℕ) (mode : Mode) → IsClosed (cell_field start size b mode)
cell_closed true start size mode = refl
cell_closed false start size mode = refl

-- what the word of a name leads to
of_led : (st : Setting) (x : List ℕ) (k : ℕ) (o : Option Sort) (pl : Option Place) → holds_words (named_operand o) ≡ true
    → is_led st k (access_of o) pl ≡ true → HasFields st x k o pl
of_led st x k o pl word e =
    let r = seen_led st x k o pl e in
    record {
      place = r.place;
      is = r.is;
      target = r.target;
      made = r.made;
      closed = λ start size. subst (λ (ps : List Piece). IsClosed ps) (sym (r.fields start size))
          (cell_closed (from_top r.place) start size (mode_of k r.place));
      located = λ v. led_located r.far r.type (Some r.place) 0 v;
      leads = λ c results s is. r.leads c results s ∙ ap (λ (o : Option Place). led_located r.far r.type o 0 s) is;
      performs = λ z d need number start size at a value same within enough whole sim.
          subst (λ (ps : List Piece). Performs z d k need (piece (Begin at) ⨟ (nothing ⨟ a ⨟ pieces ps))
          (λ s. stopping number at s (λ u. then_go (value u) (λ vs v. then_go (led_located r.far r.type (Some r.place) 0 v) (λ p t. store_field p start size vs t)))))
          (sym (r.fields start size))
          (cells_put z d k need number start size at r.far r.type r.place a value within (word_kind (named_operand o) r.type r.operand word)
          (subst (λ (s : Setting). is_seen s k r.place ≡ true) (sym same) r.seen) (r.side ∙ ap (λ (s : Setting). s.split) (sym same)) enough whole sim);
    }

-- either of them
fields_case : (st : Setting) (x : List ℕ) (k : ℕ) (o : Option Sort) (pl : Option Place) → has_fields st k o pl ≡ true → HasFields st x k o pl
fields_case st x k o pl e =
    let two = both (holds_words (named_operand o)) (is_own st k (access_of o) pl || is_led st k (access_of o) pl) e in
    ⊎_elim (λ own. of_own st x k o pl two.0 own) (λ led. of_led st x k o pl two.0 led)
    (either (is_own st k (access_of o) pl) (is_led st k (access_of o) pl) two.1)

-- ---- fields without an index

-- the code of such an assignment
field_code : (c : Context) (st : Setting) (x : List ℕ) (there : At) (start size : Constant) (right : ℕ → Part) (at : At) (k : ℕ)
    (r : HasFields st x k (c.scope.names x) (c.scope.places x)) → is_within (small_constant c.scope.names start) (small_constant c.scope.names size) ≡ true
    → piece (Begin at) ⨟ put.assigned c.scope (stat.Target.field (tree.Tree.named x tree.Trees.none there) start size) right k
    ≡ piece (Begin at) ⨟ (nothing ⨟ right k
    ⨟ pieces (field_stored (access_of (c.scope.names x)) (small_constant c.scope.names start) (small_constant c.scope.names size) false k r.place))
field_code c st x there start size right at k r within =
    let first = small_constant c.scope.names start in
    let long = small_constant c.scope.names size in
    ap (λ (ps : List Piece). piece (Begin at) ⨟ (nothing ⨟ right k ⨟ pieces ps))
    (ap (λ (b : Bool). if b then at_place (c.scope.places x) (λ place. field_stored (assigned_access (c.scope.names x)) first long false k place) else []) within
    ∙ ap (λ (a : Access). at_place (c.scope.places x) (λ place. field_stored a first long false k place)) r.made
    ∙ ap (λ (o : Option Place). at_place o (λ place. field_stored (access_of (c.scope.names x)) first long false k place)) r.is)

-- it is whole
pub field_whole : (c : Context) (st : Setting) (x : List ℕ) (there : At) (start size : Constant) (right : ℕ → Part) (at : At) (k : ℕ)
    → is_within (small_constant c.scope.names start) (small_constant c.scope.names size) ≡ true → has_fields st k (c.scope.names x) (c.scope.places x) ≡ true
    → IsWhole (right k)
    → IsWhole (piece (Begin at) ⨟ put.assigned c.scope (stat.Target.field (tree.Tree.named x tree.Trees.none there) start size) right k)
field_whole c st x there start size right at k within has whole =
    let r = fields_case st x k (c.scope.names x) (c.scope.places x) has in
    let ps = field_stored (access_of (c.scope.names x)) (small_constant c.scope.names start) (small_constant c.scope.names size) false k r.place in
    subst (λ (a : Part). IsWhole a) (sym (field_code c st x there start size right at k r within)) (record {
      closed = λ l ws. closed_last (right k (l + 0 + 0) ws).pieces ps
          (r.closed (small_constant c.scope.names start) (small_constant c.scope.names size));
      keeps = λ l ws. whole.keeps (l + 0 + 0) ws;
    })

-- its meaning
field_is : (c : Scope) (results : List ℕ → Option (Kind × Place)) (st : Setting) (call : Callee) (x : List ℕ) (there : At) (start size : Constant) (means : ℕ → State → Outcome (List ℕ)) (k : ℕ)
    (r : HasFields st x k (c.names x) (c.places x)) → (u : State)
    → assigned (read_with c results st) call (stat.Target.field (tree.Tree.named x tree.Trees.none there) start size) means k u
    ≡ then_go (means k u)
    (λ vs v. then_go (r.located v) (λ p t. store_field p (small_constant c.names start) (small_constant c.names size) vs t))
field_is c results st call x there start size means k r u =
    then_same (means k u) (λ vs v. then_go (locate_target h x None v) (λ p t. put p vs t)) (λ vs v. then_go (r.located v) (λ p t. put p vs t))
    (λ vs v. ap (λ (a : Access). then_go (locate_by h x a None v) (λ p t. put p vs t)) r.target
    ∙ ap (λ (o : Outcome Located). then_go o (λ p t. put p vs t)) (r.leads c results v r.is)) where
      h : Here
      h = read_with c results st

      to : Target
      to = stat.Target.field (tree.Tree.named x tree.Trees.none there) start size

      put : Located → List ℕ → State → Outcome (Unit {0})
      put p vs t = store_field p (small_constant c.names start) (small_constant c.names size) vs t

-- and it is performed
pub field_performs : (c : Context) (results : List ℕ → Option (Kind × Place)) (z : Surroundings) (call : Callee) (d number : ℕ) (x : List ℕ) (there : At)
    (start size : Constant) (right : ℕ → Part) (means : ℕ → State → Outcome (List ℕ)) (at : At) (k need : ℕ) → is_within (small_constant c.scope.names start) (small_constant c.scope.names size) ≡ true
    → has_fields z.setting k (c.scope.names x) (c.scope.places x) ≡ true → 3 ≤ need
    → IsWhole (right k)
    → Simulates z d as_value 1 k need (right k) (λ s. means k s)
    → Performs z d k need (piece (Begin at) ⨟ put.assigned c.scope (stat.Target.field (tree.Tree.named x tree.Trees.none there) start size) right k)
    (λ s. stopping number at s (λ u. assigned (read_with c.scope results z.setting) call (stat.Target.field (tree.Tree.named x tree.Trees.none there) start size) means k u))
field_performs c results z call d number x there start size right means at k need within has enough whole sim =
    let r = fields_case z.setting x k (c.scope.names x) (c.scope.places x) has in
    let h = read_with c.scope results z.setting in
    let first = small_constant c.scope.names start in
    let long = small_constant c.scope.names size in
    let to = stat.Target.field (tree.Tree.named x tree.Trees.none there) start size in
    same_performs z d k need (piece (Begin at) ⨟ put.assigned c.scope to right k)
    (piece (Begin at) ⨟ (nothing ⨟ right k ⨟ pieces (field_stored (access_of (c.scope.names x)) first long false k r.place)))
    (λ s. stopping number at s (λ u. assigned h call to means k u))
    (λ s. stopping number at s (λ u. then_go (means k u) (λ vs v. then_go (r.located v) (λ p t. store_field p first long vs t))))
    (field_code c z.setting x there start size right at k r within)
    (λ s. stopping_same number at s (λ u. assigned h call to means k u)
    (λ u. then_go (means k u) (λ vs v. then_go (r.located v) (λ p t. store_field p first long vs t)))
    (field_is c.scope results z.setting call x there start size means k r))
    (r.performs z d need number first long at (right k) (λ u. means k u) refl within enough whole sim)

-- ---- fields of elements

-- a name with elements that have fields, whose kind has whole words
record HasElements (st : Setting) (o : Option Sort) (k : ℕ) (pl : Option Place) : Type 0 where
  element : SeenElement st o k pl
  words : is_word_kind element.type ≡ true

elements_case : (st : Setting) (x : List ℕ) (k : ℕ) (o : Option Sort) (pl : Option Place) → has_field_elements st k o pl ≡ true → HasElements st o k pl
elements_case st x k o pl e =
    let two = both (holds_words (named_operand o)) (is_led_element st k (access_of o) pl) e in
    let r = seen_element st x k o pl two.1 in
    record { element = r; words = word_kind (named_operand o) r.type r.operand two.0 }

-- a store in a field of an element closes
element_closed : (b : Bool) (start size : ℕ) (mode : Mode) → IsClosed (element_field start size b mode)
element_closed true start size mode = refl
element_closed false start size mode = refl

-- the code of such an assignment: the value is made while the index waits
element_code : (c : Context) (st : Setting) (x : List ℕ) (i : Tree) (there : At) (start size : Constant) (right : ℕ → Part) (at : At) (k : ℕ)
    (r : SeenElement st (c.scope.names x) k (c.scope.places x))
    → is_within (small_constant c.scope.names start) (small_constant c.scope.names size) ≡ true
    → piece (Begin at) ⨟ put.assigned c.scope (stat.Target.field (tree.Tree.named x (tree.Trees.and i tree.Trees.none) there) start size) right k
    ≡ piece (Begin at) ⨟ (code c.scope i as_value k ⨟ right (k + 1)
    ⨟ pieces (element_field (small_constant c.scope.names start) (small_constant c.scope.names size) (from_top r.place) (mode_of k r.place)))
element_code c st x i there start size right at k r within =
    let first = small_constant c.scope.names start in
    let long = small_constant c.scope.names size in
    ap (λ (ps : List Piece). piece (Begin at) ⨟ (code c.scope i as_value k ⨟ right (k + 1) ⨟ pieces ps))
    (ap (λ (b : Bool). if b then at_place (c.scope.places x) (λ place. field_stored (assigned_access (c.scope.names x)) first long true k place) else []) within
    ∙ ap (λ (a : Access). at_place (c.scope.places x) (λ place. field_stored a first long true k place)) r.made
    ∙ ap (λ (o : Option Place). at_place o (λ place. field_stored (by_cell r.is_pointer r.type) first long true k place)) r.is)

-- it is whole
pub element_whole : (c : Context) (st : Setting) (x : List ℕ) (i : Tree) (there : At) (start size : Constant) (right : ℕ → Part) (at : At) (k : ℕ)
    → has_field_elements st k (c.scope.names x) (c.scope.places x) ≡ true
    → is_within (small_constant c.scope.names start) (small_constant c.scope.names size) ≡ true → IsWhole (code c.scope i as_value k)
    → IsWhole (right (k + 1))
    → IsWhole (piece (Begin at) ⨟ put.assigned c.scope (stat.Target.field (tree.Tree.named x (tree.Trees.and i tree.Trees.none) there) start size) right k)
element_whole c st x i there start size right at k has within wi we =
    let r = (elements_case st x k (c.scope.names x) (c.scope.places x) has).element in
    let first = small_constant c.scope.names start in
    let long = small_constant c.scope.names size in
    subst (λ (a : Part). IsWhole a) (sym (element_code c st x i there start size right at k r within)) (record {
      closed = λ l ws. let a = code c.scope i as_value k (l + 0) ws in
          closed_last (a.pieces ++ (right (k + 1) (l + 0 + a.marks) a.wants).pieces) (element_field first long (from_top r.place) (mode_of k r.place))
          (element_closed (from_top r.place) first long (mode_of k r.place));
      keeps = λ l ws. let a = code c.scope i as_value k (l + 0) ws in
          front_on ws a.wants (right (k + 1) (l + 0 + a.marks) a.wants).wants (wi.keeps (l + 0) ws) (we.keeps (l + 0 + a.marks) a.wants);
    })

-- what comes of its index
abbrev element_meant : Here → Callee → Tree → (ℕ → State → Outcome (List ℕ)) → ℕ → Bool → Kind → Option Place → ℕ → ℕ → State → Outcome (Unit {0})
element_meant h call i means k far t o first long u =
    then_go (then_go (value h call i k u) as_index) (λ j v. then_go (means (k + 1) v)
    (λ vs w. then_go (led_located far t o (index_or_zero j) w) (λ p y. store_field p first long vs y)))

-- its meaning
element_is : (c : Scope) (results : List ℕ → Option (Kind × Place)) (st : Setting) (call : Callee) (x : List ℕ) (i : Tree) (there : At) (start size : Constant)
    (means : ℕ → State → Outcome (List ℕ)) (k : ℕ) (r : SeenElement st (c.names x) k (c.places x)) → (u : State)
    → assigned (read_with c results st) call (stat.Target.field (tree.Tree.named x (tree.Trees.and i tree.Trees.none) there) start size) means k u
    ≡ element_meant (read_with c results st) call i means k (r.is_pointer && st.split) r.type (Some r.place) (small_constant c.names start) (small_constant c.names size) u
element_is c results st call x i there start size means k r u =
    ap (λ (a : Access). then_go (then_go (value h call i k u) as_index) (λ j v. then_go (means (k + 1) v)
    (λ vs w. then_go (locate_by h x a j w) (λ p t. store_field p (small_constant c.names start) (small_constant c.names size) vs t)))) r.target
    ∙ ap (λ (o : Option Place). element_meant h call i means k (r.is_pointer && st.split) r.type o (small_constant c.names start) (small_constant c.names size) u) r.is where
      h : Here
      h = read_with c results st

      to : Target
      to = stat.Target.field (tree.Tree.named x (tree.Trees.and i tree.Trees.none) there) start size

-- and it is performed
pub element_performs : (c : Context) (results : List ℕ → Option (Kind × Place)) (z : Surroundings) (call : Callee) (d number : ℕ) (x : List ℕ) (i : Tree)
    (there : At) (start size : Constant) (right : ℕ → Part) (means : ℕ → State → Outcome (List ℕ)) (at : At) (k need more : ℕ)
    → is_within (small_constant c.scope.names start) (small_constant c.scope.names size) ≡ true
    → has_field_elements z.setting k (c.scope.names x) (c.scope.places x) ≡ true → 4 ≤ need → more + 1 ≤ need
    → IsWhole (code c.scope i as_value k) → IsWhole (right (k + 1))
    → Simulates z d as_value 1 k need (code c.scope i as_value k) (λ s. value (read_with c.scope results z.setting) call i k s)
    → Simulates z d as_value 1 (k + 1) more (right (k + 1)) (λ s. means (k + 1) s)
    → Performs z d k need (piece (Begin at) ⨟ put.assigned c.scope (stat.Target.field (tree.Tree.named x (tree.Trees.and i tree.Trees.none) there) start size) right k)
    (λ s. stopping number at s (λ u. assigned (read_with c.scope results z.setting) call (stat.Target.field (tree.Tree.named x (tree.Trees.and i tree.Trees.none) there) start size) means k u))
element_performs c results z call d number x i there start size right means at k need more within has enough fits wi we si se =
    let all = elements_case z.setting x k (c.scope.names x) (c.scope.places x) has in
    let r = all.element in
    let h = read_with c.scope results z.setting in
    let first = small_constant c.scope.names start in
    let long = small_constant c.scope.names size in
    let to = stat.Target.field (tree.Tree.named x (tree.Trees.and i tree.Trees.none) there) start size in
    same_performs z d k need (piece (Begin at) ⨟ put.assigned c.scope to right k)
    (piece (Begin at) ⨟ (code c.scope i as_value k ⨟ right (k + 1) ⨟ pieces (element_field first long (from_top r.place) (mode_of k r.place))))
    (λ s. stopping number at s (λ u. assigned h call to means k u))
    (λ s. stopping number at s (λ u. element_meant h call i means k (r.is_pointer && z.setting.split) r.type (Some r.place) first long u))
    (element_code c z.setting x i there start size right at k r within)
    (λ s. stopping_same number at s (λ u. assigned h call to means k u)
    (λ u. element_meant h call i means k (r.is_pointer && z.setting.split) r.type (Some r.place) first long u)
    (element_is c.scope results z.setting call x i there start size means k r))
    (elements_put z d k need more number first long at (r.is_pointer && z.setting.split) r.type r.place (code c.scope i as_value k) (right (k + 1))
    (λ u. value h call i k u) (λ u. means (k + 1) u) within all.words r.seen r.side enough fits wi we si se)

-- ---- pointers

-- the place of a pointer's word
pointer_place : (st : Setting) (k : ℕ) (pl : Option Place) → has_reached st k pl ≡ true → (place : Place) × (pl ≡ Some place) × (is_reached st k place ≡ true)
pointer_place st k (Some place) e = (place, refl, e)
pointer_place st k None e = absurd (false≢true e)

-- the code of such an assignment
pointer_code : (c : Context) (x : List ℕ) (there : At) (right : ℕ → Part) (at : At) (k : ℕ) (place : Place) → c.scope.places x ≡ Some place
    → piece (Begin at) ⨟ put.assigned c.scope (stat.Target.address x there) right k
    ≡ piece (Begin at) ⨟ (nothing ⨟ right k ⨟ pieces (pointer_stored k place))
pointer_code c x there right at k place is =
    ap (λ (o : Option Place). piece (Begin at) ⨟ (nothing ⨟ right k ⨟ pieces (at_place o (λ place. pointer_stored k place)))) is

-- it is whole
pub pointer_whole : (c : Context) (st : Setting) (x : List ℕ) (there : At) (right : ℕ → Part) (at : At) (k : ℕ) → has_reached st k (c.scope.places x) ≡ true
    → IsWhole (right k) → IsWhole (piece (Begin at) ⨟ put.assigned c.scope (stat.Target.address x there) right k)
pointer_whole c st x there right at k reached whole =
    let r = pointer_place st k (c.scope.places x) reached in
    subst (λ (a : Part). IsWhole a) (sym (pointer_code c x there right at k r.0 r.1)) (record {
      closed = λ l ws. closed_last (right k (l + 0 + 0) ws).pieces (pointer_stored k r.0) refl;
      keeps = λ l ws. whole.keeps (l + 0 + 0) ws;
    })

-- its meaning
pointer_is : (c : Scope) (results : List ℕ → Option (Kind × Place)) (st : Setting) (call : Callee) (x : List ℕ) (there : At) (means : ℕ → State → Outcome (List ℕ)) (k : ℕ) (place : Place)
    → c.places x ≡ Some place → (u : State)
    → assigned (read_with c results st) call (stat.Target.address x there) means k u
    ≡ then_go (means k u) (λ vs v. with_one vs v (λ y w. cell_stored (Some place) y w))
pointer_is c results st call x there means k place is u =
    ap (λ (o : Option Place). then_go (means k u) (λ vs v. with_one vs v (λ y w. cell_stored o y w))) is where
      h : Here
      h = read_with c results st

      to : Target
      to = stat.Target.address x there

-- and it is performed
pub pointer_performs : (c : Context) (results : List ℕ → Option (Kind × Place)) (z : Surroundings) (call : Callee) (d number : ℕ) (x : List ℕ) (there : At)
    (right : ℕ → Part) (means : ℕ → State → Outcome (List ℕ)) (at : At) (k need : ℕ) → has_reached z.setting k (c.scope.places x) ≡ true → 1 ≤ need
    → IsWhole (right k)
    → Simulates z d as_value 1 k need (right k) (λ s. means k s)
    → Performs z d k need (piece (Begin at) ⨟ put.assigned c.scope (stat.Target.address x there) right k)
    (λ s. stopping number at s (λ u. assigned (read_with c.scope results z.setting) call (stat.Target.address x there) means k u))
pointer_performs c results z call d number x there right means at k need reached enough whole sim =
    let r = pointer_place z.setting k (c.scope.places x) reached in
    let h = read_with c.scope results z.setting in
    let to = stat.Target.address x there in
    same_performs z d k need (piece (Begin at) ⨟ put.assigned c.scope to right k)
    (piece (Begin at) ⨟ (nothing ⨟ right k ⨟ pieces (pointer_stored k r.0)))
    (λ s. stopping number at s (λ u. assigned h call to means k u))
    (λ s. stopping number at s (λ u. then_go (means k u) (λ vs v. with_one vs v (λ y w. cell_stored (Some r.0) y w))))
    (pointer_code c x there right at k r.0 r.1)
    (λ s. stopping_same number at s (λ u. assigned h call to means k u)
    (λ u. then_go (means k u) (λ vs v. with_one vs v (λ y w. cell_stored (Some r.0) y w)))
    (pointer_is c.scope results z.setting call x there means k r.0 r.1))
    (pointers_assigned z d k need number at r.0 (right k) (λ u. means k u) r.2 enough whole sim)
