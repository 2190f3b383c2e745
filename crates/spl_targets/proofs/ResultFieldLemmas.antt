-- Assignments to bit fields of results, in a tree: a result is stored as a variable of its kind.
use Rattle.std.proofs.Common.{◌≡◌, ℕ, ◌+◌, ◌≤◌, Bool, true, false, List, sym, ap, subst, ◌∙◌}
use Rattle.std.specs.Prelude.{Option, Some, None, [], if◌then◌else◌}
use Rattle.spl_covered.specs.spl_branch.declared.pieces.Piece.{Piece}
use Rattle.spl_covered.specs.spl_branch.declared.pieces.Piece.TheVariants.{Begin}
use Rattle.spl_covered.specs.spl_tree.declared.expressions.Kind.{Kind}
use Rattle.spl_covered.specs.spl_tree.declared.names_and_places.At.{At}
use Rattle.spl_covered.specs.spl_tree.Trees as tree
use Rattle.spl_covered.specs.spl_tree.Trees.{Tree, Constant}
use Rattle.spl_covered.specs.spl_tree.StatementTrees as stat
use Rattle.spl_covered.specs.spl_tree.StatementTrees.{Target}
use Rattle.spl_covered.specs.spl_meaning.Places.{Place}
use Rattle.spl_covered.specs.spl_meaning.References.{Setting, Located, Access, its_own, own_located, locate_target, store_field}
use Rattle.spl_covered.specs.spl_meaning.States.{State, Outcome, then_go, stopping}
use Rattle.spl_covered.specs.spl_meaning.Statements.{assigned}
use Rattle.spl_covered.specs.spl_meaning.Values.{Callee, small_constant}
use Rattle.spl_covered.specs.spl_code.Parts.{Part, pieces, piece, nothing, ◌⨟◌}
use Rattle.spl_covered.specs.spl_code.Operands.{mode_of, at_place}
use Rattle.spl_covered.specs.spl_code.Calls.{Scope}
use Rattle.spl_covered.specs.spl_code.Code.{as_value}
use Rattle.spl_covered.specs.spl_code.Stores.{from_top, field_stored}
use Rattle.spl_covered.specs.spl_statement_code.Assignments as put
use Rattle.spl_covered.specs.spl_statement_code.Assignments.{assigned_access}
use Rattle.spl_covered.specs.spl_statement_code.Landings.{Context}
use Rattle.spl_top_fields.specs.spl_follow.Simulating.{Surroundings, Simulates, Performs}
use Rattle.spl_top_fields.proofs.spl_follow_proofs.StandLemmas.{closed_last}
use Rattle.spl_covered.specs.spl_values.Reached.{is_word_kind, IsWhole}
use Rattle.spl_covered.proofs.spl_values_proofs.VariableLemmas.{both}
use Rattle.spl_covered.proofs.spl_values_proofs.WholeLemmas.{then_same}
use Rattle.spl_top_fields.specs.spl_field_stores.Laws.{is_within}
use Rattle.spl_top_fields.proofs.VariableLemmas.{variables_put}
use Rattle.spl_covered.specs.spl_names.Names.{read_with}
use Rattle.spl_targets.specs.Results.{result_kind, is_result, ResultsAgree}
use Rattle.spl_targets.specs.Targets.{holds_result, has_result_fields}
use Rattle.spl_targets.proofs.FieldLemmas.{own_closed}
use Rattle.spl_targets.proofs.ResultLemmas.{IsResult, result_case, result_made, result_leads}
use Rattle.spl_targets.proofs.SameLemmas.{stopping_same, same_performs}

-- the target
abbrev pub result_field : List ℕ → At → Constant → Constant → Target
result_field x there start size = stat.Target.field (tree.Tree.named x tree.Trees.none there) start size

-- what such a name means, and that it has whole words
record HasResult (c : Scope) (results : List ℕ → Option (Kind × Place)) (st : Setting) (x : List ℕ) (k : ℕ) : Type 0 where
  result : IsResult st k (result_kind (c.names x)) (results x) (c.places x)
  words : is_word_kind result.type ≡ true

fields_case : (c : Scope) (results : List ℕ → Option (Kind × Place)) (st : Setting) (x : List ℕ) (k : ℕ)
    → has_result_fields st k (c.names x) (results x) (c.places x) ≡ true → HasResult c results st x k
fields_case c results st x k has =
    let two = both (holds_result (result_kind (c.names x))) (is_result st k (result_kind (c.names x)) (results x) (c.places x)) has in
    let r = result_case st k (result_kind (c.names x)) (results x) (c.places x) two.1 in
    record { result = r; words = sym (ap (λ (o : Option Kind). holds_result o) r.kind') ∙ two.0 }

-- the code of such an assignment
field_code : (c : Context) (results : List ℕ → Option (Kind × Place)) (st : Setting) (x : List ℕ) (there : At) (start size : Constant) (right : ℕ → Part)
    (at : At) (k : ℕ) (r : HasResult c.scope results st x k) → is_within (small_constant c.scope.names start) (small_constant c.scope.names size) ≡ true
    → piece (Begin at) ⨟ put.assigned c.scope (result_field x there start size) right k
    ≡ piece (Begin at) ⨟ (nothing ⨟ right k
    ⨟ pieces (field_stored (its_own r.result.type) (small_constant c.scope.names start) (small_constant c.scope.names size) false k r.result.place))
field_code c results st x there start size right at k r within =
    let first = small_constant c.scope.names start in
    let long = small_constant c.scope.names size in
    ap (λ (ps : List Piece). piece (Begin at) ⨟ (nothing ⨟ right k ⨟ pieces ps))
    (ap (λ (b : Bool). if b then at_place (c.scope.places x) (λ place. field_stored (assigned_access (c.scope.names x)) first long false k place) else []) within
    ∙ ap (λ (a : Access). at_place (c.scope.places x) (λ place. field_stored a first long false k place)) (result_made (c.scope.names x) r.result.type r.result.kind')
    ∙ ap (λ (o : Option Place). at_place o (λ place. field_stored (its_own r.result.type) first long false k place)) r.result.is)

-- it is whole
pub field_whole : (c : Context) (results : List ℕ → Option (Kind × Place)) (st : Setting) (x : List ℕ) (there : At) (start size : Constant) (right : ℕ → Part)
    (at : At) (k : ℕ) → is_within (small_constant c.scope.names start) (small_constant c.scope.names size) ≡ true
    → has_result_fields st k (c.scope.names x) (results x) (c.scope.places x) ≡ true → IsWhole (right k)
    → IsWhole (piece (Begin at) ⨟ put.assigned c.scope (result_field x there start size) right k)
field_whole c results st x there start size right at k within has whole =
    let r = fields_case c.scope results st x k has in
    let first = small_constant c.scope.names start in
    let long = small_constant c.scope.names size in
    let ps = field_stored (its_own r.result.type) first long false k r.result.place in
    subst (λ (a : Part). IsWhole a) (sym (field_code c results st x there start size right at k r within)) (record {
      closed = λ l ws. closed_last (right k (l + 0 + 0) ws).pieces ps (own_closed (from_top r.result.place) first long (mode_of k r.result.place));
      keeps = λ l ws. whole.keeps (l + 0 + 0) ws;
    })

-- its meaning
field_is : (c : Scope) (results : List ℕ → Option (Kind × Place)) (st : Setting) (call : Callee) (x : List ℕ) (there : At) (start size : Constant)
    (means : ℕ → State → Outcome (List ℕ)) (k : ℕ) → ResultsAgree c results → (r : HasResult c results st x k) → (u : State)
    → assigned (read_with c results st) call (result_field x there start size) means k u
    ≡ then_go (means k u) (λ vs v. then_go (own_located r.result.type (Some r.result.place) None v)
    (λ p t. store_field p (small_constant c.names start) (small_constant c.names size) vs t))
field_is c results st call x there start size means k agrees r u =
    then_same (means k u) (λ vs v. then_go (locate_target (read_with c results st) x None v) (λ p t. put p vs t))
    (λ vs v. then_go (own_located r.result.type (Some r.result.place) None v) (λ p t. put p vs t))
    (λ vs v. ap (λ (o : Outcome Located). then_go o (λ p t. put p vs t)) (result_leads c results st x k agrees r.result v))
  where
    put : Located → List ℕ → State → Outcome (Unit {0})
    put p vs t = store_field p (small_constant c.names start) (small_constant c.names size) vs t

-- and it is performed
pub field_performs : (c : Context) (results : List ℕ → Option (Kind × Place)) (z : Surroundings) (call : Callee) (d number : ℕ) (x : List ℕ) (there : At)
    (start size : Constant) (right : ℕ → Part) (means : ℕ → State → Outcome (List ℕ)) (at : At) (k need : ℕ) → ResultsAgree c.scope results
    → is_within (small_constant c.scope.names start) (small_constant c.scope.names size) ≡ true
    → has_result_fields z.setting k (c.scope.names x) (results x) (c.scope.places x) ≡ true → 2 ≤ need → IsWhole (right k)
    → Simulates z d as_value 1 k need (right k) (λ s. means k s)
    → Performs z d k need (piece (Begin at) ⨟ put.assigned c.scope (result_field x there start size) right k)
    (λ s. stopping number at s (λ u. assigned (read_with c.scope results z.setting) call (result_field x there start size) means k u))
field_performs c results z call d number x there start size right means at k need agrees within has enough whole sim =
    let r = fields_case c.scope results z.setting x k has in
    let h = read_with c.scope results z.setting in
    let first = small_constant c.scope.names start in
    let long = small_constant c.scope.names size in
    let to = result_field x there start size in
    same_performs z d k need (piece (Begin at) ⨟ put.assigned c.scope to right k)
    (piece (Begin at) ⨟ (nothing ⨟ right k ⨟ pieces (field_stored (its_own r.result.type) first long false k r.result.place)))
    (λ s. stopping number at s (λ u. assigned h call to means k u))
    (λ s. stopping number at s (λ u. then_go (means k u)
    (λ vs v. then_go (own_located r.result.type (Some r.result.place) None v) (λ p t. store_field p first long vs t))))
    (field_code c results z.setting x there start size right at k r within)
    (λ s. stopping_same number at s (λ u. assigned h call to means k u)
    (λ u. then_go (means k u) (λ vs v. then_go (own_located r.result.type (Some r.result.place) None v) (λ p t. store_field p first long vs t)))
    (field_is c.scope results z.setting call x there start size means k agrees r))
    (variables_put z d k need number first long at r.result.type r.result.place (right k) (λ u. means k u) within r.words r.result.seen enough whole sim)
