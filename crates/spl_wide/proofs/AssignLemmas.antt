-- Assignments of DOUBLE expressions, in a tree: to variables, and by their targets.
use Rattle.std.proofs.Common.{◌≡◌, ℕ, ◌+◌, ◌≤◌, true, false, List, refl, sym, ap, subst, ◌∙◌, arith}
use Rattle.std.specs.Prelude.{Option, Some, None, ◌||◌, unwrap_or}
use Rattle.std.proofs.lemmas.Bool.{false≢true}
use Rattle.std.proofs.Math.Logic.{⊎_elim}
use Rattle.spl_targets.specs.spl_branch.declared.pieces.Piece.{Piece}
use Rattle.spl_targets.specs.spl_branch.declared.pieces.Piece.TheVariants.{Begin}
use Rattle.spl_targets.specs.spl_tree.declared.expressions.Kind.{Kind}
use Rattle.spl_targets.specs.spl_tree.declared.expressions.Kind.TheVariants as kind
use Rattle.spl_targets.specs.spl_tree.declared.names_and_places.At.{At}
use Rattle.spl_targets.specs.spl_tree.Trees as tree
use Rattle.spl_targets.specs.spl_tree.Trees.{Tree, Trees}
use Rattle.spl_targets.specs.spl_tree.StatementTrees as stat
use Rattle.spl_targets.specs.spl_tree.StatementTrees.{Target}
use Rattle.spl_targets.specs.spl_meaning.Names.{Sort}
use Rattle.spl_targets.specs.spl_meaning.Operations.{kept}
use Rattle.spl_targets.specs.spl_meaning.Pending.{most, waiting}
use Rattle.spl_targets.specs.spl_meaning.Places.{Place, data_word, above_base, below_base, below_return}
use Rattle.spl_targets.specs.spl_meaning.References.{Here, Setting, Located, Access, its_own, access_of, address_of, variable_located, own_located, locate_by, locate_target, store}
use Rattle.spl_targets.specs.spl_meaning.States.{State, Outcome, then_go, stopping}
use Rattle.spl_targets.specs.spl_meaning.Statements.{assign, assigned, run}
use Rattle.spl_targets.specs.spl_meaning.Values.{Callee, value}
use Rattle.spl_targets.specs.spl_code.Calls.{Scope}
use Rattle.spl_targets.specs.spl_code.Code.{as_value, code}
use Rattle.spl_targets.specs.spl_code.Operands.{at_place}
use Rattle.spl_targets.specs.spl_code.Parts.{Part, pieces, piece, nothing, ◌⨟◌}
use Rattle.spl_targets.specs.spl_code.Stores.{stored}
use Rattle.spl_targets.proofs.spl_intrinsics_proofs.RoomLemmas.{more_room}
use Rattle.spl_targets.specs.spl_statement_code.Statements.{statement}
use Rattle.spl_targets.specs.spl_statement_code.Assignments as put
use Rattle.spl_targets.specs.spl_statement_code.Assignments.{assigned_access}
use Rattle.spl_targets.specs.spl_statement_code.Landings.{Context}
use Rattle.spl_targets.specs.spl_follow.Standing.{IsClosed}
use Rattle.spl_targets.specs.spl_follow.Simulating.{Surroundings, Simulates, Performs}
use Rattle.spl_targets.proofs.spl_follow_proofs.StandLemmas.{closed_last}
use Rattle.spl_targets.specs.spl_values.Reached.{IsWhole}
use Rattle.spl_targets.proofs.spl_values_proofs.VariableLemmas.{both}
use Rattle.spl_targets.proofs.spl_values_proofs.WholeLemmas.{then_same}
use Rattle.spl_targets.specs.spl_tops.Seen.{is_seen}
use Rattle.spl_targets.proofs.spl_tops_proofs.StoreLemmas.{doubles_put}
use Rattle.spl_targets.specs.spl_whom.Whom.{is_double_result}
use Rattle.spl_targets.specs.spl_covered.Covered.{is_covered}
use Rattle.spl_targets.specs.spl_names.Names.{read_with, is_wide_name, is_wide_element, is_wide_led}
use Rattle.spl_targets.proofs.spl_word_operators_proofs.OperatorLemmas.{either}
use Rattle.spl_targets.proofs.spl_names_proofs.WideNameLemmas.{IsWide, wide_case}
use Rattle.spl_targets.proofs.spl_covered_proofs.CoverLemmas.{covered_whole, wide_whole, wide_gives}
use Rattle.spl_targets.proofs.SameLemmas.{stopping_same, same_performs}
use Rattle.spl_targets.proofs.TargetLemmas.{word_given, index_room, value_assigned, assign_room}
use Rattle.spl_targets.specs.Results.{result_kind, is_result}
use Rattle.spl_targets.proofs.ResultLemmas.{IsResult, result_case, result_made, result_leads}
use Rattle.spl_wide.specs.Wide.{is_wide_result}
use Rattle.spl_wide.specs.Laws.{WideStoresAreWhole, WideStoresPerform, WideAssignmentsAreWhole, WideAssignmentsPerform}
use Rattle.spl_wide.proofs.TargetLemmas as targets

-- a store closes
closed : (k : ℕ) (place : Place) → IsClosed (stored (its_own kind.Double) false k place)
closed k (data_word a) = refl
closed k (above_base a) = refl
closed k (below_base a) = refl
closed k (below_return a) = refl

-- ---- where they are stored

-- a variable, or a result that a name means
pub record IsStored (st : Setting) (k : ℕ) (o : Option Sort) (pl : Option Place) : Type 0 where
  pub place : Place
  pub made : assigned_access o ≡ its_own kind.Double
  pub is : pl ≡ Some place
  pub seen : is_seen st k place ≡ true

-- where it is located
abbrev pub LeadsTo : Scope → (List ℕ → Option (Kind × Place)) → Setting → List ℕ → Place → Type 0
LeadsTo c results st x place = (v : State) → locate_target (read_with c results st) x None v ≡ own_located kind.Double (Some place) None v

unfoldable pub variable_stored : (st : Setting) (x : List ℕ) (k : ℕ) (o : Option Sort) (pl : Option Place) → IsWide st x k o pl → IsStored st k o pl
variable_stored st x k o pl r = record { place = r.place; made = r.made; is = r.is; seen = r.seen }

pub variable_leads : (c : Scope) (results : List ℕ → Option (Kind × Place)) (st : Setting) (x : List ℕ) (k : ℕ) (r : IsWide st x k (c.names x) (c.places x))
    → LeadsTo c results st x r.place
variable_leads c results st x k r v =
    ap (λ (a : Access). locate_by (read_with c results st) x a None v) r.target ∙ ap (λ (o : Option Place). own_located kind.Double o None v) r.is

pub double_kind : (o : Option Kind) (t : Kind) → is_double_result o ≡ true → o ≡ Some t → t ≡ kind.Double
double_kind (Some kind.Double) t e is = ap (λ (o : Option Kind). unwrap_or o t) (sym is)
double_kind (Some kind.Integer) t e is = absurd (false≢true e)
double_kind (Some kind.Logical) t e is = absurd (false≢true e)
double_kind (Some kind.Byte) t e is = absurd (false≢true e)
double_kind None t e is = absurd (false≢true e)

unfoldable pub result_stored : (st : Setting) (k : ℕ) (o : Option Sort) (r : Option (Kind × Place)) (pl : Option Place) → (x : IsResult st k (result_kind o) r pl) → x.type ≡ kind.Double
    → IsStored st k o pl
result_stored st k o r pl x double =
    record { place = x.place; made = result_made o x.type x.kind' ∙ ap its_own double; is = x.is; seen = x.seen }

-- the code of such an assignment
pub assign_code : (c : Context) (st : Setting) (x : List ℕ) (there : At) (right : ℕ → Part) (at : At) (k : ℕ) (r : IsStored st k (c.scope.names x) (c.scope.places x))
    → piece (Begin at) ⨟ put.assigned c.scope (stat.Target.plain (tree.Tree.named x tree.Trees.none there)) right k
    ≡ piece (Begin at) ⨟ (nothing ⨟ right k ⨟ pieces (stored (its_own kind.Double) false k r.place))
assign_code c st x there right at k r =
    ap (λ (ps : List Piece). piece (Begin at) ⨟ (nothing ⨟ right k ⨟ pieces ps))
    (ap (λ (a : Access). at_place (c.scope.places x) (λ place. stored a false k place)) r.made
    ∙ ap (λ (o : Option Place). at_place o (λ place. stored (its_own kind.Double) false k place)) r.is)

-- it is whole
name_whole : (c : Context) (st : Setting) (x : List ℕ) (there : At) (right : ℕ → Part) (at : At) (k : ℕ) → IsStored st k (c.scope.names x) (c.scope.places x)
    → IsWhole (right k)
    → IsWhole (piece (Begin at) ⨟ put.assigned c.scope (stat.Target.plain (tree.Tree.named x tree.Trees.none there)) right k)
name_whole c st x there right at k r whole =
    subst (λ (a : Part). IsWhole a) (sym (assign_code c st x there right at k r)) (record {
      closed = λ l ws. closed_last (right k (l + 0 + 0) ws).pieces (stored (its_own kind.Double) false k r.place) (closed k r.place);
      keeps = λ l ws. whole.keeps (l + 0 + 0) ws;
    })

-- its meaning
pub assign_is : (c : Scope) (results : List ℕ → Option (Kind × Place)) (st : Setting) (call : Callee) (x : List ℕ) (there : At) (means : ℕ → State → Outcome (List ℕ)) (k : ℕ)
    (place : Place) → LeadsTo c results st x place → (u : State)
    → assigned (read_with c results st) call (stat.Target.plain (tree.Tree.named x tree.Trees.none there)) means k u
    ≡ then_go (means k u) (λ vs v. store (variable_located kind.Double (address_of place v.now)) vs v)
assign_is c results st call x there means k place leads u =
    then_same (means k u) (λ vs v. then_go (locate_target h x None v) (λ p t. store p (kept p.kind vs) t))
    (λ vs v. store (variable_located kind.Double (address_of place v.now)) vs v)
    (λ vs v. ap (λ (o : Outcome Located). then_go o (λ p t. store p (kept p.kind vs) t)) (leads v)) where
      h : Here
      h = read_with c results st

      to : Target
      to = stat.Target.plain (tree.Tree.named x tree.Trees.none there)

-- and it is performed
name_performs : (c : Context) (results : List ℕ → Option (Kind × Place)) (z : Surroundings) (call : Callee) (d number : ℕ) (x : List ℕ) (there : At) (right : ℕ → Part) (means : ℕ → State → Outcome (List ℕ))
    (at : At) (k need : ℕ) (r : IsStored z.setting k (c.scope.names x) (c.scope.places x)) → LeadsTo c.scope results z.setting x r.place → 2 ≤ need
    → IsWhole (right k)
    → Simulates z d as_value 2 k need (right k) (λ s. means k s)
    → Performs z d k need (piece (Begin at) ⨟ put.assigned c.scope (stat.Target.plain (tree.Tree.named x tree.Trees.none there)) right k)
    (λ s. stopping number at s (λ u. assigned (read_with c.scope results z.setting) call (stat.Target.plain (tree.Tree.named x tree.Trees.none there)) means k u))
name_performs c results z call d number x there right means at k need r leads enough whole sim =
    let h = read_with c.scope results z.setting in
    let to = stat.Target.plain (tree.Tree.named x tree.Trees.none there) in
    same_performs z d k need (piece (Begin at) ⨟ put.assigned c.scope to right k)
    (piece (Begin at) ⨟ (nothing ⨟ right k ⨟ pieces (stored (its_own kind.Double) false k r.place)))
    (λ s. stopping number at s (λ u. assigned h call to means k u))
    (λ s. stopping number at s (λ u. then_go (means k u) (λ vs v. store (variable_located kind.Double (address_of r.place v.now)) vs v)))
    (assign_code c z.setting x there right at k r)
    (λ s. stopping_same number at s (λ u. assigned h call to means k u)
    (λ u. then_go (means k u) (λ vs v. store (variable_located kind.Double (address_of r.place v.now)) vs v))
    (assign_is c.scope results z.setting call x there means k r.place leads))
    (doubles_put z d k need number at r.place (right k) (λ u. means k u) r.seen enough whole sim)

-- ---- targets

pub wide_stores_whole : WideStoresAreWhole
wide_stores_whole may c results st (stat.Target.plain (tree.Tree.named x tree.Trees.none there)) right at k is whole =
    let own = is_wide_name st k (c.scope.names x) (c.scope.places x) in
    let led = is_wide_led st k (access_of (c.scope.names x)) (c.scope.places x) in
    let given = is_wide_result st k (c.scope.names x) (results x) (c.scope.places x) in
    ⊎_elim (λ variable. ⊎_elim (λ one. name_whole c st x there right at k
    (variable_stored st x k (c.scope.names x) (c.scope.places x) (wide_case st x k (c.scope.names x) (c.scope.places x) one)) whole)
    (λ other. targets.led_whole c st x there right at k other whole) (either own led variable))
    (λ result. let parts = both (is_double_result (result_kind (c.scope.names x))) (is_result st k (result_kind (c.scope.names x)) (results x) (c.scope.places x)) result in
    let r = result_case st k (result_kind (c.scope.names x)) (results x) (c.scope.places x) parts.1 in
    name_whole c st x there right at k (result_stored st k (c.scope.names x) (results x) (c.scope.places x) r (double_kind (result_kind (c.scope.names x)) r.type parts.0 r.kind')) whole)
    (either (own || led) given is)
wide_stores_whole may c results st (stat.Target.plain (tree.Tree.named x (tree.Trees.and i tree.Trees.none) there)) right at k is whole =
    let two = both (is_wide_element st k (access_of (c.scope.names x)) (c.scope.places x)) (is_covered may c.scope st i k) is in
    targets.element_whole c st x i there right at k two.0 (covered_whole may c.scope st i k two.1) whole
wide_stores_whole may c results st (stat.Target.plain (tree.Tree.named x (tree.Trees.and i (tree.Trees.and j js)) there)) right at k is whole = absurd (false≢true is)
wide_stores_whole may c results st (stat.Target.plain (tree.Tree.number w)) right at k is whole = absurd (false≢true is)
wide_stores_whole may c results st (stat.Target.plain (tree.Tree.wide w)) right at k is whole = absurd (false≢true is)
wide_stores_whole may c results st (stat.Target.plain (tree.Tree.text bytes)) right at k is whole = absurd (false≢true is)
wide_stores_whole may c results st (stat.Target.plain (tree.Tree.truth b)) right at k is whole = absurd (false≢true is)
wide_stores_whole may c results st (stat.Target.plain (tree.Tree.address x es there)) right at k is whole = absurd (false≢true is)
wide_stores_whole may c results st (stat.Target.plain (tree.Tree.unary o a there)) right at k is whole = absurd (false≢true is)
wide_stores_whole may c results st (stat.Target.plain (tree.Tree.binary o a b there)) right at k is whole = absurd (false≢true is)
wide_stores_whole may c results st (stat.Target.plain (tree.Tree.shift o a by there)) right at k is whole = absurd (false≢true is)
wide_stores_whole may c results st (stat.Target.plain (tree.Tree.field a start size there)) right at k is whole = absurd (false≢true is)
wide_stores_whole may c results st (stat.Target.plain (tree.Tree.transfer t a there)) right at k is whole = absurd (false≢true is)
wide_stores_whole may c results st (stat.Target.plain (tree.Tree.bytes o a b count there)) right at k is whole = absurd (false≢true is)
wide_stores_whole may c results st (stat.Target.field r start size) right at k is whole = absurd (false≢true is)
wide_stores_whole may c results st (stat.Target.address x there) right at k is whole = absurd (false≢true is)

pub wide_stores : WideStoresPerform
unfolding variable_stored result_stored
wide_stores may c results z call d number (stat.Target.plain (tree.Tree.named x tree.Trees.none there)) right means at k need more links agrees is enough fits whole sim =
    let own = is_wide_name z.setting k (c.scope.names x) (c.scope.places x) in
    let led = is_wide_led z.setting k (access_of (c.scope.names x)) (c.scope.places x) in
    let given = is_wide_result z.setting k (c.scope.names x) (results x) (c.scope.places x) in
    let here = more_room z d 2 k more need (right k) (λ s. means k s) (omega (arith, fits)) sim in
    ⊎_elim
    (λ variable. ⊎_elim
    (λ one. let r = wide_case z.setting x k (c.scope.names x) (c.scope.places x) one in
    name_performs c results z call d number x there right means at k need (variable_stored z.setting x k (c.scope.names x) (c.scope.places x) r)
    (variable_leads c.scope results z.setting x k r) (omega (arith, enough)) whole here)
    (λ other. targets.led_performs c results z call d number x there right means at k need other (omega (arith, enough)) whole here) (either own led variable))
    (λ result. let parts = both (is_double_result (result_kind (c.scope.names x))) (is_result z.setting k (result_kind (c.scope.names x)) (results x) (c.scope.places x)) result in
    let r = result_case z.setting k (result_kind (c.scope.names x)) (results x) (c.scope.places x) parts.1 in
    let double = double_kind (result_kind (c.scope.names x)) r.type parts.0 r.kind' in
    name_performs c results z call d number x there right means at k need (result_stored z.setting k (c.scope.names x) (results x) (c.scope.places x) r double)
    (λ v. result_leads c.scope results z.setting x k agrees r v ∙ ap (λ (t : Kind). own_located t (Some r.place) None v) double) (omega (arith, enough)) whole here)
    (either (own || led) given is)
wide_stores may c results z call d number (stat.Target.plain (tree.Tree.named x (tree.Trees.and i tree.Trees.none) there)) right means at k need more links agrees is enough fits whole sim =
    let two = both (is_wide_element z.setting k (access_of (c.scope.names x)) (c.scope.places x)) (is_covered may c.scope z.setting i k) is in
    targets.element_performs c results z call d number x i there right means at k need more two.0 (omega (arith, enough)) (omega (arith, fits))
    (covered_whole may c.scope z.setting i k two.1) whole (word_given may c.scope results z call d i k need links two.1 (index_room c.scope.names x i there need enough)) sim
wide_stores may c results z call d number (stat.Target.plain (tree.Tree.named x (tree.Trees.and i (tree.Trees.and j js)) there)) right means at k need more links agrees is enough fits whole sim = absurd (false≢true is)
wide_stores may c results z call d number (stat.Target.plain (tree.Tree.number w)) right means at k need more links agrees is enough fits whole sim = absurd (false≢true is)
wide_stores may c results z call d number (stat.Target.plain (tree.Tree.wide w)) right means at k need more links agrees is enough fits whole sim = absurd (false≢true is)
wide_stores may c results z call d number (stat.Target.plain (tree.Tree.text bytes)) right means at k need more links agrees is enough fits whole sim = absurd (false≢true is)
wide_stores may c results z call d number (stat.Target.plain (tree.Tree.truth b)) right means at k need more links agrees is enough fits whole sim = absurd (false≢true is)
wide_stores may c results z call d number (stat.Target.plain (tree.Tree.address x es there)) right means at k need more links agrees is enough fits whole sim = absurd (false≢true is)
wide_stores may c results z call d number (stat.Target.plain (tree.Tree.unary o a there)) right means at k need more links agrees is enough fits whole sim = absurd (false≢true is)
wide_stores may c results z call d number (stat.Target.plain (tree.Tree.binary o a b there)) right means at k need more links agrees is enough fits whole sim = absurd (false≢true is)
wide_stores may c results z call d number (stat.Target.plain (tree.Tree.shift o a by there)) right means at k need more links agrees is enough fits whole sim = absurd (false≢true is)
wide_stores may c results z call d number (stat.Target.plain (tree.Tree.field a start size there)) right means at k need more links agrees is enough fits whole sim = absurd (false≢true is)
wide_stores may c results z call d number (stat.Target.plain (tree.Tree.transfer t a there)) right means at k need more links agrees is enough fits whole sim = absurd (false≢true is)
wide_stores may c results z call d number (stat.Target.plain (tree.Tree.bytes o a b count there)) right means at k need more links agrees is enough fits whole sim = absurd (false≢true is)
wide_stores may c results z call d number (stat.Target.field r start size) right means at k need more links agrees is enough fits whole sim = absurd (false≢true is)
wide_stores may c results z call d number (stat.Target.address x there) right means at k need more links agrees is enough fits whole sim = absurd (false≢true is)

-- ---- of what is covered

pub assigned_whole : WideAssignmentsAreWhole
assigned_whole may c results st to e at k is covered =
    wide_stores_whole may c results st to (λ j. code c.scope e as_value j) at k is (wide_whole may c.scope st e (waiting to k) covered)

pub assigned_performs : WideAssignmentsPerform
assigned_performs may c results z call d number to e at k need links agrees is covered none enough =
    let h = read_with c.scope results z.setting in
    let room = assign_room c.scope.names to (most c.scope.names e) k need enough in
    same_performs z d k need (statement c (stat.Statement.assign to e at) k) (piece (Begin at) ⨟ put.assigned c.scope to (λ j. code c.scope e as_value j) k)
    (λ s. run h call d number (stat.Statement.assign to e at) k s) (λ s. stopping number at s (λ u. assigned h call to (λ j v. value h call e j v) k u)) refl
    (λ s. stopping_same number at s (λ u. assign h call to e k u) (λ u. assigned h call to (λ j v. value h call e j v) k u) (value_assigned h call to e k none))
    (wide_stores may c results z call d number to (λ j. code c.scope e as_value j) (λ j s. value h call e j s) at k need (most c.scope.names e + 8) links agrees is
    room.0 room.1 (wide_whole may c.scope z.setting e (waiting to k) covered)
    (wide_gives may c.scope results z call d e (waiting to k) (most c.scope.names e + 8) links covered (omega arith)))
