-- Assignments to variables and results by their own words, in a tree.
use Rattle.std.proofs.Common.{◌≡◌, ℕ, ◌+◌, ◌≤◌, true, false, List, refl, sym, ap, subst, ◌∙◌, arith}
use Rattle.std.specs.Prelude.{Option, Some, None, unwrap_or}
use Rattle.std.proofs.lemmas.Bool.{false≢true}
use Rattle.std.proofs.Math.Logic.{⊎_elim}
use Rattle.spl_covered.specs.spl_branch.declared.pieces.Piece.{Piece}
use Rattle.spl_covered.specs.spl_branch.declared.pieces.Piece.TheVariants.{Begin}
use Rattle.spl_covered.specs.spl_tree.declared.expressions.Kind.{Kind}
use Rattle.spl_covered.specs.spl_tree.declared.expressions.Kind.TheVariants as kind
use Rattle.spl_covered.specs.spl_tree.declared.names_and_places.At.{At}
use Rattle.spl_covered.specs.spl_tree.Trees as tree
use Rattle.spl_covered.specs.spl_tree.StatementTrees as stat
use Rattle.spl_covered.specs.spl_tree.StatementTrees.{Target}
use Rattle.spl_covered.specs.spl_meaning.Names as n
use Rattle.spl_covered.specs.spl_meaning.Names.{Sort}
use Rattle.spl_covered.specs.spl_meaning.Operations.{kept}
use Rattle.spl_covered.specs.spl_meaning.Pending.{waiting}
use Rattle.spl_covered.specs.spl_meaning.Places.{Place, data_word, above_base, below_base, below_return}
use Rattle.spl_covered.specs.spl_meaning.References.{Here, Setting, Located, Access, its_own, address_of, variable_located, target_access, own_located, locate_by, locate_target, store}
use Rattle.spl_covered.specs.spl_meaning.States.{State, Outcome, then_go, stopping}
use Rattle.spl_covered.specs.spl_meaning.Statements.{assigned}
use Rattle.spl_covered.specs.spl_meaning.Values.{Callee}
use Rattle.spl_covered.specs.spl_code.Parts.{Part, pieces, piece, nothing, ◌⨟◌}
use Rattle.spl_covered.specs.spl_code.Operands.{at_place}
use Rattle.spl_covered.specs.spl_code.Calls.{Scope}
use Rattle.spl_covered.specs.spl_code.Code.{as_value}
use Rattle.spl_covered.specs.spl_code.Stores.{stored}
use Rattle.spl_covered.specs.spl_statement_code.Assignments as put
use Rattle.spl_covered.specs.spl_statement_code.Assignments.{assigned_access}
use Rattle.spl_covered.specs.spl_statement_code.Landings.{Context}
use Rattle.spl_top_fields.specs.spl_follow.Standing.{IsClosed}
use Rattle.spl_top_fields.specs.spl_follow.Simulating.{Surroundings, Simulates, Performs}
use Rattle.spl_top_fields.proofs.spl_follow_proofs.StandLemmas.{closed_last}
use Rattle.spl_covered.specs.spl_values.Reached.{IsWhole}
use Rattle.spl_covered.proofs.spl_values_proofs.VariableLemmas.{both}
use Rattle.spl_covered.proofs.spl_values_proofs.WholeLemmas.{then_same}
use Rattle.spl_covered.specs.spl_tops.Seen.{is_seen}
use Rattle.spl_covered.proofs.spl_tops_proofs.StoreLemmas.{own_words_put}
use Rattle.spl_covered.specs.spl_operators.Laws.{is_single}
use Rattle.spl_covered.proofs.spl_intrinsics_proofs.RoomLemmas.{more_room}
use Rattle.spl_covered.proofs.spl_word_operators_proofs.OperatorLemmas.{either}
use Rattle.spl_covered.specs.spl_names.Names.{read_with}
use Rattle.spl_covered.proofs.spl_names_proofs.LedLemmas.{single_width}
use Rattle.spl_covered.specs.spl_whom.Whom.{is_word_result}
use Rattle.spl_targets.specs.Results.{result_kind, is_result, ResultsAgree}
use Rattle.spl_targets.specs.Targets.{is_stored_name, is_stored_result, is_own_target}
use Rattle.spl_targets.proofs.ResultLemmas.{IsResult, result_case, result_made, result_leads}
use Rattle.spl_targets.proofs.SameLemmas.{stopping_same, same_performs}

-- ---- which are such

-- what a covered target is: a variable of one word or a BYTE where it is seen
pub record IsTarget (st : Setting) (k : ℕ) (o : Option Sort) (pl : Option Place) : Type 0 where
  pub type : Kind
  pub place : Place
  pub made : assigned_access o ≡ its_own type
  pub is : pl ≡ Some place
  pub word : is_single type ≡ true
  pub seen : is_seen st k place ≡ true

-- by what it stands for
pub target_case : (st : Setting) (k : ℕ) (o : Option Sort) (pl : Option Place) → is_stored_name st k o pl ≡ true → IsTarget st k o pl
target_case st k (Some (n.simple t own)) (Some place) e =
    let two = both (is_single t) (is_seen st k place) e in
    record { type = t; place = place; made = refl; is = refl; word = two.0; seen = two.1 }
target_case st k (Some (n.value t)) (Some place) e =
    let two = both (is_single t) (is_seen st k place) e in
    record { type = t; place = place; made = refl; is = refl; word = two.0; seen = two.1 }
target_case st k (Some (n.simple t own)) None e = absurd (false≢true (both (is_single t) false e).1)
target_case st k (Some (n.value t)) None e = absurd (false≢true (both (is_single t) false e).1)
target_case st k None pl e = absurd (false≢true e)
target_case st k (Some (n.equate v)) pl e = absurd (false≢true e)
target_case st k (Some (n.array t own low high)) pl e = absurd (false≢true e)
target_case st k (Some (n.view t own base)) pl e = absurd (false≢true e)
target_case st k (Some (n.pointer t own)) pl e = absurd (false≢true e)
target_case st k (Some (n.by_reference t)) pl e = absurd (false≢true e)
target_case st k (Some (n.array_parameter t)) pl e = absurd (false≢true e)
target_case st k (Some n.label) pl e = absurd (false≢true e)
target_case st k (Some (n.intrinsic i)) pl e = absurd (false≢true e)
target_case st k (Some (n.procedure p)) pl e = absurd (false≢true e)
target_case st k (Some (n.subroutine p)) pl e = absurd (false≢true e)
target_case st k (Some n.unknown) pl e = absurd (false≢true e)

-- or a result that a name means
result_word : (o : Option Kind) (t : Kind) → is_word_result o ≡ true → o ≡ Some t → is_single t ≡ true
result_word (Some u) t e is = ap (λ (v : Option Kind). is_single (unwrap_or v t)) (sym is) ∙ e
result_word None t e is = absurd (false≢true e)

pub result_target : (st : Setting) (k : ℕ) (o : Option Sort) (r : Option (Kind × Place)) (pl : Option Place) → (x : IsResult st k (result_kind o) r pl)
    → is_word_result (result_kind o) ≡ true → IsTarget st k o pl
result_target st k o r pl x word = record {
  type = x.type;
  place = x.place;
  made = result_made o x.type x.kind';
  is = x.is;
  word = result_word (result_kind o) x.type word x.kind';
  seen = x.seen;
}

-- where a target is located
abbrev pub LeadsTo : Scope → (List ℕ → Option (Kind × Place)) → Setting → List ℕ → Kind → Place → Type 0
LeadsTo c results st x t place = (v : State) → locate_target (read_with c results st) x None v ≡ own_located t (Some place) None v

-- a variable, at its place
name_access : (st : Setting) (k : ℕ) (o : Option Sort) (pl : Option Place) (e : is_stored_name st k o pl ≡ true) → target_access o ≡ its_own (target_case st k o pl e).type
unfolding target_case
name_access st k (Some (n.simple t own)) (Some place) e = refl
name_access st k (Some (n.value t)) (Some place) e = refl
name_access st k (Some (n.simple t own)) None e = absurd (false≢true (both (is_single t) false e).1)
name_access st k (Some (n.value t)) None e = absurd (false≢true (both (is_single t) false e).1)
name_access st k None pl e = absurd (false≢true e)
name_access st k (Some (n.equate v)) pl e = absurd (false≢true e)
name_access st k (Some (n.array t own low high)) pl e = absurd (false≢true e)
name_access st k (Some (n.view t own base)) pl e = absurd (false≢true e)
name_access st k (Some (n.pointer t own)) pl e = absurd (false≢true e)
name_access st k (Some (n.by_reference t)) pl e = absurd (false≢true e)
name_access st k (Some (n.array_parameter t)) pl e = absurd (false≢true e)
name_access st k (Some n.label) pl e = absurd (false≢true e)
name_access st k (Some (n.intrinsic i)) pl e = absurd (false≢true e)
name_access st k (Some (n.procedure p)) pl e = absurd (false≢true e)
name_access st k (Some (n.subroutine p)) pl e = absurd (false≢true e)
name_access st k (Some n.unknown) pl e = absurd (false≢true e)

pub name_leads : (c : Scope) (results : List ℕ → Option (Kind × Place)) (st : Setting) (x : List ℕ) (k : ℕ) (e : is_stored_name st k (c.names x) (c.places x) ≡ true)
    → LeadsTo c results st x (target_case st k (c.names x) (c.places x) e).type (target_case st k (c.names x) (c.places x) e).place
name_leads c results st x k e v =
    let r = target_case st k (c.names x) (c.places x) e in
    ap (λ (a : Access). locate_by (read_with c results st) x a None v) (name_access st k (c.names x) (c.places x) e)
    ∙ ap (λ (o : Option Place). own_located r.type o None v) r.is

-- and a result, at its own
pub given_leads : (c : Scope) (results : List ℕ → Option (Kind × Place)) (st : Setting) (x : List ℕ) (k : ℕ) → ResultsAgree c results
    → (r : IsResult st k (result_kind (c.names x)) (results x) (c.places x)) (word : is_word_result (result_kind (c.names x)) ≡ true)
    → LeadsTo c results st x (result_target st k (c.names x) (results x) (c.places x) r word).type (result_target st k (c.names x) (results x) (c.places x) r word).place
unfolding result_target
given_leads c results st x k agrees r word = result_leads c results st x k agrees r

-- the store behind the value
pub stored_code : (c : Scope) (st : Setting) (x : List ℕ) (k : ℕ) (r : IsTarget st k (c.names x) (c.places x))
    → at_place (c.places x) (λ place. stored (assigned_access (c.names x)) false k place) ≡ stored (its_own r.type) false k r.place
stored_code c st x k r =
    ap (λ (a : Access). at_place (c.places x) (λ place. stored a false k place)) r.made
    ∙ ap (λ (o : Option Place). at_place o (λ place. stored (its_own r.type) false k place)) r.is

-- a store closes
pub stored_closed : (t : Kind) (k : ℕ) (place : Place) → is_single t ≡ true → IsClosed (stored (its_own t) false k place)
stored_closed kind.Integer k (data_word n) e = refl
stored_closed kind.Integer k (above_base n) e = refl
stored_closed kind.Integer k (below_base n) e = refl
stored_closed kind.Integer k (below_return n) e = refl
stored_closed kind.Logical k (data_word n) e = refl
stored_closed kind.Logical k (above_base n) e = refl
stored_closed kind.Logical k (below_base n) e = refl
stored_closed kind.Logical k (below_return n) e = refl
stored_closed kind.Byte k (data_word n) e = refl
stored_closed kind.Byte k (above_base n) e = refl
stored_closed kind.Byte k (below_base n) e = refl
stored_closed kind.Byte k (below_return n) e = refl
stored_closed kind.Double k place e = absurd (false≢true e)

-- ---- assignments

-- the name on the left
abbrev pub named_target : List ℕ → At → Target
named_target x there = stat.Target.plain (tree.Tree.named x tree.Trees.none there)

-- the code of an assignment to it
pub own_code : (c : Context) (st : Setting) (x : List ℕ) (there : At) (right : ℕ → Part) (at : At) (k : ℕ) (r : IsTarget st k (c.scope.names x) (c.scope.places x))
    → piece (Begin at) ⨟ put.assigned c.scope (named_target x there) right k ≡ piece (Begin at) ⨟ (nothing ⨟ right k ⨟ pieces (stored (its_own r.type) false k r.place))
own_code c st x there right at k r = ap (λ (ps : List Piece). piece (Begin at) ⨟ (nothing ⨟ right k ⨟ pieces ps)) (stored_code c.scope st x k r)

-- it is whole
target_whole : (c : Context) (st : Setting) (x : List ℕ) (there : At) (right : ℕ → Part) (at : At) (k : ℕ) → IsTarget st k (c.scope.names x) (c.scope.places x)
    → IsWhole (right k) → IsWhole (piece (Begin at) ⨟ put.assigned c.scope (named_target x there) right k)
target_whole c st x there right at k r whole =
    subst (λ (a : Part). IsWhole a) (sym (own_code c st x there right at k r)) (record {
      closed = λ l ws. closed_last (right k (l + 0 + 0) ws).pieces (stored (its_own r.type) false k r.place) (stored_closed r.type k r.place r.word);
      keeps = λ l ws. whole.keeps (l + 0 + 0) ws;
    })

-- its meaning
pub own_is : (c : Scope) (results : List ℕ → Option (Kind × Place)) (st : Setting) (call : Callee) (x : List ℕ) (there : At)
    (means : ℕ → State → Outcome (List ℕ)) (k : ℕ) (t : Kind) (place : Place) → LeadsTo c results st x t place → (u : State)
    → assigned (read_with c results st) call (named_target x there) means k u
    ≡ then_go (means k u) (λ vs v. store (variable_located t (address_of place v.now)) (kept t vs) v)
own_is c results st call x there means k t place leads u =
    then_same (means k u) (λ vs v. then_go (locate_target h x None v) (λ p s. store p (kept p.kind vs) s))
    (λ vs v. store (variable_located t (address_of place v.now)) (kept t vs) v)
    (λ vs v. ap (λ (o : Outcome Located). then_go o (λ p s. store p (kept p.kind vs) s)) (leads v)) where
      h : Here
      h = read_with c results st

-- and it is performed
target_performs : (c : Context) (results : List ℕ → Option (Kind × Place)) (z : Surroundings) (call : Callee) (d number : ℕ) (x : List ℕ) (there : At)
    (right : ℕ → Part) (means : ℕ → State → Outcome (List ℕ)) (at : At) (k need : ℕ) → (r : IsTarget z.setting k (c.scope.names x) (c.scope.places x))
    → LeadsTo c.scope results z.setting x r.type r.place → 1 ≤ need → IsWhole (right k) → Simulates z d as_value 1 k need (right k) (λ s. means k s)
    → Performs z d k need (piece (Begin at) ⨟ put.assigned c.scope (named_target x there) right k)
    (λ s. stopping number at s (λ u. assigned (read_with c.scope results z.setting) call (named_target x there) means k u))
target_performs c results z call d number x there right means at k need r leads enough whole sim =
    same_performs z d k need (piece (Begin at) ⨟ put.assigned c.scope (named_target x there) right k)
    (piece (Begin at) ⨟ (nothing ⨟ right k ⨟ pieces (stored (its_own r.type) false k r.place)))
    (λ s. stopping number at s (λ u. assigned (read_with c.scope results z.setting) call (named_target x there) means k u))
    (λ s. stopping number at s (λ u. then_go (means k u) (λ vs v. store (variable_located r.type (address_of r.place v.now)) (kept r.type vs) v)))
    (own_code c z.setting x there right at k r)
    (λ s. stopping_same number at s (λ u. assigned (read_with c.scope results z.setting) call (named_target x there) means k u)
    (λ u. then_go (means k u) (λ vs v. store (variable_located r.type (address_of r.place v.now)) (kept r.type vs) v))
    (own_is c.scope results z.setting call x there means k r.type r.place leads))
    (own_words_put z d k need number at r.type r.place (right k) (λ u. means k u) (single_width r.type r.word) r.seen enough whole sim)

-- ---- by the target

-- such a target is a name without an index, of a variable or of a result
pub record IsOwn (c : Scope) (results : List ℕ → Option (Kind × Place)) (st : Setting) (to : Target) (k : ℕ) : Type 0 where
  pub name : List ℕ
  pub there : At
  pub is : to ≡ named_target name there
  pub target : IsTarget st k (c.names name) (c.places name)
  pub leads : ResultsAgree c results → LeadsTo c results st name target.type target.place

own_name : (c : Scope) (results : List ℕ → Option (Kind × Place)) (st : Setting) (x : List ℕ) (there : At) (k : ℕ)
    → is_own_target c results st (named_target x there) k ≡ true → IsOwn c results st (named_target x there) k
unfolding result_target
own_name c results st x there k own =
    ⊎_elim
    (λ variable. record {
      name = x;
      there = there;
      is = refl;
      target = target_case st k (c.names x) (c.places x) variable;
      leads = λ agrees. name_leads c results st x k variable;
    })
    (λ result. let parts = both (is_word_result (result_kind (c.names x))) (is_result st k (result_kind (c.names x)) (results x) (c.places x)) result in
    let r = result_case st k (result_kind (c.names x)) (results x) (c.places x) parts.1 in
    record {
      name = x;
      there = there;
      is = refl;
      target = result_target st k (c.names x) (results x) (c.places x) r parts.0;
      leads = λ agrees. result_leads c results st x k agrees r;
    })
    (either (is_stored_name st k (c.names x) (c.places x)) (is_stored_result st k (c.names x) (results x) (c.places x)) own)

pub own_case : (c : Scope) (results : List ℕ → Option (Kind × Place)) (st : Setting) (to : Target) (k : ℕ) → is_own_target c results st to k ≡ true
    → IsOwn c results st to k
own_case c results st (stat.Target.plain (tree.Tree.named x tree.Trees.none there)) k own = own_name c results st x there k own
own_case c results st (stat.Target.plain (tree.Tree.named x (tree.Trees.and i is) there)) k own = absurd (false≢true own)
own_case c results st (stat.Target.plain (tree.Tree.number w)) k own = absurd (false≢true own)
own_case c results st (stat.Target.plain (tree.Tree.wide w)) k own = absurd (false≢true own)
own_case c results st (stat.Target.plain (tree.Tree.text bytes)) k own = absurd (false≢true own)
own_case c results st (stat.Target.plain (tree.Tree.truth b)) k own = absurd (false≢true own)
own_case c results st (stat.Target.plain (tree.Tree.address x es there)) k own = absurd (false≢true own)
own_case c results st (stat.Target.plain (tree.Tree.unary o a there)) k own = absurd (false≢true own)
own_case c results st (stat.Target.plain (tree.Tree.binary o a b there)) k own = absurd (false≢true own)
own_case c results st (stat.Target.plain (tree.Tree.shift o a by there)) k own = absurd (false≢true own)
own_case c results st (stat.Target.plain (tree.Tree.field a start size there)) k own = absurd (false≢true own)
own_case c results st (stat.Target.plain (tree.Tree.transfer t a there)) k own = absurd (false≢true own)
own_case c results st (stat.Target.plain (tree.Tree.bytes o a b count there)) k own = absurd (false≢true own)
own_case c results st (stat.Target.field r start size) k own = absurd (false≢true own)
own_case c results st (stat.Target.address x there) k own = absurd (false≢true own)

pub own_whole : (c : Context) (results : List ℕ → Option (Kind × Place)) (st : Setting) (to : Target) (right : ℕ → Part) (at : At) (k : ℕ)
    → IsOwn c.scope results st to k → IsWhole (right (waiting to k)) → IsWhole (piece (Begin at) ⨟ put.assigned c.scope to right k)
own_whole c results st to right at k r whole =
    subst (λ (t : Target). IsWhole (piece (Begin at) ⨟ put.assigned c.scope t right k)) (sym r.is)
    (target_whole c st r.name r.there right at k r.target (subst (λ (t : Target). IsWhole (right (waiting t k))) r.is whole))

pub own_performs : (c : Context) (results : List ℕ → Option (Kind × Place)) (z : Surroundings) (call : Callee) (d number : ℕ) (to : Target)
    (right : ℕ → Part) (means : ℕ → State → Outcome (List ℕ)) (at : At) (k need more : ℕ) → IsOwn c.scope results z.setting to k → ResultsAgree c.scope results
    → 1 ≤ need → waiting to k + more ≤ k + need → IsWhole (right (waiting to k))
    → Simulates z d as_value 1 (waiting to k) more (right (waiting to k)) (λ s. means (waiting to k) s)
    → Performs z d k need (piece (Begin at) ⨟ put.assigned c.scope to right k)
    (λ s. stopping number at s (λ u. assigned (read_with c.scope results z.setting) call to means k u))
own_performs c results z call d number to right means at k need more r agrees enough fits whole sim =
    let less = subst (λ (t : Target). waiting t k + more ≤ k + need) r.is fits in
    subst (λ (t : Target). Performs z d k need (piece (Begin at) ⨟ put.assigned c.scope t right k)
    (λ s. stopping number at s (λ u. assigned (read_with c.scope results z.setting) call t means k u))) (sym r.is)
    (target_performs c results z call d number r.name r.there right means at k need r.target (r.leads agrees) enough
    (subst (λ (t : Target). IsWhole (right (waiting t k))) r.is whole)
    (more_room z d 1 k more need (right k) (λ s. means k s) (omega (arith, less))
    (subst (λ (t : Target). Simulates z d as_value 1 (waiting t k) more (right (waiting t k)) (λ s. means (waiting t k) s)) r.is sim)))
