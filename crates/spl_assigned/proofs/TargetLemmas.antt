-- Where answers are put: targets that are names without an index, each by one store, with X or the word of the name before it where its place is
-- counted from the top.
use Rattle.std.proofs.Common.{◌≡◌, inl, inr, ℕ, ◌+◌, ◌≤◌, Bool, true, false, List, refl, sym, ap, subst, ◌∙◌, arith}
use Rattle.std.specs.Prelude.{Option, Some, None, ◌||◌}
use Rattle.std.proofs.Math.Logic.{⊎_elim}
use Rattle.spl_wide.specs.spl_tree.declared.expressions.Kind.{Kind}
use Rattle.spl_wide.specs.spl_tree.declared.expressions.Kind.TheVariants as kind
use Rattle.spl_wide.specs.spl_tree.declared.names_and_places.At.{At}
use Rattle.spl_wide.specs.spl_tree.StatementTrees.{Target}
use Rattle.spl_wide.specs.spl_branch.declared.pieces.Piece.{Piece}
use Rattle.spl_wide.specs.spl_branch.declared.pieces.Piece.TheVariants.{Begin}
use Rattle.spl_wide.specs.spl_meaning.Kinds.{width}
use Rattle.spl_wide.specs.spl_meaning.Operations.{kept}
use Rattle.spl_wide.specs.spl_meaning.Places.{Place, data_word, above_base, below_base, below_return}
use Rattle.spl_wide.specs.spl_meaning.References.{Located, its_own, access_of, address_of, variable_located, own_located, led_located, store}
use Rattle.spl_wide.specs.spl_meaning.States.{State, Outcome, then_go}
use Rattle.spl_wide.specs.spl_meaning.Statements.{assigned}
use Rattle.spl_wide.specs.spl_meaning.Values.{Who, Callee}
use Rattle.spl_wide.specs.spl_code.Operands.{mode_of}
use Rattle.spl_wide.specs.spl_code.Parts.{Part, pieces, piece, nothing, ◌⨟◌}
use Rattle.spl_wide.specs.spl_code.Stores.{from_top, stored, own_stored, cell_stored}
use Rattle.spl_wide.specs.spl_statement_code.Assignments as put
use Rattle.spl_wide.specs.spl_statement_code.Landings.{Context}
use Rattle.spl_wide.specs.spl_follow.Simulating.{Surroundings}
use Rattle.spl_wide.specs.spl_values.Reached.{is_reached}
use Rattle.spl_wide.proofs.spl_values_proofs.VariableLemmas.{both}
use Rattle.spl_wide.proofs.spl_operands_proofs.OperandLemmas.{place_refers, first_element}
use Rattle.spl_wide.proofs.spl_variables_proofs.OwnLemmas.{own_refers}
use Rattle.spl_wide.specs.spl_tops.Seen.{is_seen}
use Rattle.spl_wide.proofs.spl_word_operators_proofs.OperatorLemmas.{either}
use Rattle.spl_wide.specs.spl_names.Names.{read_with, is_wide_name, is_wide_led}
use Rattle.spl_wide.proofs.spl_names_proofs.LedLemmas.{single_width, led_case}
use Rattle.spl_wide.proofs.spl_names_proofs.WideLedLemmas as wide
use Rattle.spl_wide.proofs.spl_names_proofs.WideNameLemmas.{wide_case}
use Rattle.spl_wide.specs.spl_whom.Whom.{is_double_result}
use Rattle.spl_wide.specs.spl_targets.Results.{result_kind, is_result, ResultsAgree}
use Rattle.spl_wide.specs.spl_targets.Targets.{is_own_target, is_led_target, is_word_target}
use Rattle.spl_wide.proofs.spl_targets_proofs.ResultLemmas.{result_case, result_leads}
use Rattle.spl_wide.proofs.spl_targets_proofs.OwnLemmas.{named_target, own_code, own_is, own_case}
use Rattle.spl_wide.proofs.spl_targets_proofs.ElementLemmas.{left_access, led_code, led_is}
use Rattle.spl_wide.specs.Wide.{is_wide_result, is_wide_target}
use Rattle.spl_wide.proofs.TargetLemmas as doubles
use Rattle.spl_wide.proofs.AssignLemmas.{IsStored, LeadsTo, variable_stored, variable_leads, double_kind, result_stored, assign_code, assign_is}
use Rattle.spl_assigned.specs.Assigned.{PutsStraight, Puts}

-- a target without an index, and what puts n words there
pub record IsPut (c : Context) (results : List ℕ → Option (Kind × Place)) (z : Surroundings) (call : Callee) (to : Target) (k n need : ℕ) : Type 0 where
  pub ps : List Piece
  pub located : State → Outcome Located
  pub puts : Puts z k n need ps located
  pub code : (right : ℕ → Part) (at : At) → piece (Begin at) ⨟ put.assigned c.scope to right k ≡ piece (Begin at) ⨟ (nothing ⨟ right k ⨟ pieces ps)
  pub is : (means : ℕ → State → Outcome (List ℕ)) (u : State) → assigned (read_with c.scope results z.setting) call to means k u
      ≡ then_go (means k u) (λ vs v. then_go (located v) (λ p y. store p (kept p.kind vs) y))

-- ---- by its own words

-- a place that does not move has one store
own_straight : (z : Surroundings) (k : ℕ) (t : Kind) (place : Place) → is_reached z.setting k place ≡ true
    → PutsStraight z k (width t) (own_stored t false (mode_of k place)) (λ v. own_located t (Some place) None v)
own_straight z k t place reached = record {
  type = t;
  mode = mode_of k place;
  indirect = false;
  is = refl;
  wide = refl;
  refers = λ s m matches room. own_refers z.setting t k (k + width t) place s m reached matches;
}

own_puts : (z : Surroundings) (k need : ℕ) (t : Kind) (place : Place) → is_seen z.setting k place ≡ true
    → Puts z k (width t) need (stored (its_own t) false k place) (λ v. own_located t (Some place) None v)
own_puts z k need t (data_word a) seen = inl (own_straight z k t (data_word a) seen)
own_puts z k need t (above_base a) seen = inl (own_straight z k t (above_base a) seen)
own_puts z k need t (below_base a) seen = inl (own_straight z k t (below_base a) seen)
own_puts z k need t (below_return a) seen =
    inr (inl (record { type = t; below = a; is = refl; wide = refl; seen = seen; leads = λ s. refl }))

own_put : (c : Context) (results : List ℕ → Option (Kind × Place)) (z : Surroundings) (call : Callee) (x : List ℕ) (there : At) (k need : ℕ) (t : Kind)
    (place : Place) → is_seen z.setting k place ≡ true
    → ((right : ℕ → Part) (at : At) → piece (Begin at) ⨟ put.assigned c.scope (named_target x there) right k
    ≡ piece (Begin at) ⨟ (nothing ⨟ right k ⨟ pieces (stored (its_own t) false k place)))
    → ((means : ℕ → State → Outcome (List ℕ)) (u : State) → assigned (read_with c.scope results z.setting) call (named_target x there) means k u
    ≡ then_go (means k u) (λ vs v. store (variable_located t (address_of place v.now)) (kept t vs) v))
    → IsPut c results z call (named_target x there) k (width t) need
own_put c results z call x there k need t place seen code is = record {
  ps = stored (its_own t) false k place;
  located = λ v. own_located t (Some place) None v;
  puts = own_puts z k need t place seen;
  code = code;
  is = is;
}

-- ---- by what its word leads to

led_straight : (z : Surroundings) (k : ℕ) (far : Bool) (t : Kind) (place : Place) → is_reached z.setting k place ≡ true → far ≡ z.setting.split
    → PutsStraight z k (width t) (cell_stored t false (mode_of k place)) (λ v. led_located far t (Some place) 0 v)
led_straight z k far t place reached side = record {
  type = t;
  mode = mode_of k place;
  indirect = true;
  is = refl;
  wide = refl;
  refers = λ s m matches room. place_refers z.setting t far false 0 k (k + width t) place s m reached side matches room (λ cell. first_element t cell m);
}

led_puts : (z : Surroundings) (k need : ℕ) (far : Bool) (t : Kind) (place : Place) → is_seen z.setting k place ≡ true → far ≡ z.setting.split
    → width t + 1 ≤ need → Puts z k (width t) need (cell_stored t (from_top place) (mode_of k place)) (λ v. led_located far t (Some place) 0 v)
led_puts z k need far t (data_word a) seen side room = inl (led_straight z k far t (data_word a) seen side)
led_puts z k need far t (above_base a) seen side room = inl (led_straight z k far t (above_base a) seen side)
led_puts z k need far t (below_base a) seen side room = inl (led_straight z k far t (below_base a) seen side)
led_puts z k need far t (below_return a) seen side room =
    inr (inr (record { type = t; below = a; far = far; is = refl; wide = refl; seen = seen; side = side; room = room; leads = λ s. refl }))

led_put : (c : Context) (results : List ℕ → Option (Kind × Place)) (z : Surroundings) (call : Callee) (x : List ℕ) (there : At) (k need : ℕ) (far : Bool)
    (t : Kind) (place : Place) → is_seen z.setting k place ≡ true → far ≡ z.setting.split → width t + 1 ≤ need
    → ((right : ℕ → Part) (at : At) → piece (Begin at) ⨟ put.assigned c.scope (named_target x there) right k
    ≡ piece (Begin at) ⨟ (nothing ⨟ right k ⨟ pieces (cell_stored t (from_top place) (mode_of k place))))
    → ((means : ℕ → State → Outcome (List ℕ)) (u : State) → assigned (read_with c.scope results z.setting) call (named_target x there) means k u
    ≡ then_go (means k u) (λ vs v. then_go (led_located far t (Some place) 0 v) (λ p y. store p (kept p.kind vs) y)))
    → IsPut c results z call (named_target x there) k (width t) need
led_put c results z call x there k need far t place seen side room code is = record {
  ps = cell_stored t (from_top place) (mode_of k place);
  located = λ v. led_located far t (Some place) 0 v;
  puts = led_puts z k need far t place seen side room;
  code = code;
  is = is;
}

-- ---- targets of one word

pub word_put : (may : Who → Bool) (c : Context) (results : List ℕ → Option (Kind × Place)) (z : Surroundings) (call : Callee) (x : List ℕ) (there : At)
    (k need : ℕ) → ResultsAgree c.scope results → is_word_target may c.scope results z.setting (named_target x there) k ≡ true → 2 ≤ need
    → IsPut c results z call (named_target x there) k 1 need
word_put may c results z call x there k need agrees is room =
    ⊎_elim
    (λ own. let r = own_case c.scope results z.setting (named_target x there) k own in
    subst (λ (t : Target). IsPut c results z call t k 1 need) (sym r.is)
    (subst (λ (n : ℕ). IsPut c results z call (named_target r.name r.there) k n need) (single_width r.target.type r.target.word)
    (own_put c results z call r.name r.there k need r.target.type r.target.place r.target.seen
    (λ right at. own_code c z.setting r.name r.there right at k r.target)
    (λ means u. own_is c.scope results z.setting call r.name r.there means k r.target.type r.target.place (r.leads agrees) u))))
    (λ others. let led = alone (is_led_target may c.scope z.setting (named_target x there) k) others in
    let r = led_case z.setting x k (c.scope.names x) (c.scope.places x) led in
    let left = left_access z.setting k (c.scope.names x) (c.scope.places x) led in
    let one = single_width r.type r.word in
    subst (λ (n : ℕ). IsPut c results z call (named_target x there) k n need) one
    (led_put c results z call x there k need r.far r.type r.place r.seen r.side (omega (arith, room, one))
    (λ right at. led_code c z.setting x there right at k r left.1)
    (λ means u. led_is c.scope results z.setting call x there means k r left.0 u)))
    (either (is_own_target c.scope results z.setting (named_target x there) k) (is_led_target may c.scope z.setting (named_target x there) k || false) is)
  where
    alone : (b : Bool) → (b || false) ≡ true → b ≡ true
    alone true e = refl
    alone false e = e

-- ---- of two

-- a DOUBLE variable or result
double_put : (c : Context) (results : List ℕ → Option (Kind × Place)) (z : Surroundings) (call : Callee) (x : List ℕ) (there : At) (k need : ℕ)
    (r : IsStored z.setting k (c.scope.names x) (c.scope.places x)) → LeadsTo c.scope results z.setting x r.place
    → IsPut c results z call (named_target x there) k 2 need
double_put c results z call x there k need r leads =
    own_put c results z call x there k need kind.Double r.place r.seen (λ right at. assign_code c z.setting x there right at k r)
    (λ means u. assign_is c.scope results z.setting call x there means k r.place leads u)

pub wide_put : (may : Who → Bool) (c : Context) (results : List ℕ → Option (Kind × Place)) (z : Surroundings) (call : Callee) (x : List ℕ) (there : At)
    (k need : ℕ) → ResultsAgree c.scope results → is_wide_target may c.scope results z.setting (named_target x there) k ≡ true → 3 ≤ need
    → IsPut c results z call (named_target x there) k 2 need
unfolding variable_stored result_stored
wide_put may c results z call x there k need agrees is room =
    ⊎_elim
    (λ variable. ⊎_elim
    (λ one. let r = wide_case z.setting x k (c.scope.names x) (c.scope.places x) one in
    double_put c results z call x there k need (variable_stored z.setting x k (c.scope.names x) (c.scope.places x) r) (variable_leads c.scope results z.setting x k r))
    (λ led. let r = wide.led_case z.setting k (access_of (c.scope.names x)) (c.scope.places x) led in
    let name = wide.leading_case z.setting x k (c.scope.names x) (c.scope.places x) led in
    led_put c results z call x there k need r.far kind.Double r.place r.seen r.side room
    (λ right at. doubles.led_code c z.setting x there right at k name r)
    (λ means u. doubles.led_is c.scope results z.setting call x there means k name r u))
    (either (is_wide_name z.setting k (c.scope.names x) (c.scope.places x)) (is_wide_led z.setting k (access_of (c.scope.names x)) (c.scope.places x)) variable))
    (λ result. let parts = both (is_double_result (result_kind (c.scope.names x))) (is_result z.setting k (result_kind (c.scope.names x)) (results x) (c.scope.places x)) result in
    let r = result_case z.setting k (result_kind (c.scope.names x)) (results x) (c.scope.places x) parts.1 in
    let double = double_kind (result_kind (c.scope.names x)) r.type parts.0 r.kind' in
    double_put c results z call x there k need (result_stored z.setting k (c.scope.names x) (results x) (c.scope.places x) r double)
    (λ v. result_leads c.scope results z.setting x k agrees r v ∙ ap (λ (t : Kind). own_located t (Some r.place) None v) double))
    (either (is_wide_name z.setting k (c.scope.names x) (c.scope.places x) || is_wide_led z.setting k (access_of (c.scope.names x)) (c.scope.places x))
    (is_wide_result z.setting k (c.scope.names x) (results x) (c.scope.places x)) is)
