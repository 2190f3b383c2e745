-- Targets that are covered are found, with the words of their values; and what is assigned to them is stored.
use Rattle.std.proofs.Common.{◌≡◌, ℕ, ◌+◌, Bool, true, false, List, length, Option, Some, None, refl, sym, ap, subst, ◌∙◌}
use Rattle.std.specs.Prelude.{is_some, ◌&&◌, ◌||◌}
use Rattle.std.proofs.lemmas.Bool.{false≢true}
use Rattle.std.proofs.Math.Logic.{⊎_elim}
use Rattle.spl_safe_values.specs.spl_tree.declared.expressions.Kind.{Kind}
use Rattle.spl_safe_values.specs.spl_tree.declared.expressions.Kind.TheVariants as kind
use Rattle.spl_safe_values.specs.spl_tree.declared.names_and_places.At.{At}
use Rattle.spl_safe_values.specs.spl_tree.Trees as tree
use Rattle.spl_safe_values.specs.spl_tree.Trees.{Tree, Constant}
use Rattle.spl_safe_values.specs.spl_tree.StatementTrees as stat
use Rattle.spl_safe_values.specs.spl_tree.StatementTrees.{Target}
use Rattle.spl_safe_values.specs.spl_meaning.Kinds.{width, named_operand}
use Rattle.spl_safe_values.specs.spl_meaning.Names as n
use Rattle.spl_safe_values.specs.spl_meaning.Names.{Sort}
use Rattle.spl_safe_values.specs.spl_meaning.Operations.{kept}
use Rattle.spl_safe_values.specs.spl_meaning.Pending.{waiting}
use Rattle.spl_safe_values.specs.spl_meaning.Places.{Place}
use Rattle.spl_safe_values.specs.spl_meaning.References.{Here, Setting, Located, Access, its_own, its_result, address_of, word_at, placed_word, access_of, target_access, locate_by, locate_target}
use Rattle.spl_safe_values.specs.spl_meaning.States.{State, Outcome, done}
use Rattle.spl_safe_values.specs.spl_meaning.Statements.{cell_stored, assigned}
use Rattle.spl_safe_values.specs.spl_meaning.Values.{Who, Callee, small_constant}
use Rattle.spl_safe_values.specs.spl_code.Calls.{Scope}
use Rattle.spl_safe_values.specs.spl_covered.Covered.{is_covered}
use Rattle.spl_safe_values.specs.spl_covered.spl_whom.Whom.{is_word_result, is_double_result}
use Rattle.spl_safe_values.specs.spl_names.Names.{read_with, has_reached, has_seen, is_led, is_led_element, is_wide_name, is_wide_element, is_wide_led}
use Rattle.spl_stores.specs.spl_field_stores.Laws.{is_within}
use Rattle.spl_stores.specs.spl_targets.Results.{result_kind, same_kind, is_result}
use Rattle.spl_stores.specs.spl_targets.Targets.{holds_words, is_own, has_fields, has_field_elements, is_stored_name, is_stored_result, has_result_fields, holds_result, is_word_target}
use Rattle.spl_stores.specs.spl_wide.Wide.{is_wide_result, is_wide_target}
use Rattle.spl_safe_values.specs.Safe.{SafeCalls}
use Rattle.spl_safe_values.proofs.spl_values_proofs.VariableLemmas.{both}
use Rattle.spl_safe_values.proofs.spl_word_operators_proofs.OperatorLemmas.{either}
use Rattle.spl_safe_values.proofs.Came.{Comes, Free, One, Two, came_go, comes_go, comes_more, comes_one}
use Rattle.spl_safe_values.proofs.Stores.{word_comes, placed_lost, store_comes, kept_wide, field_stored_comes}
use Rattle.spl_safe_values.proofs.Locations.{led_kind, IsLed, has_location, has_elements, name_comes, element_comes, result_comes}
use Rattle.spl_safe_values.proofs.Names.{seen_some, single_wide, Found, FoundElements, location_wide, elements_located, single_found, led_found, element_found, wide_name_found, wide_led_found, wide_element_found}
use Rattle.spl_safe_values.proofs.ValueLemmas.{indices_come}

-- ---- how a name leads on the left of :=

-- as it does elsewhere, where it has a location
left_is : (o : Option Sort) (place : Option Place) → has_location (access_of o) place ≡ true → target_access o ≡ access_of o
left_is (Some (n.procedure p)) place e = absurd (false≢true e)
left_is (Some (n.subroutine p)) place e = absurd (false≢true e)
left_is None place e = refl
left_is (Some (n.equate v)) place e = refl
left_is (Some (n.simple t own)) place e = refl
left_is (Some (n.array t own low high)) place e = refl
left_is (Some (n.view t own base)) place e = refl
left_is (Some (n.pointer t own)) place e = refl
left_is (Some (n.value t)) place e = refl
left_is (Some (n.by_reference t)) place e = refl
left_is (Some (n.array_parameter t)) place e = refl
left_is (Some n.label) place e = refl
left_is (Some (n.intrinsic i)) place e = refl
left_is (Some n.unknown) place e = refl

-- or to the result, where it means one
result_is : (o : Option Sort) (t : Kind) → result_kind o ≡ Some t → target_access o ≡ its_result
result_is (Some (n.procedure p)) t e = refl
result_is (Some (n.subroutine p)) t e = refl
result_is o t e = cc

kinds_same : (t u : Kind) → same_kind t u ≡ true → t ≡ u
kinds_same kind.Integer kind.Integer e = refl
kinds_same kind.Logical kind.Logical e = refl
kinds_same kind.Byte kind.Byte e = refl
kinds_same kind.Double kind.Double e = refl
kinds_same t u e = absurd (false≢true e)

-- ---- what is known of targets

-- a result of one word, and of two
word_result_wide : (o : Option Kind) (t : Kind) → is_word_result o ≡ true → o ≡ Some t → width t ≡ 1
word_result_wide (Some u) t e is = let q : u ≡ t = cc in sym (ap width q) ∙ single_wide u e
word_result_wide None t e is = absurd (false≢true e)

double_result_wide : (o : Option Kind) (t : Kind) → is_double_result o ≡ true → o ≡ Some t → width t ≡ 2
double_result_wide (Some kind.Double) t e is = let q : kind.Double ≡ t = cc in sym (ap width q)
double_result_wide o t e is = absurd (false≢true e)

-- a variable of its own has a location
own_location : (st : Setting) (k : ℕ) (a : Access) (place : Option Place) → is_own st k a place ≡ true → has_location a place ≡ true
own_location st k (its_own t) place e = seen_some st k place e
own_location st k a place e = absurd (false≢true e)

-- a name that is stored
stored_found : (st : Setting) (k : ℕ) (o : Option Sort) (place : Option Place) → is_stored_name st k o place ≡ true → Found (access_of o) place 1
stored_found st k (Some (n.simple t own)) place e = single_found st k t place e
stored_found st k (Some (n.value t)) place e = single_found st k t place e
stored_found st k o place e = absurd (false≢true e)

reached_some : (st : Setting) (k : ℕ) (place : Option Place) → has_reached st k place ≡ true → is_some place ≡ true
reached_some st k (Some p) e = refl
reached_some st k None e = absurd (false≢true e)

-- the word of a pointer
cell_comes : (o : Option Place) (v : ℕ) → is_some o ≡ true → Comes Free (cell_stored o v)
cell_comes (Some p) v e = record {
  is = λ s h. came_go Free Free (word_at false (address_of p s.now) s) (λ w t. done tt (placed_word false (address_of p t.now) v t))
      ((word_comes false (address_of p s.now)).is s h) (λ w _. record { is = λ t f. (placed_lost false (address_of p t.now) v t f, tt) });
}
cell_comes None v e = absurd (false≢true e)

-- ---- targets

module _ (may : Who → Bool) (c : Scope) (results : List ℕ → Option (Kind × Place)) (st : Setting) (call : Callee) (calls : SafeCalls may c.names call) where
  abbrev here : Here
  here = read_with c results st

  -- a location of so many words
  abbrev Wide : ℕ → Located → Type 0
  Wide words p = width p.kind ≡ words

  name_located : (x : List ℕ) → has_location (access_of (c.names x)) (c.places x) ≡ true → Comes (IsLed (access_of (c.names x))) (locate_target here x None)
  name_located x e =
      subst (λ (a : Access). Comes (IsLed (access_of (c.names x))) (locate_by here x a None)) (sym (left_is (c.names x) (c.places x) e))
      (name_comes here x (access_of (c.names x)) e)

  element_located : (x : List ℕ) (i : Option ℕ) → has_elements (access_of (c.names x)) (c.places x) ≡ true
      → Comes (IsLed (access_of (c.names x))) (locate_target here x i)
  element_located x i e =
      subst (λ (a : Access). Comes (IsLed (access_of (c.names x))) (locate_by here x a i))
      (sym (left_is (c.names x) (c.places x) (elements_located (access_of (c.names x)) (c.places x) e)))
      (element_comes here x (access_of (c.names x)) i e)

  result_located : (x : List ℕ) (k : ℕ) → is_result st k (result_kind (c.names x)) (results x) (c.places x) ≡ true
      → Comes (λ p. result_kind (c.names x) ≡ Some p.kind) (locate_target here x None)
  result_located x k e = by (result_kind (c.names x)) refl (results x) refl e
    where
      by : (o : Option Kind) → result_kind (c.names x) ≡ o → (r : Option (Kind × Place)) → results x ≡ r → is_result st k o r (c.places x) ≡ true
          → Comes (λ p. result_kind (c.names x) ≡ Some p.kind) (locate_target here x None)
      by (Some t) is (Some r) found h =
          let two = both (same_kind t r.0) (has_seen st k (c.places x)) h in
          subst (λ (a : Access). Comes (λ p. result_kind (c.names x) ≡ Some p.kind) (locate_by here x a None)) (sym (result_is (c.names x) t is))
          (comes_more (result_comes t (results x) r found (kinds_same t r.0 two.0)) (λ p same. is ∙ ap Some (sym same)))
      by (Some t) is None found h = absurd (false≢true h)
      by None is r found h = absurd (false≢true h)

  -- with so many words
  name_wide : (x : List ℕ) (words : ℕ) → Found (access_of (c.names x)) (c.places x) words → Comes (Wide words) (locate_target here x None)
  name_wide x words r =
      comes_more (name_located x r.found) (λ p led. location_wide (led_kind (access_of (c.names x))) r.kind'.type p.kind words r.kind'.is r.kind'.wide led)

  element_wide : (x : List ℕ) (words : ℕ) (i : Option ℕ) → FoundElements (access_of (c.names x)) (c.places x) words
      → Comes (Wide words) (locate_target here x i)
  element_wide x words i r =
      comes_more (element_located x i r.found) (λ p led. location_wide (led_kind (access_of (c.names x))) r.kind'.type p.kind words r.kind'.is r.kind'.wide led)

  -- what is assigned, behind its parts
  named_assigned : (x : List ℕ) (at : At) (k words : ℕ) (value_at : ℕ → State → Outcome (List ℕ)) → Comes (Wide words) (locate_target here x None)
      → Comes (λ vs. length vs ≡ words) (value_at k) → Comes Free (assigned here call (stat.Target.plain (tree.Tree.named x tree.Trees.none at)) value_at k)
  named_assigned x at k words value_at found h =
      comes_go h (λ vs long. comes_go found (λ p wide. store_comes p (kept p.kind vs) (kept_wide p.kind vs ∙ long ∙ sym wide)))

  element_assigned : (x : List ℕ) (i : Tree) (at : At) (k words : ℕ) (value_at : ℕ → State → Outcome (List ℕ)) → is_covered may c st i k ≡ true
      → ((j : Option ℕ) → Comes (Wide words) (locate_target here x j)) → Comes (λ vs. length vs ≡ words) (value_at (k + 1))
      → Comes Free (assigned here call (stat.Target.plain (tree.Tree.named x (tree.Trees.and i tree.Trees.none) at)) value_at k)
  element_assigned x i at k words value_at covered found h =
      comes_go (indices_come may c results st call calls i k covered) (λ j _. comes_go h (λ vs long. comes_go (found j) (λ p wide.
      store_comes p (kept p.kind vs) (kept_wide p.kind vs ∙ long ∙ sym wide))))

  field_assigned : (x : List ℕ) (at : At) (start size : Constant) (k : ℕ) (value_at : ℕ → State → Outcome (List ℕ)) → Comes Free (locate_target here x None)
      → Comes One (value_at k) → Comes Free (assigned here call (stat.Target.field (tree.Tree.named x tree.Trees.none at) start size) value_at k)
  field_assigned x at start size k value_at found h =
      comes_go h (λ vs one. comes_go found (λ p _. field_stored_comes p (small_constant c.names start) (small_constant c.names size) vs one))

  element_field_assigned : (x : List ℕ) (i : Tree) (at : At) (start size : Constant) (k : ℕ) (value_at : ℕ → State → Outcome (List ℕ))
      → is_covered may c st i k ≡ true → ((j : Option ℕ) → Comes Free (locate_target here x j)) → Comes One (value_at (k + 1))
      → Comes Free (assigned here call (stat.Target.field (tree.Tree.named x (tree.Trees.and i tree.Trees.none) at) start size) value_at k)
  element_field_assigned x i at start size k value_at covered found h =
      comes_go (indices_come may c results st call calls i k covered) (λ j _. comes_go h (λ vs one. comes_go (found j) (λ p _.
      field_stored_comes p (small_constant c.names start) (small_constant c.names size) vs one)))

  -- of names and of what they lead to, in one word
  name_field : (x : List ℕ) (k : ℕ) → has_fields st k (c.names x) (c.places x) ≡ true → has_location (access_of (c.names x)) (c.places x) ≡ true
  name_field x k e =
      let two = both (holds_words (named_operand (c.names x))) (is_own st k (access_of (c.names x)) (c.places x) || is_led st k (access_of (c.names x)) (c.places x)) e in
      ⊎_elim (λ own. own_location st k (access_of (c.names x)) (c.places x) own) (λ led. (led_found st k (access_of (c.names x)) (c.places x) led).found)
      (either (is_own st k (access_of (c.names x)) (c.places x)) (is_led st k (access_of (c.names x)) (c.places x)) two.1)

  pub word_target_comes : (to : Target) (k : ℕ) (value_at : ℕ → State → Outcome (List ℕ)) → is_word_target may c results st to k ≡ true
      → Comes One (value_at (waiting to k)) → Comes Free (assigned here call to value_at k)
  word_target_comes (stat.Target.plain (tree.Tree.named x tree.Trees.none at)) k value_at e h =
      let stored = is_stored_name st k (c.names x) (c.places x) in
      let result = is_stored_result st k (c.names x) (results x) (c.places x) in
      let led = is_led st k (access_of (c.names x)) (c.places x) in
      ⊎_elim
      (λ own. ⊎_elim (λ name. named_assigned x at k 1 value_at (name_wide x 1 (stored_found st k (c.names x) (c.places x) name)) h)
      (λ means. let two = both (is_word_result (result_kind (c.names x))) (is_result st k (result_kind (c.names x)) (results x) (c.places x)) means in
      named_assigned x at k 1 value_at (comes_more (result_located x k two.1) (λ p is. word_result_wide (result_kind (c.names x)) p.kind two.0 is)) h)
      (either stored result own))
      (λ other. ⊎_elim (λ leads. named_assigned x at k 1 value_at (name_wide x 1 (led_found st k (access_of (c.names x)) (c.places x) leads)) h)
      (λ none. absurd (false≢true none)) (either led false other)) (either (stored || result) (led || false) e)
  word_target_comes (stat.Target.plain (tree.Tree.named x (tree.Trees.and i tree.Trees.none) at)) k value_at e h =
      let led = is_led_element st k (access_of (c.names x)) (c.places x) && is_covered may c st i k in
      ⊎_elim (λ leads. let two = both (is_led_element st k (access_of (c.names x)) (c.places x)) (is_covered may c st i k) leads in
      element_assigned x i at k 1 value_at two.1 (λ j. element_wide x 1 j (element_found st k (access_of (c.names x)) (c.places x) two.0)) h)
      (λ none. absurd (false≢true none)) (either led false e)
  word_target_comes (stat.Target.field (tree.Tree.named x tree.Trees.none at) start size) k value_at e h =
      let within = is_within (small_constant c.names start) (small_constant c.names size) in
      let fields = has_fields st k (c.names x) (c.places x) in
      let result = has_result_fields st k (c.names x) (results x) (c.places x) in
      ⊎_elim (λ named. field_assigned x at start size k value_at
      (comes_more (name_located x (name_field x k (both within fields named).1)) (λ p _. tt)) h)
      (λ means. let two = both (holds_result (result_kind (c.names x))) (is_result st k (result_kind (c.names x)) (results x) (c.places x)) (both within result means).1 in
      field_assigned x at start size k value_at (comes_more (result_located x k two.1) (λ p _. tt)) h)
      (either (within && fields) (within && result) e)
  word_target_comes (stat.Target.field (tree.Tree.named x (tree.Trees.and i tree.Trees.none) at) start size) k value_at e h =
      let within = is_within (small_constant c.names start) (small_constant c.names size) in
      let elements = has_field_elements st k (c.names x) (c.places x) in
      ⊎_elim (λ named. let two = both elements (is_covered may c st i k) (both within (elements && is_covered may c st i k) named).1 in
      let led = both (holds_words (named_operand (c.names x))) (is_led_element st k (access_of (c.names x)) (c.places x)) two.0 in
      element_field_assigned x i at start size k value_at two.1
      (λ j. comes_more (element_located x j (element_found st k (access_of (c.names x)) (c.places x) led.1).found) (λ p _. tt)) h)
      (λ none. absurd (false≢true none)) (either (within && (elements && is_covered may c st i k)) false e)
  word_target_comes (stat.Target.address x at) k value_at e h =
      ⊎_elim (λ reached. comes_go h (λ vs one. comes_one vs one (λ v. cell_comes (c.places x) v (reached_some st k (c.places x) reached))))
      (λ none. absurd (false≢true none)) (either (has_reached st k (c.places x)) false e)
  word_target_comes to k value_at e h = absurd (false≢true e)

  -- and in two
  pub wide_target_comes : (to : Target) (k : ℕ) (value_at : ℕ → State → Outcome (List ℕ)) → is_wide_target may c results st to k ≡ true
      → Comes Two (value_at (waiting to k)) → Comes Free (assigned here call to value_at k)
  wide_target_comes (stat.Target.plain (tree.Tree.named x tree.Trees.none at)) k value_at e h =
      let own = is_wide_name st k (c.names x) (c.places x) in
      let led = is_wide_led st k (access_of (c.names x)) (c.places x) in
      let result = is_wide_result st k (c.names x) (results x) (c.places x) in
      ⊎_elim
      (λ variable. named_assigned x at k 2 value_at (name_wide x 2 (⊎_elim (λ name. wide_name_found st k (c.names x) (c.places x) name)
      (λ leads. wide_led_found st k (access_of (c.names x)) (c.places x) leads) (either own led variable))) h)
      (λ means. let two = both (is_double_result (result_kind (c.names x))) (is_result st k (result_kind (c.names x)) (results x) (c.places x)) means in
      named_assigned x at k 2 value_at (comes_more (result_located x k two.1) (λ p is. double_result_wide (result_kind (c.names x)) p.kind two.0 is)) h)
      (either (own || led) result e)
  wide_target_comes (stat.Target.plain (tree.Tree.named x (tree.Trees.and i tree.Trees.none) at)) k value_at e h =
      let two = both (is_wide_element st k (access_of (c.names x)) (c.places x)) (is_covered may c st i k) e in
      element_assigned x i at k 2 value_at two.1 (λ j. element_wide x 2 j (wide_element_found st k (access_of (c.names x)) (c.places x) two.0)) h
  wide_target_comes to k value_at e h = absurd (false≢true e)
