-- Assignments, of values and of what a MOVE or a SCAN answers; and calls by themselves.
use Rattle.std.proofs.Common.{◌≡◌, ℕ, ◌+◌, Bool, true, false, List, length, Option, Some, refl, sym, ap, subst}
use Rattle.std.specs.Prelude.{is_some, ◌&&◌, not, if◌then◌else◌}
use Rattle.std.proofs.lemmas.Bool.{false≢true}
use Rattle.std.proofs.Math.Logic.{⊎_elim}
use Rattle.spl_safe_values.specs.hp_word.declared.intrinsics.Intrinsic.{Intrinsic}
use Rattle.spl_safe_values.specs.spl_tree.declared.expressions.Kind.{Kind}
use Rattle.spl_safe_values.specs.spl_tree.declared.names_and_places.At.{At}
use Rattle.spl_safe_values.specs.spl_tree.Trees as tree
use Rattle.spl_safe_values.specs.spl_tree.Trees.{Tree, Trees}
use Rattle.spl_safe_values.specs.spl_tree.StatementTrees.{Target, Effect}
use Rattle.spl_safe_values.specs.spl_meaning.Names as n
use Rattle.spl_safe_values.specs.spl_meaning.Names.{Sort, intrinsic_profile}
use Rattle.spl_safe_values.specs.spl_meaning.Pending.{waiting, result_words}
use Rattle.spl_safe_values.specs.spl_meaning.Places.{Place}
use Rattle.spl_safe_values.specs.spl_meaning.References.{Here, Setting}
use Rattle.spl_safe_values.specs.spl_meaning.States.{State, Outcome, done, leaves, spent, ends, strays, code_dropped}
use Rattle.spl_safe_values.specs.spl_meaning.Statements.{is_intrinsic, is_intrinsic_alone, target_keeps_code, intrinsic_value, alone_value, assigned, assign, value_dropped, call_statement, effect_done}
use Rattle.spl_safe_values.specs.spl_meaning.Values.{Who, procedure, subroutine, Callee, Sense, an_intrinsic, sense_of, named_value, value, index, arguments}
use Rattle.spl_safe_values.specs.spl_code.Calls.{Scope}
use Rattle.spl_safe_values.specs.spl_covered.Covered.{is_covered, is_wide, are_covered_arguments}
use Rattle.spl_safe_values.specs.spl_covered.spl_whom.Whom.{is_gate}
use Rattle.spl_safe_values.specs.spl_names.Names.{read_with}
use Rattle.spl_stores.specs.spl_assigned.Assigned.{is_covered_assignment}
use Rattle.spl_stores.specs.spl_calls.Covered.{is_asked_call, is_covered_call}
use Rattle.spl_stores.specs.spl_moved.Moved.{is_covered_effect}
use Rattle.spl_stores.specs.spl_targets.Targets.{is_word_target}
use Rattle.spl_stores.specs.spl_wide.Wide.{is_wide_target}
use Rattle.spl_stores.specs.Covered.{is_stored_effect}
use Rattle.spl_safe_values.specs.Safe.{SafeCalls}
use Rattle.spl_safe_effects.specs.Laws.{AssignmentsAreSafe, StoredEffectsAreSafe, CallStatementsAreSafe}
use Rattle.spl_safe_values.proofs.spl_values_proofs.VariableLemmas.{both}
use Rattle.spl_safe_values.proofs.spl_word_operators_proofs.OperatorLemmas.{either}
use Rattle.spl_safe_values.proofs.Came.{Came, Comes, came_safe, Free, comes_go, comes_done}
use Rattle.spl_safe_values.proofs.IntrinsicLemmas.{served_comes}
use Rattle.spl_safe_values.proofs.ValueLemmas.{values_come, doubles_come, words_come, routines_come}
use Rattle.spl_safe_effects.proofs.MoveLemmas.{effects_come}
use Rattle.spl_safe_effects.proofs.TargetLemmas.{word_target_comes, wide_target_comes}

-- ---- what an intrinsic alone answers

-- before its condition code is dropped
kept_came : {A : Type 0} (P : A → Type 0) (o : Outcome A) → Came P (code_dropped o) → Came P o
kept_came P (done a t) h = h
kept_came P (leaves x t) h = absurd h
kept_came P (spent t) h = h
kept_came P (ends e t) h = h
kept_came P (strays t) h = h

-- what a name stands for that is an intrinsic
intrinsic_is : {A : Type 0} (o : Option Sort) → is_intrinsic o ≡ true → ((i : Intrinsic) → o ≡ Some (n.intrinsic i) → A) → A
intrinsic_is (Some (n.intrinsic i)) e h = h i refl
intrinsic_is o e h = absurd (false≢true e)

-- the value of a name, by its sense
abbrev value_as : Here → Callee → List ℕ → Trees → ℕ → Sense → State → Outcome (List ℕ)
value_as h call x es k sense s =
    named_value h x sense (λ s1. index h call es k s1) (λ p s1. arguments h call p.formals es (k + result_words p) s1) call k s

alone_comes : (h : Here) (call : Callee) (e : Tree) (k words : ℕ) → is_intrinsic_alone h.names e ≡ true
    → Comes (λ vs. length vs ≡ words) (value h call e k) → Comes (λ vs. length vs ≡ words) (alone_value h call e k)
alone_comes h call (tree.Tree.named x es at) k words e given =
    intrinsic_is (h.names x) e (λ i is.
    let sense : sense_of x (h.names x) ≡ an_intrinsic i = ap (λ (o : Option Sort). sense_of x o) is in
    let before = subst (λ (z : Sense). Comes (λ vs. length vs ≡ words) (value_as h call x es k z)) sense given in
    subst (λ (z : Sense). Comes (λ vs. length vs ≡ words) (intrinsic_value h call z es k)) (sym sense)
    (record { is = λ s whole. kept_came (λ vs. length vs ≡ words) (intrinsic_value h call (an_intrinsic i) es k s) (before.is s whole) }))
alone_comes h call e k words is given = absurd (false≢true is)

-- ---- assignments

-- of a value, to a target that takes so many words
assign_comes : (h : Here) (call : Callee) (to : Target) (e : Tree) (k words : ℕ) → Comes (λ vs. length vs ≡ words) (value h call e (waiting to k))
    → ((value_at : ℕ → State → Outcome (List ℕ)) → Comes (λ vs. length vs ≡ words) (value_at (waiting to k)) → Comes Free (assigned h call to value_at k))
    → Comes Free (assign h call to e k)
assign_comes h call to e k words given store =
    by (is_intrinsic_alone h.names e && target_keeps_code h.names to) refl
  where
    by : (t : Bool) → (is_intrinsic_alone h.names e && target_keeps_code h.names to) ≡ t
        → Comes Free (λ s. if t then assigned h call to (λ j s1. alone_value h call e j s1) k s else assigned h call to (λ j s1. value h call e j s1) k s)
    by true is =
        store (λ j s1. alone_value h call e j s1)
        (alone_comes h call e (waiting to k) words (both (is_intrinsic_alone h.names e) (target_keeps_code h.names to) is).0 given)
    by false is = store (λ j s1. value h call e j s1) given

module _ (may : Who → Bool) (c : Scope) (results : List ℕ → Option (Kind × Place)) (st : Setting) (call : Callee) (calls : SafeCalls may c.names call) where
  abbrev here : Here
  here = read_with c results st

  pub assignments_come : (to : Target) (e : Tree) (k : ℕ) → is_covered_assignment may c results st to e k ≡ true → Comes Free (assign here call to e k)
  assignments_come to e k h =
      ⊎_elim
      (λ word. let two = both (is_word_target may c results st to k) (is_covered may c st e (waiting to k)) word in
      assign_comes here call to e k 1 (values_come may c results st call calls e (waiting to k) two.1)
      (λ value_at given. word_target_comes may c results st call calls to k value_at two.0 given))
      (λ wide. let two = both (is_wide_target may c results st to k) (is_wide may c st e (waiting to k)) wide in
      assign_comes here call to e k 2 (doubles_come may c results st call calls e (waiting to k) two.1)
      (λ value_at given. wide_target_comes may c results st call calls to k value_at two.0 given))
      (either (is_word_target may c results st to k && is_covered may c st e (waiting to k)) (is_wide_target may c results st to k && is_wide may c st e (waiting to k)) h)

  -- of what a MOVE or a SCAN answers
  pub stored_effects_come : (d : ℕ) (to : Target) (e : Effect) (k : ℕ) → is_stored_effect may c results st to e k ≡ true
      → Comes Free (assigned here call to (λ j t. effect_done here call d true e j t) k)
  stored_effects_come d to e k h =
      let two = both (is_word_target may c results st to k) (is_covered_effect may c st true e (waiting to k)) h in
      word_target_comes may c results st call calls to k (λ j t. effect_done here call d true e j t) two.0
      (effects_come may c results st call calls d true e (waiting to k) two.1)

  -- ---- calls by themselves

  -- by whether they call an intrinsic, and by the sense of the name
  abbrev call_as : List ℕ → Trees → At → ℕ → Bool → Sense → State → Outcome (Unit {0})
  call_as x es at k t sense s =
      if t then value_dropped (intrinsic_value here call sense es k s) else value_dropped (value here call (tree.Tree.named x es at) k s)

  dropped_comes : {P : List ℕ → Type 0} {f : State → Outcome (List ℕ)} → Comes P f → Comes Free (λ s. value_dropped (f s))
  dropped_comes h = comes_go h (λ vs _. comes_done tt tt)

  asked_comes : (x : List ℕ) (es : Trees) (at : At) (k : ℕ) (i : Intrinsic) → c.names x ≡ Some (n.intrinsic i)
      → are_covered_arguments may c st (intrinsic_profile i).formals es (k + result_words (intrinsic_profile i)) ≡ true
      → Comes Free (call_statement here call x es at k)
  asked_comes x es at k i is covered =
      subst (λ (o : Option Sort). Comes Free (call_as x es at k (is_intrinsic o) (sense_of x o))) (sym is)
      (dropped_comes (comes_go (words_come may c results st call calls (intrinsic_profile i).formals es (k + result_words (intrinsic_profile i)) covered)
      (λ ws _. served_comes i ws)))

  routine_called : (x : List ℕ) (es : Trees) (at : At) (k : ℕ) → is_intrinsic (c.names x) ≡ false → {P : List ℕ → Type 0}
      → Comes P (value here call (tree.Tree.named x es at) k) → Comes Free (call_statement here call x es at k)
  routine_called x es at k none h =
      subst (λ (t : Bool). Comes Free (call_as x es at k t (sense_of x (c.names x)))) (sym none) (dropped_comes h)

  pub call_statements_come : (x : List ℕ) (es : Trees) (at : At) (k : ℕ) → is_covered_call may c st x (c.names x) es k ≡ true
      → Comes Free (call_statement here call x es at k)
  call_statements_come x es at k e = by (c.names x) refl e
    where
      by : (o : Option Sort) → c.names x ≡ o → is_covered_call may c st x o es k ≡ true → Comes Free (call_statement here call x es at k)
      by (Some (n.intrinsic i)) is h =
          let asked = is_asked_call may c st x (Some (n.intrinsic i)) es k in
          ⊎_elim
          (λ question. asked_comes x es at k i is
          (both (is_gate st x i) (are_covered_arguments may c st (intrinsic_profile i).formals es (k + result_words (intrinsic_profile i))) question).1)
          (λ none. absurd (false≢true none)) (either asked false h)
      by (Some (n.procedure p)) is h =
          let two = both (may (procedure x) && not st.split) (are_covered_arguments may c st p.formals es (k + result_words p)) h in
          let first = both (may (procedure x)) (not st.split) two.0 in
          routine_called x es at k (ap is_intrinsic is)
          (routines_come may c results st call calls x es at k (procedure x) p (ap (λ (q : Option Sort). sense_of x q) is) first.0 two.1)
      by (Some (n.subroutine p)) is h =
          let two = both (may (subroutine x) && is_some (c.subroutines x)) (are_covered_arguments may c st p.formals es (k + result_words p)) h in
          let first = both (may (subroutine x)) (is_some (c.subroutines x)) two.0 in
          routine_called x es at k (ap is_intrinsic is)
          (routines_come may c results st call calls x es at k (subroutine x) p (ap (λ (q : Option Sort). sense_of x q) is) first.0 two.1)
      by o is h = absurd (false≢true h)

-- ---- the laws

pub assignments_safe : AssignmentsAreSafe
assignments_safe may c results st call to e k s calls h whole = came_safe Free _ ((assignments_come may c results st call calls to e k h).is s whole)

pub stored_effects_safe : StoredEffectsAreSafe
stored_effects_safe may c results st call d to e k s calls h whole =
    came_safe Free _ ((stored_effects_come may c results st call calls d to e k h).is s whole)

pub call_statements_safe : CallStatementsAreSafe
call_statements_safe may c results st call x es at k s calls h whole =
    came_safe Free _ ((call_statements_come may c results st call calls x es at k h).is s whole)
